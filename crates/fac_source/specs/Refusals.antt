-- Refusals of names, and which of two is told.
use Rattle.std.specs.Prelude.{ℕ, nat_eq, nat_lt, List, [], ◌∷◌, Option, Some, None, Bool, true, false, ◌&&◌, ◌||◌, if◌then◌else◌}
use Rattle.fac_source.specs.declared.tok.Tok.{Tok}
use Rattle.fac_source.specs.declared.refusal.NameFault.{NameFault}
use Rattle.fac_source.specs.declared.refusal.NameKind.{NameKind}
use Rattle.fac_source.specs.declared.refusal.NameKind.TheVariants.{Unknown, Ambiguous, Twice, NoVocab, NotClass, NotGeneric, BadParent, Cycle, TooMany, Undefined}

-- the place of each kind of refusal in the order of the table
abbrev pub rank : NameKind → ℕ
rank Unknown = 0
rank (Ambiguous a b) = 1
rank Twice = 2
rank NoVocab = 3
rank NotClass = 4
rank NotGeneric = 5
rank BadParent = 6
rank Cycle = 7
rank TooMany = 8
rank Undefined = 9

abbrev pub fault : NameKind → Tok → NameFault
fault kind t = record { place = t.place; kind = kind; name = t.text }

abbrev pub fault_if : Bool → NameKind → Tok → List NameFault
fault_if true kind t = fault kind t ∷ []
fault_if false kind t = []

abbrev pub comes_before : NameFault → NameFault → Bool
comes_before f g =
    nat_lt f.place.file g.place.file ||
    (nat_eq f.place.file g.place.file && (nat_lt f.place.token g.place.token || (nat_eq f.place.token g.place.token && nat_lt (rank f.kind) (rank g.kind))))

-- the first by place and then by kind, and of two that are alike there the one that was found first
abbrev pub sooner : Option NameFault → NameFault → Option NameFault
sooner None f = Some f
sooner (Some g) f = Some (if comes_before f g then f else g)
