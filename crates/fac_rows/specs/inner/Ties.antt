-- Rows that are bound to stacks by their numbers.
use Rattle.std.specs.Prelude.{ℕ, ◌+◌, List, length, drop, Bool, false, ◌&&◌, nat_eq, Option, Some, None, ◌≡◌}
use Rattle.fac_lang.specs.Phrases.{Mark}
use Rattle.fac_abs.specs.RowVariables.{Row, hidden, named_row}
use Rattle.fac_abs.specs.declared.reached.Reached.{Reached}
use Rattle.fac_abs.specs.declared.rule.Rule.{Rule}
use Rattle.fac_abs.specs.Marks.{AbstractStack, dead, on, base_eq, cover_marks}
use Rattle.fac_abs.specs.MarkTrees.{Naming}
use Rattle.fac_abs.specs.SeenMarks.{MarksSeen, reached_seen}
use Rattle.fac_rows.specs.RowBinding.{Binding, Tied, bound_to, tied, untied, tie_row}
use Rattle.fac_rows.specs.SeenBindings.{binding_seen, IsBinding}

-- the row variable of this name, or the hidden row
abbrev pub row_by : Option (List ℕ) → Row
row_by None = hidden
row_by (Some x) = named_row x

-- whether what a row is bound to covers what stands below so many outputs
abbrev pub covers_rest : AbstractStack → ℕ → Option Row → List Mark → Bool
covers_rest dead outs b ms = false
covers_rest (on c rs) outs b ms = base_eq c b && (nat_eq (length ms) (length rs + outs) && cover_marks rs (drop outs ms))

-- a stack that an input left leaves the rows as they are, or breaks a rule
abbrev pub IsTieBy : MarksSeen → Reached → Option Rule → (Naming → AbstractStack → Binding → Tied) → Type 0
IsTieBy M A None ties = (N : Naming) (bs : Binding) → ties N (reached_seen N M A) bs ≡ tied bs
IsTieBy M A (Some r) ties = (N : Naming) (bs : Binding) → ties N (reached_seen N M A) bs ≡ untied r

-- what input k left with so many outputs, against its row, bound or not
abbrev pub IsTieOfRow : MarksSeen → ℕ → ℕ → Row → Reached → List (Row × Reached) → List (Row × Reached) → Option Rule → Type 0
IsTieOfRow M k outs r B bs cs None =
    IsBinding M cs × ((N : Naming) → tie_row k outs r (bound_to r (binding_seen N M bs)) (reached_seen N M B) (binding_seen N M bs) ≡ tied (binding_seen N M cs))
IsTieOfRow M k outs r B bs cs (Some rule) = (cs ≡ bs) × ((N : Naming) → tie_row k outs r (bound_to r (binding_seen N M bs)) (reached_seen N M B) (binding_seen N M bs) ≡ untied rule)
