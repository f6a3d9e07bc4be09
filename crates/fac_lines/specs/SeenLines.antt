-- What a contract sees of the lines of a source.
use Rattle.std.specs.Prelude.{ℕ, List, Bool, refl}
use Rattle.std.specs.Coded.{Coded, code_by, coded×, coded_ℕ, coded_list, coded_bool}

-- the bytes that were read and not given out, the source, and whether it answered that nothing is left
pub record LinesSeen (S : Type 0) : Type 0 where
  pub kept : List ℕ
  pub source : S
  pub ended : Bool

abbrev pub lines_code : {S : Type 0} → Coded S → Coded (LinesSeen S)
lines_code {S = S} code =
    code_by (List ℕ × (S × Bool)) (coded× (coded_list coded_ℕ) (coded× code coded_bool)) (λ l. (l.kept, (l.source, l.ended))) (λ p. record { kept = p.0; source = p.1.0; ended = p.1.1 }) (λ _. refl)
