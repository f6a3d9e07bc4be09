-- Equations of effects and of what is made of them once are propositions.
use Rattle.std.specs.Prelude.{◌≡◌, List, Bool, Option, refl}
use Rattle.std.specs.Coded.{Coded, Coded-set, code_by, coded×, coded_bool, coded_list, coded_option}
use Rattle.fac_base.specs.Signatures.{Signature, coded_signature}
use Rattle.fac_rows.specs.declared.row_effect.RowEffect.{RowEffect}

abbrev coded_row_effect : Coded RowEffect
coded_row_effect = code_by (Signature × Bool) (coded× coded_signature coded_bool) (λ r. (r.numbered, r.bindable)) (λ p. record { numbered = p.0; bindable = p.1 }) (λ _. refl)

pub entries_prop : (xs ys : List (Option RowEffect)) → IsProp (xs ≡ ys)
entries_prop xs ys = Coded-set (coded_list (coded_option coded_row_effect)) xs ys

pub effects_prop : (a b : Option Signature) → IsProp (a ≡ b)
effects_prop a b = Coded-set (coded_option coded_signature) a b
