-- Each effect inside an effect is less deep.
use Rattle.std.specs.Prelude.{ℕ, ◌≤◌, max, List, [], ◌∷◌, Some, None}
use Rattle.std.proofs.Common.{arith}
use denote.Param.Weighed.{most}
use Rattle.fac_base.specs.declared.effect.Input.{Input}
use Rattle.fac_base.specs.declared.effect.Effect.TheDeep.{deep-Input}
use Rattle.fac_base.specs.Signatures.{inputs_depth}
use Rattle.fac_base.specs.EffectView.{inputs_tree}

one_falls : (n : List ℕ) (q : _) (is : List Input) → max (most deep-Input is) 0 ≤ inputs_depth (inputs_tree is) → max (most deep-Input (record { name = n; quot = q } ∷ is)) 0 ≤ inputs_depth (inputs_tree (record { name = n; quot = q } ∷ is))
one_falls n None is h = omega arith
one_falls n (Some e) is h = omega arith

pub deep_falls : (is : List Input) → max (most deep-Input is) 0 ≤ inputs_depth (inputs_tree is)
deep_falls [] = omega arith
deep_falls (i ∷ is) = one_falls i.name i.quot is (deep_falls is)
