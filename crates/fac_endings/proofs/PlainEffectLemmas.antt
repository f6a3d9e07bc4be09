-- Effects of plain values as trees.
use Rattle.std.proofs.Common.{◌≡◌, ℕ, List, [], ◌∷◌, map, refl, ap}
use Rattle.fac_base.specs.EffectView.{inputs_tree}
use Rattle.fac_lang.specs.PrimitiveWords.{plain_inputs}
use Rattle.fac_base.specs.Signatures.{value}
use Rattle.fac_endings.specs.inner.PlainEffects.{plain_input}

pub plain_tree : (names : List (List ℕ)) → inputs_tree (map plain_input names) ≡ plain_inputs names
plain_tree [] = refl
plain_tree (n ∷ ns) = ap (value n) (plain_tree ns)
