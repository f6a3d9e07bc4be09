-- Effects with equal parts.
use Rattle.std.proofs.Common.{◌≡◌, List, [], ◌∷◌, ◌++◌, Some, None, refl, ap, ◌∙◌, sym}
use Rattle.std.specs.Prelude.{ℕ, suc, length}
use Rattle.fac_base.specs.Effects.{inputs_count}
use Rattle.fac_base.specs.declared.effect.Input.{Input}
use Rattle.fac_base.specs.EffectView.{inputs_tree}
use Rattle.fac_base.specs.Signatures.{Inputs, no_inputs, value, quoted}

-- inputs behind others
abbrev joined : Inputs → Inputs → Inputs
joined no_inputs js = js
joined (value x is) js = value x (joined is js)
joined (quoted x e is) js = quoted x e (joined is js)

one_joined : (n : List ℕ) (q : _) (is js : List Input) → inputs_tree (is ++ js) ≡ joined (inputs_tree is) (inputs_tree js) → inputs_tree ((record { name = n; quot = q } ∷ is) ++ js) ≡ joined (inputs_tree (record { name = n; quot = q } ∷ is)) (inputs_tree js)
one_joined n None is js h = ap (value n) h
one_joined n (Some e) is js h = ap (quoted n e.value) h

tree_joined : (is js : List Input) → inputs_tree (is ++ js) ≡ joined (inputs_tree is) (inputs_tree js)
tree_joined [] js = refl
tree_joined (i ∷ is) js = one_joined i.name i.quot is js (tree_joined is js)

pub more_inputs_trees : (is js : List Input) (i j : Input) → inputs_tree is ≡ inputs_tree js → inputs_tree (i ∷ []) ≡ inputs_tree (j ∷ []) → inputs_tree (is ++ i ∷ []) ≡ inputs_tree (js ++ j ∷ [])
more_inputs_trees is js i j same same_one =
    tree_joined is (i ∷ []) ∙ ap (λ t. joined t (inputs_tree (i ∷ []))) same ∙ ap (joined (inputs_tree js)) same_one ∙ sym (tree_joined js (j ∷ []))

one_counted : (n : List ℕ) (q : _) (is : List Input) → inputs_count (inputs_tree is) ≡ length is → inputs_count (inputs_tree (record { name = n; quot = q } ∷ is)) ≡ length (record { name = n; quot = q } ∷ is)
one_counted n None is h = ap suc h
one_counted n (Some e) is h = ap suc h

pub inputs_counted : (is : List Input) → inputs_count (inputs_tree is) ≡ length is
inputs_counted [] = refl
inputs_counted (i ∷ is) = one_counted i.name i.quot is (inputs_counted is)
