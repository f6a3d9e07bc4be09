-- The slots of a class are those of its chain.
use Rattle.std.proofs.Common.{◌≡◌, ◌<◌, ℕ, zero, suc, ◌-◌, List, [], ◌∷◌, ◌++◌, refl, sym, ap, ◌∙◌, append_assoc, arith}
use Rattle.std.specs.Prelude.{Option, Some, None}
use Rattle.std.proofs.lemmas.List.{append-nil}
use Rattle.fac_lang.specs.declared.program.ClassDef.{ClassDef}
use Rattle.fac_lang.specs.declared.program.Shape.{Shape}
use Rattle.fac_lang.specs.declared.program.Shape.TheVariants.{Kind as built_in, Tuple as tuple_class, Union as union, Single as single}
use Rattle.fac_lang.specs.Classes.{shape_at, parent_in, slots_within}
use Rattle.fac_classes.specs.inner.Chains.{chain_within, slots_in, slots_down}

no_chain : (n : ℕ) (cs : List ClassDef) → chain_within n cs None ≡ []
no_chain zero cs = refl
no_chain (suc n) cs = refl

-- the slots of a class, by its shape
abbrev slots_by : ℕ → List ClassDef → Option Shape → List (List ℕ)
slots_by n cs o =
    elim o [
      | None ↦ []
      | Some s ↦ elim s [ tuple_class p ss ↦ elim p [ None ↦ ss | Some q ↦ slots_within n cs q ++ ss ] | _ ↦ [] ]
    ]

pub chain_slots : (n : ℕ) (cs : List ClassDef) (c : ℕ) → slots_down cs (chain_within n cs (Some c)) ≡ slots_within n cs c
chain_slots zero cs c = refl
chain_slots (suc n) cs c = by (λ q. chain_slots n cs q) (shape_at cs c)
  where
    none : slots_down cs (chain_within n cs None) ≡ []
    none = ap (slots_down cs) (no_chain n cs)

    by : ((q : ℕ) → slots_down cs (chain_within n cs (Some q)) ≡ slots_within n cs q) → (o : Option Shape) → slots_down cs (chain_within n cs (parent_in o)) ++ slots_in o ≡ slots_by n cs o
    by more None = ap (λ (xs : List (List ℕ)). xs ++ []) none
    by more (Some (built_in j)) = ap (λ (xs : List (List ℕ)). xs ++ []) none
    by more (Some (tuple_class None ss)) = ap (λ (xs : List (List ℕ)). xs ++ ss) none
    by more (Some (tuple_class (Some q) ss)) = ap (λ (xs : List (List ℕ)). xs ++ ss) (more q)
    by more (Some (union ms)) = ap (λ (xs : List (List ℕ)). xs ++ []) none
    by more (Some single) = ap (λ (xs : List (List ℕ)). xs ++ []) none

-- the chain from its end
pub slots_last : (cs : List ClassDef) (chain : List ℕ) (c : ℕ) → slots_down cs (chain ++ c ∷ []) ≡ slots_in (shape_at cs c) ++ slots_down cs chain
slots_last cs [] c = sym (append-nil (slots_in (shape_at cs c)))
slots_last cs (d ∷ chain) c = ap (λ (xs : List (List ℕ)). xs ++ slots_in (shape_at cs d)) (slots_last cs chain c) ∙ append_assoc (slots_in (shape_at cs c)) (slots_down cs chain) (slots_in (shape_at cs d))

-- one step of the loop that finds it
pub chain_step : (n : ℕ) (cs : List ClassDef) (chain : List ℕ) (c : ℕ) → 0 < n → chain ++ chain_within n cs (Some c) ≡ (chain ++ c ∷ []) ++ chain_within (n - 1) cs (parent_in (shape_at cs c))
chain_step zero cs chain c lt = absurd (omega (arith, lt))
chain_step (suc n) cs chain c lt =
    sym (append_assoc chain (c ∷ []) (chain_within n cs (parent_in (shape_at cs c)))) ∙ ap (λ (m : ℕ). (chain ++ c ∷ []) ++ chain_within m cs (parent_in (shape_at cs c))) (let e : n ≡ suc n - 1 = omega arith in e)

pub chain_end : (n : ℕ) (cs : List ClassDef) (chain : List ℕ) → chain ++ chain_within n cs None ≡ chain
chain_end n cs chain = ap (λ (xs : List ℕ). chain ++ xs) (no_chain n cs) ∙ append-nil chain
