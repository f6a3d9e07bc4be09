-- The table of marks grows.
use Rattle.std.proofs.Common.{◌≡◌, ℕ, zero, suc, ◌+◌, ◌<◌, ◌⊎◌, inl, inr, List, [], ◌∷◌, ◌++◌, Result, Ok, Err, IfOk, OnErr, length, get_or, map, refl, sym, ap, subst, ◌∙◌, arith, length-append, append-nil}
use Rattle.std.proofs.lemmas.List.{get_or_append_left}
use Rattle.std.proofs.Math.Seq.{get_or-append_seam}
use Rattle.std.specs.Map.{keys_of, values_of}
use Rattle.fac_lang.specs.Phrases.{Mark}
use Rattle.fac_abs.specs.declared.mark_node.MarkNode.{MarkNode}
use Rattle.fac_abs.specs.declared.mark_node.MarkNode.TheVariants.{Any}
use Rattle.fac_abs.specs.Marks.{mark_depth}
use Rattle.fac_abs.specs.MarkTrees.{Naming, tree, trees}
use Rattle.fac_abs.specs.inner.Interning.{Numbers, there, added}
use Rattle.fac_abs.specs.inner.Interning.{HasPartsBelow, IsOrdered, TellDepths, IsTable}
use Rattle.fac_abs.proofs.InTurnLemmas.{in_turn_append, fits_push}
use Rattle.fac_abs.proofs.StackLemmas.{map_push}

-- the place of an element is before the last, or the last
early_or_last : (i n : ℕ) → i < n + 1 → (i < n) ⊎ (i ≡ n)
early_or_last zero zero h = inr refl
early_or_last zero (suc n) h = inl (omega arith)
early_or_last (suc i) zero h = absurd (omega arith)
early_or_last (suc i) (suc n) h = elim (early_or_last i n (omega arith)) [ inl l ↦ inl (omega arith) | inr e ↦ inr (ap suc e) ]

module _ (ns : List MarkNode) (n : MarkNode) (absent : (k : ℕ) → k < length ns → get_or ns k Any ≡ n → ⊥) where
  long : length (ns ++ n ∷ []) ≡ length ns + 1
  long = omega (arith, length-append ns (n ∷ []))

  old_at : (k : ℕ) → k < length ns → get_or (ns ++ n ∷ []) k Any ≡ get_or ns k Any
  old_at k h = get_or_append_left ns (n ∷ []) Any k h

  new_at : (k : ℕ) → k ≡ length ns → get_or (ns ++ n ∷ []) k Any ≡ n
  new_at k e = ap (λ (i : ℕ). get_or (ns ++ n ∷ []) i Any) e ∙ get_or-append_seam ns n [] Any

  apart_by : ((i j : ℕ) → i < length ns → j < length ns → get_or ns i Any ≡ get_or ns j Any → i ≡ j) → (i j : ℕ) → (i < length ns) ⊎ (i ≡ length ns) → (j < length ns) ⊎ (j ≡ length ns) → get_or (ns ++ n ∷ []) i Any ≡ get_or (ns ++ n ∷ []) j Any → i ≡ j
  apart_by distinct i j (inl h) (inl l) e = distinct i j h l (sym (old_at i h) ∙ e ∙ old_at j l)
  apart_by distinct i j (inl h) (inr l) e = absurd (absent i h (sym (old_at i h) ∙ e ∙ new_at j l))
  apart_by distinct i j (inr h) (inl l) e = absurd (absent j l (sym (old_at j l) ∙ sym e ∙ new_at i h))
  apart_by distinct i j (inr h) (inr l) e = h ∙ sym l

  pub table_push : IsTable ns → IsTable (ns ++ n ∷ [])
  table_push t =
      let some = t.some in
      record {
        some = omega (arith, long);
        first = old_at 0 t.some ∙ t.first;
        distinct = λ i j h l e. apart_by t.distinct i j (early_or_last i (length ns) (omega (arith, long))) (early_or_last j (length ns) (omega (arith, long))) e;
      }

-- the table of the first node alone
pub first_table : IsTable (Any ∷ [])
first_table = record { some = omega arith; first = refl; distinct = λ i j h l e. omega arith }

-- A node has this number in a list that grew, or stayed.
pub record IsInterned (ns after : List MarkNode) (n : MarkNode) (number : ℕ) : Type 0 where
  pub more : List MarkNode
  pub grows : after ≡ ns ++ more
  pub within : number < length after
  pub node_is : get_or after number Any ≡ n

module _ (before after : List (MarkNode × ℕ)) (node : MarkNode) (depth : ℕ) where
  keys_push : keys_of (before ++ (node, depth) ∷ []) ≡ keys_of before ++ node ∷ []
  keys_push = map_push (λ (p : MarkNode × ℕ). p.0) before (node, depth)

  pub table_after : IsTable (keys_of before) → (r : ℕ) → Numbers before after node depth r → IsTable (keys_of after)
  table_after t r (there h e same) = subst (λ (es : List (MarkNode × ℕ)). IsTable (keys_of es)) (sym same) t
  table_after t r (added absent place e) = subst (λ (es : List (MarkNode × ℕ)). IsTable (keys_of es)) (sym e) (subst IsTable (sym keys_push) (table_push (keys_of before) node absent t))

  pub interned : (r : ℕ) → Numbers before after node depth r → IsInterned (keys_of before) (keys_of after) node r
  interned r (there h e same) = subst (λ (es : List (MarkNode × ℕ)). IsInterned (keys_of before) (keys_of es) node r) (sym same) (record { more = []; grows = sym (append-nil (keys_of before)); within = h; node_is = e })
  interned r (added absent place e) =
      let long : length (keys_of before ++ node ∷ []) ≡ length (keys_of before) + 1 = omega (arith, length-append (keys_of before) (node ∷ [])) in
      let now : keys_of after ≡ keys_of before ++ node ∷ [] = ap keys_of e ∙ keys_push in
      subst (λ (ks : List MarkNode). IsInterned (keys_of before) ks node r) (sym now) (record {
        more = node ∷ [];
        grows = refl;
        within = omega (arith, long, place);
        node_is = ap (λ (i : ℕ). get_or (keys_of before ++ node ∷ []) i Any) place ∙ get_or-append_seam (keys_of before) node [] Any;
      })

  module _ (templates : ℕ) (frames : List (List ℕ)) where
    pub ordered_after : IsOrdered templates frames (keys_of before) → HasPartsBelow templates frames (length (keys_of before)) node → (r : ℕ) → Numbers before after node depth r → IsOrdered templates frames (keys_of after)
    ordered_after o parts r (there h e same) = subst (λ (es : List (MarkNode × ℕ)). IsOrdered templates frames (keys_of es)) (sym same) o
    ordered_after o parts r (added absent place e) =
        subst (λ (ks : List MarkNode). IsOrdered templates frames ks) (sym (ap keys_of e ∙ keys_push)) (fits_push (HasPartsBelow templates frames) (keys_of before) 0 (length (keys_of before)) node o (omega arith) parts)

    told_push : (N : Naming) → values_of before ≡ map mark_depth (trees N frames (keys_of before)) → depth ≡ mark_depth (tree N frames (trees N frames (keys_of before)) node) → values_of (before ++ (node, depth) ∷ []) ≡ map mark_depth (trees N frames (keys_of before ++ node ∷ []))
    told_push N told deep =
        let made : List Mark = trees N frames (keys_of before) in
        map_push (λ (p : MarkNode × ℕ). p.1) before (node, depth) ∙ ap (λ (t : List ℕ). t ++ depth ∷ []) told ∙ ap (λ (d : ℕ). map mark_depth made ++ d ∷ []) deep ∙ sym (map_push mark_depth made (tree N frames made node)) ∙ ap (map mark_depth) (sym (in_turn_append (tree N frames) (keys_of before) (node ∷ []) []))

    pub told_after : TellDepths frames (keys_of before) (values_of before) → ((N : Naming) → depth ≡ mark_depth (tree N frames (trees N frames (keys_of before)) node)) → (r : ℕ) → Numbers before after node depth r → TellDepths frames (keys_of after) (values_of after)
    told_after told deep r (there h e same) = subst (λ (es : List (MarkNode × ℕ)). TellDepths frames (keys_of es) (values_of es)) (sym same) told
    told_after told deep r (added absent place e) = λ N.
        ap values_of e ∙ told_push N (told N) (deep N) ∙ ap (λ (ks : List MarkNode). map mark_depth (trees N frames ks)) (sym (ap keys_of e ∙ keys_push))

  module _ {E : Type 0} where
    pub table_by : IsTable (keys_of before) → (r : Result ℕ E) → IfOk r (λ k. Numbers before after node depth k) → OnErr r (after ≡ before) → IsTable (keys_of after)
    table_by t (Ok k) f g = table_after t k f
    table_by t (Err e) f g = subst (λ (es : List (MarkNode × ℕ)). IsTable (keys_of es)) (sym g) t

    pub interned_by : (r : Result ℕ E) → IfOk r (λ k. Numbers before after node depth k) → IfOk r (λ k. IsInterned (keys_of before) (keys_of after) node k)
    interned_by (Ok k) f = interned k f
    interned_by (Err e) f = tt

    pub ordered_by : (templates : ℕ) (frames : List (List ℕ)) → IsOrdered templates frames (keys_of before) → HasPartsBelow templates frames (length (keys_of before)) node → (r : Result ℕ E) → IfOk r (λ k. Numbers before after node depth k) → OnErr r (after ≡ before) → IsOrdered templates frames (keys_of after)
    ordered_by templates frames o parts (Ok k) f g = ordered_after templates frames o parts k f
    ordered_by templates frames o parts (Err e) f g = subst (λ (es : List (MarkNode × ℕ)). IsOrdered templates frames (keys_of es)) (sym g) o

    pub told_by : (templates : ℕ) (frames : List (List ℕ)) → TellDepths frames (keys_of before) (values_of before) → ((N : Naming) → depth ≡ mark_depth (tree N frames (trees N frames (keys_of before)) node)) → (r : Result ℕ E) → IfOk r (λ k. Numbers before after node depth k) → OnErr r (after ≡ before) → TellDepths frames (keys_of after) (values_of after)
    told_by templates frames told deep (Ok k) f g = told_after templates frames told deep k f
    told_by templates frames told deep (Err e) f g = subst (λ (es : List (MarkNode × ℕ)). TellDepths frames (keys_of es) (values_of es)) (sym g) told

-- keys stay where all stays
pub keys_stay : {E : Type 0} (before after : List (MarkNode × ℕ)) (r : Result ℕ E) → OnErr r (after ≡ before) → OnErr r (keys_of after ≡ keys_of before)
keys_stay before after (Ok k) f = tt
keys_stay before after (Err e) f = ap keys_of f
