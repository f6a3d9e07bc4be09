-- Frames of the machine as frames of the meaning: each value stands for an item that is put for its cell.
use Rattle.std.proofs.Common.{◌≡◌, ℕ, zero, suc, List, [], ◌∷◌, ◌++◌, length, map, Option, Some, None, refl, ap, sym, ◌∙◌}
use Rattle.std.specs.Prelude.{slice_get}
use Rattle.fac_lang.specs.Phrases.{Item, held, Value}
use Rattle.fac_locals.specs.Frames.{ArePut, items_at}
use Rattle.fac_store.specs.MachineValues.{MValue, Kept, none_kept, kept, kept_list, cells_at}
use Rattle.fac_carry.specs.MachineView.{Templates, value_view, values_view, kept_view}

abbrev pub helds : Templates → List MValue → List Item
helds T vs = map held (values_view T vs)

module _ (T : Templates) where
  pub helds_put : (vs : List MValue) → ArePut (helds T vs)
  helds_put [] = tt
  helds_put (v ∷ vs) = (tt, helds_put vs)

  pub helds_count : (vs : List MValue) → length (helds T vs) ≡ length vs
  helds_count [] = refl
  helds_count (v ∷ vs) = ap suc (helds_count vs)

  pub helds_more : (vs us : List MValue) → helds T (vs ++ us) ≡ helds T vs ++ helds T us
  helds_more [] us = refl
  helds_more (v ∷ vs) us = ap (λ (is : List Item). held (value_view T v) ∷ is) (helds_more vs us)

  pub held_at : (vs : List MValue) (k : ℕ) (i : Item) → slice_get (helds T vs) k ≡ Some i → (v : MValue) × (slice_get vs k ≡ Some v) × (i ≡ held (value_view T v))
  held_at [] k i e = absurd (cc)
  held_at (v ∷ vs) zero i e = let same : held (value_view T v) ≡ i = cc in (v, refl, sym same)
  held_at (v ∷ vs) (suc k) i e = held_at vs k i e

  -- what cells hold
  abbrev Captured : List ℕ → List MValue → List Item → Type 0
  Captured ks F is = (vs : List MValue) × (cells_at ks F ≡ Some vs) × (is ≡ helds T vs)

  captured_by : (k : ℕ) (ks : List ℕ) (F : List MValue) (is : List Item) (o : Option Item) (r : Option (List Item)) → slice_get (helds T F) k ≡ o → items_at ks (helds T F) ≡ r → ((js : List Item) → r ≡ Some js → Captured ks F js) →
      elim o [ None ↦ None | Some i ↦ elim r [ None ↦ None | Some js ↦ Some (i ∷ js) ] ] ≡ Some is → Captured (k ∷ ks) F is
  captured_by k ks F is None r eo er more e = absurd (cc)
  captured_by k ks F is (Some i) None eo er more e = absurd (cc)
  captured_by k ks F is (Some i) (Some js) eo er more e =
      let first = held_at F k i eo in
      let rest = more js refl in
      let all : i ∷ js ≡ is = cc in
      (first.0 ∷ rest.0, rw (first.1, rest.1) refl, sym all ∙ ap (λ (j : Item). j ∷ js) first.2 ∙ ap (λ (xs : List Item). held (value_view T first.0) ∷ xs) rest.2)

  pub captured_values : (ks : List ℕ) (F : List MValue) (is : List Item) → items_at ks (helds T F) ≡ Some is → Captured ks F is
  captured_values [] F is e = let none : [] ≡ is = cc in ([], refl, sym none)
  captured_values (k ∷ ks) F is e = captured_by k ks F is (slice_get (helds T F) k) (items_at ks (helds T F)) refl refl (λ js r. captured_values ks F js r) e

  pub kept_list_view : (k : Kept) → kept_view T k ≡ values_view T (kept_list k)
  kept_list_view none_kept = refl
  kept_list_view (kept v k) = ap (λ (vs : List Value). value_view T v ∷ vs) (kept_list_view k)
