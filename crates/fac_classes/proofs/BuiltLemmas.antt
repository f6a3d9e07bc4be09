-- What is read of built classes.
use Rattle.std.proofs.Common.{◌≡◌, ◌<◌, ◌≤◌, inl, inr, ℕ, zero, suc, List, [], ◌∷◌, map, length, get_or, Bool, true, false, refl, sym, ap, ◌∙◌, arith}
use Rattle.std.specs.Prelude.{nat_eq, ◌||◌, ◌&&◌, not, Option, Some, None, slice_get}
use Rattle.std.specs.List.{range_with_len}
use Rattle.std.proofs.lemmas.List.FromFn.{get_or-map-range_with_len, length-map-range_with_len}
use Rattle.std.proofs.lemmas.Option.{get_or_from_slice_get}
use Rattle.std.proofs.lemmas.Bool.{cases_Bool, false_from_ne_true}
use Rattle.fac_lang.specs.declared.program.ClassDef.{ClassDef}
use Rattle.fac_lang.specs.Classes.{has_own, own_kind, own_count, has_kind}
use Rattle.fac_lang.specs.Whole.{each_below}
use Rattle.fac_classes.specs.ClassKinds.{place_of, lies_within, kind_total}
use Rattle.fac_classes.specs.inner.OwnKinds.{own_kinds, owners_from}
use Rattle.fac_classes.proofs.ListLemmas.{same_number, not_true, both_first, both_second}
use Rattle.fac_classes.proofs.KindLemmas.{own_kind_at, owner_count}

-- own kinds
own_length : (ds : List ClassDef) (k : ℕ) → length (own_kinds k ds) ≡ length ds
own_length [] k = refl
own_length (d ∷ ds) k = by (has_own d.shape) (own_length ds (suc k)) (own_length ds k)
  where
    by : (b : Bool) → length (own_kinds (suc k) ds) ≡ length ds → length (own_kinds k ds) ≡ length ds → (let xs : List (Option ℕ) = elim b [ true ↦ Some k ∷ own_kinds (suc k) ds | false ↦ None ∷ own_kinds k ds ] in length xs ≡ suc (length ds))
    by true f g = ap suc f
    by false f g = ap suc g

pub own_within : (cs defs : List ClassDef) (own : List (Option ℕ)) (c : ℕ) → own ≡ own_kinds 8 defs → defs ≡ cs → c < length cs → c < length own
own_within cs defs own c e v lt =
    let n : length own ≡ length cs = ap length e ∙ own_length defs 8 ∙ ap length v in
    omega (arith, n, lt)

pub own_read : (cs defs : List ClassDef) (own : List (Option ℕ)) (c : ℕ) (r : Option ℕ) → own ≡ own_kinds 8 defs → defs ≡ cs → c < length cs → r ≡ get_or own c r → r ≡ own_kind 8 cs c
own_read cs defs own c r e v lt q =
    q ∙ get_or_from_slice_get own c (own_kind 8 cs c) r (ap (λ (xs : List (Option ℕ)). slice_get xs c) (e ∙ ap (own_kinds 8) v) ∙ own_kind_at cs 8 c lt)

-- places
pub place_within : (cs defs : List ClassDef) (places : List ℕ) (c : ℕ) → places ≡ map (place_of defs) (range_with_len 0 (length defs)) → defs ≡ cs → c < length cs → c < length places
place_within cs defs places c e v lt =
    let n : length places ≡ length cs = ap length e ∙ length-map-range_with_len (place_of defs) 0 (length defs) ∙ ap length v in
    omega (arith, n, lt)

pub place_read : (cs defs : List ClassDef) (places : List ℕ) (c r : ℕ) → places ≡ map (place_of defs) (range_with_len 0 (length defs)) → defs ≡ cs → c < length cs → r ≡ get_or places c r → r ≡ place_of cs c
place_read cs defs places c r e v lt q =
    let all : places ≡ map (place_of cs) (range_with_len 0 (length cs)) = e ∙ ap (λ (ds : List ClassDef). map (place_of ds) (range_with_len 0 (length ds))) v in
    q ∙ ap (λ (xs : List ℕ). get_or xs c r) all ∙ get_or-map-range_with_len (place_of cs) 0 (length cs) c c r lt (omega arith)

-- a kind that one class has and another hasn't
below_false : (test : ℕ → Bool) (n k : ℕ) → k < n → test k ≡ false → each_below test n ≡ false
below_false test zero k lt e = absurd (omega (arith, lt))
below_false test (suc n) k lt e =
    false_from_ne_true (test n && each_below test n) (λ h.
    elim (cases_Bool (nat_eq k n)) [
      | inl q ↦ not_true (sym e ∙ ap test (same_number k n q) ∙ both_first (test n) (each_below test n) h)
      | inr q ↦ not_true (sym (below_false test n k (less k n lt q) e) ∙ both_second (test n) (each_below test n) h)
    ])
  where
    less : (k n : ℕ) → k < suc n → nat_eq k n ≡ false → k < n
    less k n lt e = grind arith

pub not_within : (cs : List ClassDef) (a b k : ℕ) → k < kind_total cs → has_kind cs a k ≡ true → has_kind cs b k ≡ false → false ≡ lies_within cs a b
not_within cs a b k lt e f = sym (below_false (λ j. not (has_kind cs a j) || has_kind cs b j) (kind_total cs) k lt (one (has_kind cs a k) (has_kind cs b k) e f))
  where
    one : (x y : Bool) → x ≡ true → y ≡ false → (not x || y) ≡ false
    one true false e f = refl
    one true true e f = not_true (sym f)
    one false y e f = not_true e

-- no more kinds than classes and eight
count_low : (ds : List ClassDef) → own_count ds ≤ length ds
count_low [] = omega arith
count_low (d ∷ ds) = by (has_own d.shape) (count_low ds)
  where
    by : (b : Bool) → own_count ds ≤ length ds → (let n : ℕ = elim b [ true ↦ suc (own_count ds) | false ↦ own_count ds ] in n ≤ suc (length ds))
    by true h = omega (arith, h)
    by false h = omega (arith, h)

pub owners_few : (cs : List ClassDef) (owners : List ℕ) → owners ≡ owners_from 0 cs → length owners ≤ length cs
owners_few cs owners e =
    let n : length owners ≡ own_count cs = ap length e ∙ owner_count cs 0 in
    let low = count_low cs in
    omega (arith, n, low)
