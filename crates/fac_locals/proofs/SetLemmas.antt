-- Lists that rise as sets: what a number that is put in or taken out changes.
use Rattle.std.proofs.Common.{◌≡◌, ◌<◌, ◌≤◌, ◌≢◌, ℕ, zero, suc, ◌+◌, ◌-◌, List, ◌∷◌, length, get_or, Bool, true, false, ◌&&◌, ◌||◌, not, nat_eq, nat_cmp, Ok, Err, refl, sym, ap, ◌∙◌, subst, arith, inl, inr, ◌⊎◌, ⊎_elim}
use Rattle.std.specs.List.{list_any, insert, remove}
use Rattle.std.specs.List.Sorted.{IsBinarySearchResult}
use Rattle.std.proofs.lemmas.Bool.{cases_order, eqb-true, eq-eqb}
use Rattle.std.proofs.lemmas.List.Sorted.{searched, list_any-IsPermutation, IsPermutation-insert, IsPermutation-remove}
use Rattle.std.proofs.lemmas.List.Edits.{get_or-insert_at, get_or-insert_below, get_or-insert_above, get_or-remove_below, get_or-remove_above, length-remove, length-insert}
use Rattle.std.proofs.lemmas.List.Folds.{list_any_at, list_any_none}
use Rattle.std.proofs.lemmas.List.Elements.{All-from_get_or}
use Rattle.std.proofs.lemmas.Grind.{get_or_default_zero}
use Rattle.fac_locals.specs.Sets.{Rises}

-- a number is below another one, or it isn't
pub at_or_behind : (n k : ℕ) → (k < n) ⊎ (n ≤ k)
at_or_behind zero k = inr (omega arith)
at_or_behind (suc n) zero = inl (omega arith)
at_or_behind (suc n) (suc k) = ⊎_elim (λ lt. inl (omega arith)) (λ le. inr (omega arith)) (at_or_behind n k)

-- a list that rises never falls
pub never_falls : (xs : List ℕ) → Rises xs → (i j : ℕ) → i ≤ j → j < length xs → get_or xs i 0 ≤ get_or xs j 0
never_falls xs up i j le lt = grind (arith, up i j)

-- a number that is put in is there, and so is what was there before
pub has_inserted : (xs : List ℕ) (i y n : ℕ) → list_any (nat_eq n) (insert xs i y) ≡ nat_eq n y || list_any (nat_eq n) xs
has_inserted xs i y n = sym (list_any-IsPermutation (nat_eq n) (y ∷ xs) (insert xs i y) (IsPermutation-insert xs i y))

-- a number that was there already
pub has_already : (xs : List ℕ) (i y n : ℕ) → i < length xs → get_or xs i 0 ≡ y → list_any (nat_eq n) xs ≡ nat_eq n y || list_any (nat_eq n) xs
has_already xs i y n lt is = by_case (nat_eq n y) refl
  where
    by_case : (b : Bool) → b ≡ nat_eq n y → list_any (nat_eq n) xs ≡ b || list_any (nat_eq n) xs
    by_case false e = refl
    by_case true e = list_any_at (nat_eq n) xs i 0 lt (ap (nat_eq n) is ∙ sym e)

-- a number that is found
pub has_at : (xs : List ℕ) (i y : ℕ) → i < length xs → get_or xs i 0 ≡ y → list_any (nat_eq y) xs ≡ true
has_at xs i y lt is = list_any_at (nat_eq y) xs i 0 lt (ap (nat_eq y) is ∙ eq-eqb y y refl)

-- a number that isn't there
pub has_not : (xs : List ℕ) (y : ℕ) → ((k : ℕ) → k < length xs → get_or xs k 0 ≢ y) → list_any (nat_eq y) xs ≡ false
has_not xs y other = list_any_none (nat_eq y) xs (All-from_get_or (λ x. nat_eq y x ≡ false) xs 0 (λ k lt. grind (arith, other k lt)))

inserted_at : (xs : List ℕ) (i y j : ℕ) → j ≡ i → i ≤ length xs → get_or (insert xs i y) j 0 ≡ y
inserted_at xs i y j e le = ap (λ (k : ℕ). get_or (insert xs i y) k 0) e ∙ get_or-insert_at xs i y 0 le

inserted_above : (xs : List ℕ) (i y j : ℕ) → i < j → i ≤ length xs → get_or (insert xs i y) j 0 ≡ get_or xs (j - 1) 0
inserted_above xs i y j lt le =
    let behind : j - 1 + 1 ≡ j = omega arith in
    subst (λ (k : ℕ). get_or (insert xs i y) k 0 ≡ get_or xs (j - 1) 0) behind (get_or-insert_above xs i y 0 (j - 1) (omega arith) le)

-- a list that rises, with a number put in between what is below it and what is above it
pub rises_inserted : (xs : List ℕ) (i y : ℕ) → Rises xs → i ≤ length xs → ((k : ℕ) → k < i → get_or xs k 0 < y) → ((k : ℕ) → i ≤ k → k < length xs → y < get_or xs k 0) → Rises (insert xs i y)
rises_inserted xs i y up le below above j k lt within = by_place (cases_order j i) (cases_order k i)
  where
    count : length (insert xs i y) ≡ length xs + 1
    count = length-insert xs i y le

    by_place : (j ≡ i) ⊎ ((j < i) ⊎ (i < j)) → (k ≡ i) ⊎ ((k < i) ⊎ (i < k)) → get_or (insert xs i y) j 0 < get_or (insert xs i y) k 0
    by_place (inl a) (inl b) = omega arith
    by_place (inl a) (inr (inl b)) = omega arith
    by_place (inl a) (inr (inr b)) = omega (arith, inserted_at xs i y j a le, inserted_above xs i y k b le, above (k - 1) (omega arith) (omega (arith, count)))
    by_place (inr (inl a)) (inl b) = omega (arith, get_or-insert_below xs i y 0 j a le, inserted_at xs i y k b le, below j a)
    by_place (inr (inl a)) (inr (inl b)) = omega (arith, get_or-insert_below xs i y 0 j a le, get_or-insert_below xs i y 0 k b le, up j k lt (omega arith))
    by_place (inr (inl a)) (inr (inr b)) = omega (arith, get_or-insert_below xs i y 0 j a le, inserted_above xs i y k b le, up j (k - 1) (omega arith) (omega (arith, count)))
    by_place (inr (inr a)) (inl b) = omega arith
    by_place (inr (inr a)) (inr (inl b)) = omega arith
    by_place (inr (inr a)) (inr (inr b)) = omega (arith, inserted_above xs i y j a le, inserted_above xs i y k b le, up (j - 1) (k - 1) (omega arith) (omega (arith, count)))

-- a list that rises, without one of its numbers
pub rises_removed : (xs : List ℕ) (i : ℕ) → Rises xs → i < length xs → Rises (remove xs i)
rises_removed xs i up at j k lt within = by_place (at_or_behind i j) (at_or_behind i k)
  where
    count : length (remove xs i) + 1 ≡ length xs
    count = length-remove xs i at

    by_place : (j < i) ⊎ (i ≤ j) → (k < i) ⊎ (i ≤ k) → get_or (remove xs i) j 0 < get_or (remove xs i) k 0
    by_place (inl a) (inl b) = omega (arith, get_or-remove_below xs i 0 j a at, get_or-remove_below xs i 0 k b at, up j k lt (omega arith))
    by_place (inl a) (inr b) = omega (arith, get_or-remove_below xs i 0 j a at, get_or-remove_above xs i 0 k b at, up j (k + 1) (omega arith) (omega (arith, count)))
    by_place (inr a) (inl b) = omega arith
    by_place (inr a) (inr b) = omega (arith, get_or-remove_above xs i 0 j a at, get_or-remove_above xs i 0 k b at, up (j + 1) (k + 1) (omega arith) (omega (arith, count)))

-- a number that was taken out isn't there any more
gone : (xs : List ℕ) (i : ℕ) → Rises xs → i < length xs → list_any (nat_eq (get_or xs i 0)) (remove xs i) ≡ false
gone xs i up at = has_not (remove xs i) (get_or xs i 0) other
  where
    count : length (remove xs i) + 1 ≡ length xs
    count = length-remove xs i at

    by_place : (k : ℕ) → k < length (remove xs i) → (k < i) ⊎ (i ≤ k) → get_or (remove xs i) k 0 ≢ get_or xs i 0
    by_place k lt (inl b) e = omega (arith, get_or-remove_below xs i 0 k b at, up k i b at)
    by_place k lt (inr b) e = omega (arith, get_or-remove_above xs i 0 k b at, up i (k + 1) (omega arith) (omega (arith, count)))

    other : (k : ℕ) → k < length (remove xs i) → get_or (remove xs i) k 0 ≢ get_or xs i 0
    other k lt = by_place k lt (at_or_behind i k)

-- what is left has all but the number that was taken out
pub has_left : (xs : List ℕ) (i y n : ℕ) → Rises xs → i < length xs → get_or xs i 0 ≡ y → list_any (nat_eq n) (remove xs i) ≡ not (nat_eq n y) && list_any (nat_eq n) xs
has_left xs i y n up at is = by_case (nat_eq n y) refl
  where
    parted : list_any (nat_eq n) xs ≡ nat_eq n y || list_any (nat_eq n) (remove xs i)
    parted = list_any-IsPermutation (nat_eq n) xs (y ∷ remove xs i) (IsPermutation-remove xs i y at (sym (get_or_default_zero xs i y at ∙ is)))

    by_case : (b : Bool) → b ≡ nat_eq n y → list_any (nat_eq n) (remove xs i) ≡ not b && list_any (nat_eq n) xs
    by_case false e = sym (parted ∙ ap (λ (b : Bool). b || list_any (nat_eq n) (remove xs i)) (sym e))
    by_case true e = subst (λ (m : ℕ). list_any (nat_eq m) (remove xs i) ≡ false) (is ∙ sym (eqb-true n y (sym e))) (gone xs i up at)

-- nothing changes where a number isn't there
pub has_all : (xs : List ℕ) (y n : ℕ) → list_any (nat_eq y) xs ≡ false → list_any (nat_eq n) xs ≡ not (nat_eq n y) && list_any (nat_eq n) xs
has_all xs y n none = by_case (nat_eq n y) refl
  where
    by_case : (b : Bool) → b ≡ nat_eq n y → list_any (nat_eq n) xs ≡ not b && list_any (nat_eq n) xs
    by_case false e = refl
    by_case true e = subst (λ (m : ℕ). list_any (nat_eq m) xs ≡ false) (sym (eqb-true n y (sym e))) none

-- a search that finds no number tells where it belongs
pub fits_there : (xs zs ns : List ℕ) (y at : ℕ) → zs ≡ xs → Rises xs → IsBinarySearchResult (λ x. nat_cmp x y) zs (Err at) → ns ≡ insert xs at y → Rises ns
fits_there xs zs ns y at e up found is =
    let told = searched xs y (Err at) (subst (λ (l : List ℕ). IsBinarySearchResult (λ x. nat_cmp x y) l (Err at)) e found) (never_falls xs up) in
    subst (λ (l : List ℕ). Rises l) (sym is) (rises_inserted xs at y up told.0 told.1 told.2)

-- and that it isn't there
pub not_there : (xs zs : List ℕ) (y at : ℕ) → zs ≡ xs → Rises xs → IsBinarySearchResult (λ x. nat_cmp x y) zs (Err at) → list_any (nat_eq y) xs ≡ false
not_there xs zs y at e up found =
    let told = searched xs y (Err at) (subst (λ (l : List ℕ). IsBinarySearchResult (λ x. nat_cmp x y) l (Err at)) e found) (never_falls xs up) in has_not xs y (λ k lt. by_place k lt told.1 told.2 (at_or_behind at k))
  where
    by_place : (k : ℕ) → k < length xs → ((k : ℕ) → k < at → get_or xs k 0 < y) → ((k : ℕ) → at ≤ k → k < length xs → y < get_or xs k 0) → (k < at) ⊎ (at ≤ k) → get_or xs k 0 ≢ y
    by_place k lt below above (inl b) e = omega (arith, below k b)
    by_place k lt below above (inr b) e = omega (arith, above k b lt)

-- a search that finds a number tells where it is
pub found_there : (xs zs : List ℕ) (y at : ℕ) → zs ≡ xs → Rises xs → IsBinarySearchResult (λ x. nat_cmp x y) zs (Ok at) → (at < length xs) × (get_or xs at 0 ≡ y)
found_there xs zs y at e up found = searched xs y (Ok at) (subst (λ (l : List ℕ). IsBinarySearchResult (λ x. nat_cmp x y) l (Ok at)) e found) (never_falls xs up)
