-- Lists of numbers, and elements by their numbers.
use Rattle.std.proofs.Common.{◌≡◌, ◌<◌, ◌≤◌, ◌⊎◌, inl, inr, ℕ, zero, suc, ◌+◌, ◌-◌, List, [], ◌∷◌, ◌++◌, length, get_or, set, take, drop, Bool, true, false, Some, None, refl, sym, ap, ◌∙◌, length-append, subst, arith}
use Rattle.std.specs.Prelude.{slice_get, nat_eq, nat_lt}
use Rattle.std.proofs.lemmas.Bool.{and_from, and_parts, or_cases, or_left, or_right}
use Rattle.fac_graph.specs.Paths.{one_of, IsOneOf}
use Rattle.fac_graph.specs.inner.Components.{are_below}

pub some_same : {A : Type 0} → (x y : A) → Some x ≡ Some y → x ≡ y
some_same x y e = cc

pub same_number : (v w : ℕ) → nat_eq v w ≡ true → v ≡ w
same_number v w e = grind arith

itself : (v : ℕ) → nat_eq v v ≡ true
itself v = grind arith

-- membership in lists that are put together
pub in_left : (v : ℕ) (xs ys : List ℕ) → IsOneOf v xs → IsOneOf v (xs ++ ys)
in_left v [] ys e = absurd cc
in_left v (x ∷ xs) ys e = elim (or_cases (nat_eq v x) (one_of v xs) e) [ inl p ↦ or_left (nat_eq v x) (one_of v (xs ++ ys)) p | inr p ↦ or_right (nat_eq v x) (one_of v (xs ++ ys)) (in_left v xs ys p) ]

pub in_right : (v : ℕ) (xs ys : List ℕ) → IsOneOf v ys → IsOneOf v (xs ++ ys)
in_right v [] ys e = e
in_right v (x ∷ xs) ys e = or_right (nat_eq v x) (one_of v (xs ++ ys)) (in_right v xs ys e)

pub in_either : (v : ℕ) (xs ys : List ℕ) → IsOneOf v (xs ++ ys) → IsOneOf v xs ⊎ IsOneOf v ys
in_either v [] ys e = inr e
in_either v (x ∷ xs) ys e =
    elim (or_cases (nat_eq v x) (one_of v (xs ++ ys)) e) [
      | inl p ↦ inl (or_left (nat_eq v x) (one_of v xs) p)
      | inr p ↦ elim (in_either v xs ys p) [ inl q ↦ inl (or_right (nat_eq v x) (one_of v xs) q) | inr q ↦ inr q ]
    ]

pub only_one : (v w : ℕ) → IsOneOf v (w ∷ []) → v ≡ w
only_one v w e = elim (or_cases (nat_eq v w) (one_of v []) e) [ inl p ↦ same_number v w p | inr p ↦ absurd cc ]

pub in_one : (v : ℕ) (xs : List ℕ) → IsOneOf v (v ∷ xs)
in_one v xs = or_left (nat_eq v v) (one_of v xs) (itself v)

-- a member has a number, and what has a number is a member
pub member_at : (v : ℕ) (xs : List ℕ) → IsOneOf v xs → (i : ℕ) × (slice_get xs i ≡ Some v)
member_at v [] e = absurd cc
member_at v (x ∷ xs) e =
    elim (or_cases (nat_eq v x) (one_of v xs) e) [
      | inl p ↦ (0, ap Some (sym (same_number v x p)))
      | inr p ↦ let found = member_at v xs p in (suc found.0, found.1)
    ]

pub is_member : (v : ℕ) (xs : List ℕ) (i : ℕ) → slice_get xs i ≡ Some v → IsOneOf v xs
is_member v [] i e = absurd cc
is_member v (x ∷ xs) zero e = subst (λ (y : ℕ). IsOneOf v (y ∷ xs)) (sym (some_same x v e)) (in_one v xs)
is_member v (x ∷ xs) (suc i) e = or_right (nat_eq v x) (one_of v xs) (is_member v xs i e)

-- an element below the end is there
pub there : {A : Type 0} → (xs : List A) (k : ℕ) → k < length xs → (x : A) × (slice_get xs k ≡ Some x)
there [] k lt = absurd (omega (arith, lt))
there (x ∷ xs) zero lt = (x, refl)
there (x ∷ xs) (suc k) lt = there xs k (omega (arith, lt))

pub at_get : (xs : List ℕ) (k : ℕ) → k < length xs → slice_get xs k ≡ Some (get_or xs k 0)
at_get [] k lt = absurd (omega (arith, lt))
at_get (x ∷ xs) zero lt = refl
at_get (x ∷ xs) (suc k) lt = at_get xs k (omega (arith, lt))

pub yes_or_no : (b : Bool) → (b ≡ true) ⊎ (b ≡ true → ⊥)
yes_or_no true = inl refl
yes_or_no false = inr (λ e. let clash : false ≡ true = e in cc)

pub under : {A : Type 0} → (xs : List A) (i : ℕ) (x : A) → slice_get xs i ≡ Some x → i < length xs
under [] i x e = absurd cc
under (y ∷ xs) zero x e = omega arith
under (y ∷ xs) (suc i) x e =
    let lt = under xs i x e in
    omega (arith, lt)

-- lists that are put together
pub in_front : {A : Type 0} → (xs ys : List A) (i : ℕ) (x : A) → slice_get xs i ≡ Some x → slice_get (xs ++ ys) i ≡ Some x
in_front [] ys i x e = absurd cc
in_front (y ∷ xs) ys zero x e = e
in_front (y ∷ xs) ys (suc i) x e = in_front xs ys i x e

pub at_last : {A : Type 0} → (xs : List A) (y : A) → slice_get (xs ++ y ∷ []) (length xs) ≡ Some y
at_last [] y = refl
at_last (x ∷ xs) y = at_last xs y

pub at_end : {A : Type 0} → (xs : List A) (y : A) (i : ℕ) (x : A) → slice_get (xs ++ y ∷ []) i ≡ Some x → (slice_get xs i ≡ Some x) ⊎ ((i ≡ length xs) × (x ≡ y))
at_end [] y zero x e = inr (refl, sym (some_same y x e))
at_end [] y (suc i) x e = absurd cc
at_end (z ∷ xs) y zero x e = inl e
at_end (z ∷ xs) y (suc i) x e = elim (at_end xs y i x e) [ inl p ↦ inl p | inr p ↦ inr (ap suc p.0, p.1) ]

-- an element of two lists is one of the first, or behind it one of the second
pub at_part : {A : Type 0} → (xs ys : List A) (i : ℕ) (x : A) → slice_get (xs ++ ys) i ≡ Some x → (slice_get xs i ≡ Some x) ⊎ ((j : ℕ) × (i ≡ length xs + j) × (slice_get ys j ≡ Some x))
at_part [] ys i x e = inr (i, omega arith, e)
at_part (z ∷ xs) ys zero x e = inl e
at_part (z ∷ xs) ys (suc i) x e = elim (at_part xs ys i x e) [ inl p ↦ inl p | inr p ↦ inr (p.0, omega (arith, p.1), p.2) ]

pub at_either : (xs ys : List ℕ) (i v : ℕ) → slice_get (xs ++ ys) i ≡ Some v → (slice_get xs i ≡ Some v) ⊎ ((length xs ≤ i) × IsOneOf v ys)
at_either xs ys i v e = elim (at_part xs ys i v e) [ inl p ↦ inl p | inr p ↦ inr (omega (arith, p.1), is_member v ys p.0 p.2) ]

pub at_front : {A : Type 0} → (xs ys : List A) (i : ℕ) (x : A) → slice_get (xs ++ ys) i ≡ Some x → i < length xs → slice_get xs i ≡ Some x
at_front xs ys i x e lt = elim (at_part xs ys i x e) [ inl p ↦ p | inr p ↦ absurd (omega (arith, p.1, lt)) ]

pub last_there : {A : Type 0} → (xs : List A) (y : A) → slice_get (xs ++ y ∷ []) (length (xs ++ y ∷ []) - 1) ≡ Some y
last_there xs y =
    let n : length (xs ++ y ∷ []) - 1 ≡ length xs = omega (arith, length-append xs (y ∷ [])) in
    ap (slice_get (xs ++ y ∷ [])) n ∙ at_last xs y

-- an element that is replaced
pub set_here : {A : Type 0} → (xs : List A) (k : ℕ) (x y : A) → slice_get xs k ≡ Some x → slice_get (set xs k y) k ≡ Some y
set_here [] k x y e = absurd cc
set_here (c ∷ xs) zero x y e = refl
set_here (c ∷ xs) (suc k) x y e = set_here xs k x y e

pub set_other : {A : Type 0} → (xs : List A) (k v : ℕ) (y : A) → (v ≡ k → ⊥) → slice_get (set xs k y) v ≡ slice_get xs v
set_other [] k v y other = refl
set_other (c ∷ xs) zero zero y other = absurd (other refl)
set_other (c ∷ xs) zero (suc v) y other = refl
set_other (c ∷ xs) (suc k) zero y other = refl
set_other (c ∷ xs) (suc k) (suc v) y other = set_other xs k v y (λ e. other (ap suc e))

pub set_same : {A : Type 0} → (xs : List A) (k v : ℕ) (y : A) → slice_get xs v ≡ Some y → slice_get (set xs k y) v ≡ Some y
set_same [] k v y e = absurd cc
set_same (c ∷ xs) zero zero y e = refl
set_same (c ∷ xs) zero (suc v) y e = e
set_same (c ∷ xs) (suc k) zero y e = e
set_same (c ∷ xs) (suc k) (suc v) y e = set_same xs k v y e

pub set_keeps : {A : Type 0} → (xs : List A) (k v : ℕ) (x y z : A) → slice_get xs k ≡ Some x → slice_get xs v ≡ Some z → (z ≡ x → ⊥) → slice_get (set xs k y) v ≡ Some z
set_keeps [] k v x y z e f other = absurd cc
set_keeps (c ∷ xs) zero zero x y z e f other = absurd (other (some_same z x (sym f ∙ e)))
set_keeps (c ∷ xs) zero (suc v) x y z e f other = f
set_keeps (c ∷ xs) (suc k) zero x y z e f other = f
set_keeps (c ∷ xs) (suc k) (suc v) x y z e f other = set_keeps xs k v x y z e f other

pub set_back : {A : Type 0} → (xs : List A) (k v : ℕ) (y z : A) → slice_get (set xs k y) v ≡ Some z → ((v ≡ k) × (z ≡ y)) ⊎ (slice_get xs v ≡ Some z)
set_back [] k v y z e = inr e
set_back (c ∷ xs) zero zero y z e = inl (refl, sym (some_same y z e))
set_back (c ∷ xs) zero (suc v) y z e = inr e
set_back (c ∷ xs) (suc k) zero y z e = inr e
set_back (c ∷ xs) (suc k) (suc v) y z e = elim (set_back xs k v y z e) [ inl p ↦ inl (ap suc p.0, p.1) | inr p ↦ inr p ]

-- numbers from a place on, and up to it
pub in_dropped : (k v : ℕ) (xs : List ℕ) → IsOneOf v (drop k xs) → IsOneOf v xs
in_dropped zero v xs e = e
in_dropped (suc k) v [] e = e
in_dropped (suc k) v (x ∷ xs) e = or_right (nat_eq v x) (one_of v xs) (in_dropped k v xs e)

pub drop_left : (k v : ℕ) (xs ys : List ℕ) → IsOneOf v (drop k xs) → IsOneOf v (drop k (xs ++ ys))
drop_left zero v xs ys e = in_left v xs ys e
drop_left (suc k) v [] ys e = absurd cc
drop_left (suc k) v (x ∷ xs) ys e = drop_left k v xs ys e

pub drop_right : (k v : ℕ) (xs ys : List ℕ) → k ≤ length xs → IsOneOf v ys → IsOneOf v (drop k (xs ++ ys))
drop_right zero v xs ys le e = in_right v xs ys e
drop_right (suc k) v [] ys le e = absurd (omega (arith, le))
drop_right (suc k) v (x ∷ xs) ys le e = drop_right k v xs ys (omega (arith, le)) e

pub drop_either : (k v : ℕ) (xs ys : List ℕ) → IsOneOf v (drop k (xs ++ ys)) → IsOneOf v (drop k xs) ⊎ IsOneOf v ys
drop_either zero v xs ys e = in_either v xs ys e
drop_either (suc k) v [] ys e = inr (in_dropped (suc k) v ys e)
drop_either (suc k) v (x ∷ xs) ys e = drop_either k v xs ys e

pub none_left : (k v : ℕ) (xs : List ℕ) → length xs ≤ k → IsOneOf v (drop k xs) → ⊥
none_left zero v [] le e = cc
none_left (suc k) v [] le e = cc
none_left zero v (x ∷ xs) le e = absurd (omega (arith, le))
none_left (suc k) v (x ∷ xs) le e = none_left k v xs (omega (arith, le)) e

pub in_drop : (k q v : ℕ) (xs : List ℕ) → slice_get xs q ≡ Some v → k ≤ q → IsOneOf v (drop k xs)
in_drop zero q v xs e le = is_member v xs q e
in_drop (suc k) q v [] e le = absurd cc
in_drop (suc k) zero v (x ∷ xs) e le = absurd (omega (arith, le))
in_drop (suc k) (suc q) v (x ∷ xs) e le = in_drop k q v xs e (omega (arith, le))

-- where a number from a place on stands
pub record Found (k v : ℕ) (xs : List ℕ) : Type 0 where
  pub place : ℕ
  pub from : k ≤ place
  pub is : slice_get xs place ≡ Some v

found_later : (k l v x : ℕ) (xs : List ℕ) → l ≤ suc k → Found k v xs → Found l v (x ∷ xs)
found_later k l v x xs le f = record { place = suc f.place; from = omega (arith, f.from, le); is = f.is }

pub drop_at : (k v : ℕ) (xs : List ℕ) → IsOneOf v (drop k xs) → Found k v xs
drop_at zero v [] e = absurd cc
drop_at (suc k) v [] e = absurd cc
drop_at zero v (x ∷ xs) e =
    let found = member_at v (x ∷ xs) e in
    record { place = found.0; from = omega arith; is = found.1 }
drop_at (suc k) v (x ∷ xs) e = found_later k (suc k) v x xs (omega arith) (drop_at k v xs e)

pub take_at : {A : Type 0} → (k q : ℕ) (v : A) (xs : List A) → slice_get (take k xs) q ≡ Some v → (q < k) × (slice_get xs q ≡ Some v)
take_at zero q v xs e = absurd cc
take_at (suc k) q v [] e = absurd cc
take_at (suc k) zero v (x ∷ xs) e = (omega arith, e)
take_at (suc k) (suc q) v (x ∷ xs) e =
    let found = take_at k q v xs e in
    (omega (arith, found.0), found.1)

pub at_take : {A : Type 0} → (k q : ℕ) (v : A) (xs : List A) → slice_get xs q ≡ Some v → q < k → slice_get (take k xs) q ≡ Some v
at_take zero q v xs e lt = absurd (omega (arith, lt))
at_take (suc k) q v [] e lt = absurd cc
at_take (suc k) zero v (x ∷ xs) e lt = e
at_take (suc k) (suc q) v (x ∷ xs) e lt = at_take k q v xs e (omega (arith, lt))

below_taken : (n k : ℕ) (xs : List ℕ) → are_below n xs ≡ true → are_below n (take k xs) ≡ true
below_taken n zero xs h = refl
below_taken n (suc k) [] h = refl
below_taken n (suc k) (x ∷ xs) h = and_from (nat_lt x n) (are_below n (take k xs)) (and_parts (nat_lt x n) (are_below n xs) h).0 (below_taken n k xs (and_parts (nat_lt x n) (are_below n xs) h).1)

below_dropped : (n k : ℕ) (xs : List ℕ) → are_below n xs ≡ true → are_below n (drop k xs) ≡ true
below_dropped n zero xs h = h
below_dropped n (suc k) [] h = refl
below_dropped n (suc k) (x ∷ xs) h = below_dropped n k xs (and_parts (nat_lt x n) (are_below n xs) h).1

pub below_part : (n k l : ℕ) (xs : List ℕ) → are_below n xs ≡ true → are_below n (take k (drop l xs)) ≡ true
below_part n k l xs h = below_taken n k (drop l xs) (below_dropped n l xs h)

-- numbers below others, one by one
pub is_under : (m n : ℕ) → nat_lt m n ≡ true → m < n
is_under m n e = grind arith

pub under_is : (m n : ℕ) → m < n → nat_lt m n ≡ true
under_is m n e = grind arith

pub below_at : (n : ℕ) (xs : List ℕ) (k : ℕ) → are_below n xs ≡ true → k < length xs → get_or xs k 0 < n
below_at n [] k h l = absurd (omega (arith, l))
below_at n (x ∷ xs) zero h l = is_under x n (and_parts (nat_lt x n) (are_below n xs) h).0
below_at n (x ∷ xs) (suc k) h l = below_at n xs k (and_parts (nat_lt x n) (are_below n xs) h).1 (omega (arith, l))

pub each_below : (n : ℕ) (xs : List ℕ) → ((k v : ℕ) → slice_get xs k ≡ Some v → v < n) → are_below n xs ≡ true
each_below n [] all = refl
each_below n (x ∷ xs) all = and_from (nat_lt x n) (are_below n xs) (under_is x n (all 0 x refl)) (each_below n xs (λ k v e. all (suc k) v e))

-- a number is below another, or not
pub at_or_behind : (n k : ℕ) → (k < n) ⊎ (n ≤ k)
at_or_behind zero k = inr (omega arith)
at_or_behind (suc n) zero = inl (omega arith)
at_or_behind (suc n) (suc k) = elim (at_or_behind n k) [ inl p ↦ inl (omega (arith, p)) | inr p ↦ inr (omega (arith, p)) ]

pub last_or_before : (i head : ℕ) → i < head + 1 → (i < head) ⊎ (i ≡ head)
last_or_before i head lt = grind arith

-- an element behind the end isn't there
pub none_there : {A : Type 0} → (xs : List A) (k : ℕ) → length xs ≤ k → slice_get xs k ≡ None
none_there [] k le = refl
none_there (x ∷ xs) zero le = absurd (omega (arith, le))
none_there (x ∷ xs) (suc k) le = none_there xs k (omega (arith, le))
