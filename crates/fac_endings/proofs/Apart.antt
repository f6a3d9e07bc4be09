-- Elements that are apart from those before them.
use Rattle.std.proofs.Common.{◌≡◌, ℕ, zero, suc, List, [], ◌∷◌, ◌++◌, slice_get, Some, Bool, true, false, refl, ap, sym, ◌∙◌}
use Rattle.std.specs.Prelude.{◌&&◌, ◌||◌, not}
use Rattle.std.specs.List.{list_all, list_any}
use Rattle.std.proofs.lemmas.List.Folds.{list_any-append}
use Rattle.fac_lang.specs.Whole.{no_two}

pub and_true : (a b : Bool) → a ≡ true → b ≡ true → (a && b) ≡ true
and_true a b h k = rw (h, k) refl

pub true_both : (a b : Bool) → (a && b) ≡ true → (a ≡ true) × (b ≡ true)
true_both true b h = (refl, h)
true_both false b h = cc

pub or_false : (a b : Bool) → a ≡ false → b ≡ false → (a || b) ≡ false
or_false a b h k = rw (h, k) refl

pub false_both : (a b : Bool) → (a || b) ≡ false → (a ≡ false) × (b ≡ false)
false_both true b h = cc
false_both false b h = (refl, h)

pub none_passes : {A : Type 0} (f : A → Bool) → ((x : A) → f x ≡ false) → (xs : List A) → list_any f xs ≡ false
none_passes f each [] = refl
none_passes f each (x ∷ xs) = or_false (f x) (list_any f xs) (each x) (none_passes f each xs)

-- each element is unlike those before it, which are these and the earlier ones of its list
abbrev pub AreApart : {A : Type 0} → (A → A → Bool) → List A → List A → Type 0
AreApart alike before [] = Unit {0}
AreApart alike before (x ∷ xs) = (list_any (alike x) before ≡ false) × AreApart alike (x ∷ before) xs

-- an element of a list passes a test that none of them passes
abbrev pub IsIn : {A : Type 0} → A → List A → Type 0
IsIn {A} x xs = (f : A → Bool) → list_any f xs ≡ false → f x ≡ false

in_first : {A : Type 0} (x : A) (xs : List A) → IsIn x (x ∷ xs)
in_first x xs f h = (false_both (f x) (list_any f xs) h).0

in_rest : {A : Type 0} (x y : A) (xs : List A) → IsIn x xs → IsIn x (y ∷ xs)
in_rest x y xs h f k = h f (false_both (f y) (list_any f xs) k).1

-- what stands before is unlike all that follows
pub apart_from : {A : Type 0} (alike : A → A → Bool) → ((x y : A) → alike x y ≡ alike y x) → (x : A) (before xs : List A) → IsIn x before → AreApart alike before xs → list_any (alike x) xs ≡ false
apart_from alike turns x before [] h k = refl
apart_from alike turns x before (y ∷ ys) h k = or_false (alike x y) (list_any (alike x) ys) (turns x y ∙ h (alike y) k.0) (apart_from alike turns x (y ∷ before) ys (in_rest x y before h) k.1)

pub apart_differ : {A : Type 0} (alike : A → A → Bool) → ((x y : A) → alike x y ≡ alike y x) → (before xs : List A) → AreApart alike before xs → no_two alike xs ≡ true
apart_differ alike turns before [] h = refl
apart_differ alike turns before (x ∷ xs) h =
    and_true (not (list_any (alike x) xs)) (no_two alike xs) (ap not (apart_from alike turns x (x ∷ before) xs (in_first x before) h.1)) (apart_differ alike turns (x ∷ before) xs h.1)

-- two lists one behind another
differ_both : {A : Type 0} (alike : A → A → Bool) (xs ys : List A) → no_two alike xs ≡ true → no_two alike ys ≡ true → ((x : A) → IsIn x xs → list_any (alike x) ys ≡ false) → no_two alike (xs ++ ys) ≡ true
differ_both alike [] ys h k apart = k
differ_both alike (x ∷ xs) ys h k apart =
    let both = true_both (not (list_any (alike x) xs)) (no_two alike xs) h in
    and_true (not (list_any (alike x) (xs ++ ys))) (no_two alike (xs ++ ys))
    (ap not (list_any-append (alike x) xs ys ∙ or_false (list_any (alike x) xs) (list_any (alike x) ys) (not_true (list_any (alike x) xs) both.0) (apart x (in_first x xs))))
    (differ_both alike xs ys both.1 k (λ y there. apart y (in_rest y x xs there)))
  where
    not_true : (b : Bool) → not b ≡ true → b ≡ false
    not_true true h = cc
    not_true false h = refl

-- a list whose elements are all in `before`, and behind it one that is apart from these
pub differ_behind : {A : Type 0} (alike : A → A → Bool) → ((x y : A) → alike x y ≡ alike y x) → (before xs ys : List A) → no_two alike xs ≡ true → ((x : A) → IsIn x xs → IsIn x before) → AreApart alike before ys → no_two alike (xs ++ ys) ≡ true
differ_behind alike turns before xs ys h within apart = differ_both alike xs ys h (apart_differ alike turns before ys apart) (λ x there. apart_from alike turns x before ys (within x there) apart)

-- Lists that are part of others.

-- whatever no element of one list passes, none of the other passes either
abbrev pub IsWithin : {A : Type 0} → List A → List A → Type 0
IsWithin {A} xs ys = (f : A → Bool) → list_any f ys ≡ false → list_any f xs ≡ false

pub in_within : {A : Type 0} (x : A) (xs ys : List A) → IsWithin xs ys → IsIn x xs → IsIn x ys
in_within x xs ys h k f none = k f (h f none)

-- By numbers.

pub all_at : {A : Type 0} (f : A → Bool) (xs : List A) (i : ℕ) (x : A) → list_all f xs ≡ true → slice_get xs i ≡ Some x → f x ≡ true
all_at f [] i x h is = absurd (cc)
all_at {A} f (y ∷ ys) zero x h is = let same : y ≡ x = cc in sym (ap f same) ∙ (true_both (f y) (list_all f ys) h).0
all_at f (y ∷ ys) (suc i) x h is = all_at f ys i x (true_both (f y) (list_all f ys) h).1 is
