-- Numbers in lists.
use Rattle.std.proofs.Common.{◌≡◌, ◌<◌, inl, inr, ℕ, List, [], ◌∷◌, Bool, true, false, refl, sym, ap, ◌∙◌, arith, true≢false}
use Rattle.std.specs.Prelude.{nat_eq, nat_lt, ◌&&◌}
use Rattle.std.specs.List.{list_any, list_all}
use Rattle.std.proofs.lemmas.Bool.{false_from_ne_true, or_cases, or_left, or_right}
use Rattle.fac_classes.specs.inner.Members.{IsIn}

pub not_true : {A : Type 0} → false ≡ true → A
not_true h = absurd (true≢false (sym h))

pub same_bool : (a b : Bool) → (a ≡ true → b ≡ true) → (b ≡ true → a ≡ true) → a ≡ b
same_bool true b f g = sym (f refl)
same_bool false b f g = sym (false_from_ne_true b (λ e. not_true (g e)))

pub both : (a b : Bool) → a ≡ true → b ≡ true → (a && b) ≡ true
both true b e f = f
both false b e f = e

pub both_first : (a b : Bool) → (a && b) ≡ true → a ≡ true
both_first true b e = refl
both_first false b e = e

pub both_second : (a b : Bool) → (a && b) ≡ true → b ≡ true
both_second true b e = e
both_second false b e = not_true e

pub same_number : (v w : ℕ) → nat_eq v w ≡ true → v ≡ w
same_number v w e = grind arith

pub itself : (v : ℕ) → nat_eq v v ≡ true
itself v = grind arith

pub other_number : (v w : ℕ) → (v ≡ w → ⊥) → nat_eq v w ≡ false
other_number v w never = false_from_ne_true (nat_eq v w) (λ e. never (same_number v w e))

pub at_most : (m n : ℕ) → nat_lt m n ≡ true → m < n
at_most m n e = grind arith

-- whether a number is one of a list
abbrev pub among : ℕ → List ℕ → Bool
among x ys = list_any (nat_eq x) ys

pub in_among : (x : ℕ) (ys : List ℕ) → among x ys ≡ true → IsIn x ys
in_among x [] h = not_true h
in_among x (y ∷ ys) h = elim (or_cases (nat_eq x y) (among x ys) h) [ inl e ↦ inl (same_number x y e) | inr e ↦ inr (in_among x ys e) ]

pub among_in : (x : ℕ) (ys : List ℕ) → IsIn x ys → among x ys ≡ true
among_in x [] h = absurd h
among_in x (y ∷ ys) (inl e) = or_left (nat_eq x y) (among x ys) (ap (λ (z : ℕ). nat_eq x z) (sym e) ∙ itself x)
among_in x (y ∷ ys) (inr h) = or_right (nat_eq x y) (among x ys) (among_in x ys h)

pub all_true : (test : ℕ → Bool) (xs : List ℕ) → ((x : ℕ) → IsIn x xs → test x ≡ true) → list_all test xs ≡ true
all_true test [] h = refl
all_true test (x ∷ xs) h = both (test x) (list_all test xs) (h x (inl refl)) (all_true test xs (λ y q. h y (inr q)))

pub true_of_all : (test : ℕ → Bool) (xs : List ℕ) (x : ℕ) → list_all test xs ≡ true → IsIn x xs → test x ≡ true
true_of_all test [] x h q = absurd q
true_of_all test (y ∷ xs) x h (inl e) = ap test e ∙ both_first (test y) (list_all test xs) h
true_of_all test (y ∷ xs) x h (inr q) = true_of_all test xs x (both_second (test y) (list_all test xs) h) q
