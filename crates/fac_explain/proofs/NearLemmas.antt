-- How far two texts are alike, byte by byte.
use Rattle.std.proofs.Common.{◌≡◌, ◌≤◌, ◌<◌, ℕ, zero, suc, ◌+◌, ◌==◌, List, [], ◌∷◌, Bool, true, false, cond, length, drop, drop-cons, get_or, refl, sym, ap, ◌∙◌, arith}
use Rattle.fac_explain.specs.Nearness.{alike}

-- behind the end of a list nothing is left
none_left : (xs : List ℕ) (i : ℕ) → length xs ≤ i → drop i xs ≡ []
none_left [] zero past = refl
none_left [] (suc i) past = refl
none_left (x ∷ xs) zero past = absurd (omega (arith, past))
none_left (x ∷ xs) (suc i) past = none_left xs i (omega (arith, past))

alike_none : (text : List ℕ) → alike text [] ≡ 0
alike_none [] = refl
alike_none (a ∷ left) = refl

-- from the end of one of them on
pub alike_ends : (text other : List ℕ) (i : ℕ) → length other ≤ i → alike (drop i text) (drop i other) ≡ 0
alike_ends text other i past = ap (alike (drop i text)) (none_left other i past) ∙ alike_none (drop i text)

-- from a place on where they differ, and from one where they don't
pub alike_differs : (text other : List ℕ) (i d e : ℕ) → i < length text → i < length other → (get_or text i d == get_or other i e) ≡ false → alike (drop i text) (drop i other) ≡ 0
alike_differs text other i d e lt le differ = rw (drop-cons text i d lt, drop-cons other i e le, differ) refl

pub alike_same : (text other : List ℕ) (i d e : ℕ) → i < length text → i < length other → (get_or text i d == get_or other i e) ≡ true → alike (drop i text) (drop i other) ≡ suc (alike (drop (suc i) text) (drop (suc i) other))
alike_same text other i d e lt le same = rw (drop-cons text i d lt, drop-cons other i e le, same) refl
