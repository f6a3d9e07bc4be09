-- What several writes have added.
use Rattle.std.proofs.Common.{refl, ◌≡◌, ℕ, zero, suc, ◌-◌, ◌+◌, ◌^◌, ◌<◌, ◌≤◌, List, [], ◌∷◌, ◌++◌, length, get_or, drop, sym, ap, subst, ◌∙◌, append_assoc, arith}
use Rattle.std.proofs.lemmas.List.{append-nil, drop_more}
use Rattle.fac_spelling.specs.Numbers.{number32, shortest}
use Rattle.fac_spelling.specs.Lists.{ascend, ascending, ascend_by, ascending_by}
use Rattle.fac_spelling.specs.Formats.{Format, follow, each}

pub written : (a b c d : List ℕ) → b ≡ a ++ c → b ++ d ≡ a ++ (c ++ (d ++ []))
written a b c d e = ap (λ (z : List ℕ). z ++ d) e ∙ (append_assoc a c d ∙ ap (λ (z : List ℕ). a ++ (c ++ z)) (sym (append-nil d)))

pub written_three : (a b c d e f : List ℕ) → b ≡ a ++ c → d ≡ b ++ e → d ++ f ≡ a ++ (c ++ (e ++ (f ++ [])))
written_three a b c d e f p q = ap (λ (z : List ℕ). z ++ f) q ∙ append_assoc b e f ∙ ap (λ (z : List ℕ). b ++ (e ++ z)) (sym (append-nil f)) ∙ ap (λ (z : List ℕ). z ++ (e ++ (f ++ []))) p ∙ append_assoc a c (e ++ (f ++ []))

-- what is left completes the list's bytes, and has a spelling
pub record Completes {A : Type 0} (f : Format A) (xs : List A) (i : ℕ) (out total : List ℕ) : Type 0 where
  pub fits : (each (length xs - i) f).Fits (drop i xs)
  pub same : out ++ (each (length xs - i) f).spell (drop i xs) ≡ total

pub starts : {A : Type 0} (f : Format A) (xs : List A) (out : List ℕ) → (each (length xs) f).Fits xs → Completes f xs 0 out (out ++ (each (length xs) f).spell xs)
starts f xs out h = let k : length xs - 0 ≡ length xs = omega arith in record { fits = subst (λ (n : ℕ). (each n f).Fits xs) (sym k) h; same = ap (λ (n : ℕ). out ++ (each n f).spell xs) k }

pub next_fits : {A : Type 0} (f : Format A) (xs : List A) (i : ℕ) (x : A) (out total : List ℕ) → i < length xs → x ≡ get_or xs i x → Completes f xs i out total → f.Fits x
next_fits {A = A} f xs i x out total lt is c =
    let k : length xs - i ≡ suc (length xs - (i + 1)) = omega arith in
    let d : drop i xs ≡ x ∷ drop (i + 1) xs = drop_more xs i x lt ∙ ap (λ (z : A). z ∷ drop (i + 1) xs) (sym is) in
    let h : (each (suc (length xs - (i + 1))) f).Fits (x ∷ drop (i + 1) xs) = subst (λ (n : ℕ). (each n f).Fits (x ∷ drop (i + 1) xs)) k (subst (λ (ys : List A). (each (length xs - i) f).Fits ys) d c.fits) in
    h.0

pub steps : {A : Type 0} (f : Format A) (xs : List A) (i : ℕ) (x : A) (out total : List ℕ) → i < length xs → x ≡ get_or xs i x → Completes f xs i out total → Completes f xs (i + 1) (out ++ f.spell x) total
steps {A = A} f xs i x out total lt is c =
    let k : length xs - i ≡ suc (length xs - (i + 1)) = omega arith in
    let d : drop i xs ≡ x ∷ drop (i + 1) xs = drop_more xs i x lt ∙ ap (λ (z : A). z ∷ drop (i + 1) xs) (sym is) in
    let h : (each (suc (length xs - (i + 1))) f).Fits (x ∷ drop (i + 1) xs) = subst (λ (n : ℕ). (each n f).Fits (x ∷ drop (i + 1) xs)) k (subst (λ (ys : List A). (each (length xs - i) f).Fits ys) d c.fits) in
    let s : out ++ (each (suc (length xs - (i + 1))) f).spell (x ∷ drop (i + 1) xs) ≡ total = subst (λ (n : ℕ). out ++ (each n f).spell (x ∷ drop (i + 1) xs) ≡ total) k (subst (λ (ys : List A). out ++ (each (length xs - i) f).spell ys ≡ total) d c.same) in
    record { fits = h.1; same = append_assoc out (f.spell x) ((each (length xs - (i + 1)) f).spell (drop (i + 1) xs)) ∙ s }

pub stops : {A : Type 0} (f : Format A) (xs : List A) (i : ℕ) (out total : List ℕ) → length xs ≤ i → Completes f xs i out total → out ≡ total
stops f xs i out total le c =
    let k : length xs - i ≡ 0 = omega arith in
    let s : out ++ (each 0 f).spell (drop i xs) ≡ total = subst (λ (n : ℕ). out ++ (each n f).spell (drop i xs) ≡ total) k c.same in
    sym (append-nil out) ∙ s

pub numbers_fit : (xs : List ℕ) → ((i : ℕ) → get_or xs i 0 < 2 ^ 32) → (each (length xs) number32).Fits xs
numbers_fit [] h = tt
numbers_fit (x ∷ xs) h = (record { above = omega arith; below = omega (arith, h 0) }, numbers_fit xs (λ i. h (suc i)))

-- ---- lists that ascend, written as any list

behind : (a b c d e : List ℕ) → b ≡ a ++ c → d ≡ e → b ++ d ≡ a ++ (c ++ e)
behind a b c d e p q = ap (λ (z : List ℕ). z ++ d) p ∙ append_assoc a c d ∙ ap (λ (z : List ℕ). a ++ (c ++ z)) q

pub ascend_each : (n low : ℕ) (xs : List ℕ) → (ascend n low).Fits xs → (each n number32).Fits xs
ascend_each zero low [] h = tt
ascend_each zero low (x ∷ xs) h = absurd h
ascend_each (suc n) low [] h = absurd h
ascend_each (suc n) low (x ∷ xs) h = (record { above = omega arith; below = omega (arith, h.0.below) }, ascend_each n (x + 1) xs h.1)

pub ascend_spelled : (n low : ℕ) (xs : List ℕ) → (each n number32).spell xs ≡ (ascend n low).spell xs
ascend_spelled zero low xs = refl
ascend_spelled (suc n) low [] = refl
ascend_spelled (suc n) low (x ∷ xs) = ap (λ (z : List ℕ). shortest x ++ z) (ascend_spelled n (x + 1) xs)

pub counted_written : (a b xs : List ℕ) → b ≡ a ++ shortest (length xs) → b ++ (each (length xs) number32).spell xs ≡ a ++ ascending.spell xs
counted_written a b xs e = behind a b (shortest (length xs)) _ _ e (ascend_spelled (length xs) 0 xs)

pub ascend_by_each : {A : Type 0} (f : Format A) (n low : ℕ) (xs : List (ℕ × A)) → (ascend_by f n low).Fits xs → (each n (follow number32 (λ _. f))).Fits xs
ascend_by_each f zero low [] h = tt
ascend_by_each f zero low (x ∷ xs) h = absurd h
ascend_by_each f (suc n) low [] h = absurd h
ascend_by_each f (suc n) low (x ∷ xs) h = ((record { above = omega arith; below = omega (arith, h.0.0.below) }, h.0.1), ascend_by_each f n (x.0 + 1) xs h.1)

pub ascend_by_spelled : {A : Type 0} (f : Format A) (n low : ℕ) (xs : List (ℕ × A)) → (each n (follow number32 (λ _. f))).spell xs ≡ (ascend_by f n low).spell xs
ascend_by_spelled f zero low xs = refl
ascend_by_spelled f (suc n) low [] = refl
ascend_by_spelled f (suc n) low (x ∷ xs) = ap (λ (z : List ℕ). (shortest x.0 ++ f.spell x.1) ++ z) (ascend_by_spelled f n (x.0 + 1) xs)

pub counted_by_written : {A : Type 0} (f : Format A) (a b : List ℕ) (xs : List (ℕ × A)) → b ≡ a ++ shortest (length xs) → b ++ (each (length xs) (follow number32 (λ _. f))).spell xs ≡ a ++ (ascending_by f).spell xs
counted_by_written f a b xs e = behind a b (shortest (length xs)) _ _ e (ascend_by_spelled f (length xs) 0 xs)
