-- The laws of lists.
use Rattle.std.proofs.Common.{◌≡◌, ℕ, zero, suc, ◌+◌, ◌-◌, ◌^◌, ◌≤◌, List, [], ◌∷◌, length, Option, Some, None, refl, ap, arith}
use Rattle.fac_spelling.proofs.FormatLaws.{follow_exact, seen_exact, run_exact}
use Rattle.fac_spelling.proofs.NumberLaws.{number_exact, number32_exact}
use Rattle.fac_spelling.specs.Formats.{Format, Exact, follow, AllFit, each}
use Rattle.fac_spelling.specs.Numbers.{number, number32, greatest32}
use Rattle.fac_spelling.specs.Lists.{behind_length, counted, ascend, ascend_by, ascending, ascending_by, option_list, list_option, optional}

-- ---- lists behind their length

pub fit_length : {A S : Type 0} (g : ℕ → S → Format A) (next : S → A → S) (n : ℕ) (s : S) (xs : List A) → AllFit g next n s xs → length xs ≡ n
fit_length g next zero s [] h = refl
fit_length g next zero s (x ∷ xs) h = absurd h
fit_length g next (suc n) s [] h = absurd h
fit_length g next (suc n) s (x ∷ xs) h = ap (λ (k : ℕ). suc k) (fit_length g next n (next s x) xs h.1)

pub behind_length_exact : {A : Type 0} (f : ℕ → Format (List A)) → ((n : ℕ) → n ≤ greatest32 → Exact (f n)) → ((n : ℕ) (xs : List A) → (f n).Fits xs → length xs ≡ n) → Exact (behind_length f)
behind_length_exact {A = A} f exact size = seen_exact (λ (xs : List A). (length xs, xs)) (λ p. p.1) (follow number32 f)
    (follow_exact number32 f number32_exact (λ n w. exact n w.below))
    (λ y _. refl)
    (λ x h. ap (λ (n : ℕ). (n, x.1)) (size x.0 x.1 h.1))

pub each_exact : {A : Type 0} (f : Format A) → Exact f → (n : ℕ) → Exact (each n f)
each_exact f e n = run_exact {S = ℕ} (λ _ _. f) (λ s _. s) (λ _ _. Unit {0}) (λ _ _ _. e) (λ _ _ _ _ _. tt) n 0 tt

pub counted_exact : {A : Type 0} (f : Format A) → Exact f → Exact (counted f)
counted_exact f e = behind_length_exact (λ n. each n f) (λ n _. each_exact f e n) (λ n xs h. fit_length {S = ℕ} (λ _ _. f) (λ s _. s) n 0 xs h)

-- ---- lists that ascend

-- room for so many numbers from `least` on, below 2 ^ 32
abbrev pub HasRoom : ℕ → ℕ → Type 0
HasRoom n least = least + n ≤ 2 ^ 32

pub ascend_exact : (n least : ℕ) → HasRoom n least → Exact (ascend n least)
ascend_exact n least room = run_exact {S = ℕ} (λ after low. number low (2 ^ 32 - 1 - after)) (λ _ x. x + 1) HasRoom
    (λ after low h. number_exact low (2 ^ 32 - 1 - after) (omega arith) (omega arith))
    (λ after low x h w. omega (arith, w.below))
    n least room

pub ascend_by_exact : {A : Type 0} (f : Format A) → Exact f → (n least : ℕ) → HasRoom n least → Exact (ascend_by f n least)
ascend_by_exact f e n least room = run_exact {S = ℕ} (λ after low. follow (number low (2 ^ 32 - 1 - after)) (λ _. f)) (λ _ x. x.0 + 1) HasRoom
    (λ after low h. follow_exact (number low (2 ^ 32 - 1 - after)) (λ _. f) (number_exact low (2 ^ 32 - 1 - after) (omega arith) (omega arith)) (λ _ _. e))
    (λ after low x h w. omega (arith, w.0.below))
    n least room

pub ascending_exact : Exact ascending
ascending_exact = behind_length_exact (λ n. ascend n 0) (λ n le. ascend_exact n 0 (omega arith)) (λ n xs h. fit_length {S = ℕ} (λ after low. number low (2 ^ 32 - 1 - after)) (λ _ y. y + 1) n 0 xs h)

pub ascending_by_exact : {A : Type 0} (f : Format A) → Exact f → Exact (ascending_by f)
ascending_by_exact f e = behind_length_exact (λ n. ascend_by f n 0) (λ n le. ascend_by_exact f e n 0 (omega arith)) (λ n xs h. fit_length {S = ℕ} (λ after low. follow (number low (2 ^ 32 - 1 - after)) (λ _. f)) (λ _ y. y.0 + 1) n 0 xs h)

-- ---- options

option_back : {A : Type 0} (o : Option A) → list_option (option_list o) ≡ o
option_back None = refl
option_back (Some x) = refl

list_back : {A : Type 0} (f : Format A) (n : ℕ) (xs : List A) → n ≤ 1 → (each n f).Fits xs → ◌≡◌ {A = ℕ × List A} (length (option_list (list_option xs)), option_list (list_option xs)) (n, xs)
list_back f zero [] le h = refl
list_back f zero (x ∷ xs) le h = absurd h
list_back f (suc n) [] le h = absurd h
list_back f (suc zero) (x ∷ []) le h = refl
list_back f (suc zero) (x ∷ y ∷ xs) le h = absurd h.1
list_back f (suc (suc n)) (x ∷ xs) le h = absurd (omega arith)

pub optional_exact : {A : Type 0} (f : Format A) → Exact f → Exact (optional f)
optional_exact {A = A} f x = seen_exact (λ (o : Option A). (length (option_list o), option_list o)) (λ p. list_option p.1) (follow (number 0 1) (λ n. each n f))
    (follow_exact (number 0 1) (λ n. each n f) (number_exact 0 1 (omega arith) (omega arith)) (λ n _. each_exact f x n))
    (λ o _. option_back o)
    (λ p h. list_back f p.0 p.1 h.0.below h.1)
