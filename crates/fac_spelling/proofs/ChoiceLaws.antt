-- The laws of rows behind a tag.
use Rattle.std.proofs.Common.{◌≡◌, ℕ, zero, suc, ◌+◌, ◌^◌, ◌≤◌, ◌<◌, Bool, true, false, List, [], ◌∷◌, length, get_or, drop, refl, subst, arith, inl, inr}
use Rattle.std.specs.Prelude.{nat_eq}
use Rattle.std.proofs.lemmas.Bool.{cases_lt, eq-eqb, ne_eqb}
use Rattle.fac_spelling.specs.Formats.{Exact, follow}
use Rattle.fac_spelling.specs.Numbers.{IsWithin, number}
use Rattle.fac_spelling.specs.Choices.{operands, Row, row_at, choice, bit, plain, with_number, with_numbers}
use Rattle.fac_spelling.proofs.FormatLaws.{follow_exact, seen_exact, run_exact}
use Rattle.fac_spelling.proofs.NumberLaws.{number_exact}

-- the greatest values are below 2 ^ 128
abbrev pub AllBelow : List ℕ → Type 0
AllBelow [] = Unit {0}
AllBelow (m ∷ ms) = (m < 2 ^ 128) × AllBelow ms

abbrev Good : ℕ → List ℕ → Type 0
Good n ms = (length ms ≡ n) × AllBelow ms

good_first : (n : ℕ) (ms : List ℕ) → Good (suc n) ms → Exact (number 0 (get_or ms 0 0))
good_first n [] h = number_exact 0 0 (omega arith) (omega arith)
good_first n (m ∷ ms) h = number_exact 0 m (omega arith) h.1.0

good_rest : (n : ℕ) (ms : List ℕ) → Good (suc n) ms → Good n (drop 1 ms)
good_rest n [] h = absurd (omega (arith, h.0))
good_rest n (m ∷ ms) h = (omega (arith, h.0), h.1.1)

pub operands_exact : (ms : List ℕ) → AllBelow ms → Exact (operands ms)
operands_exact ms h = run_exact {S = List ℕ} (λ _ s. number 0 (get_or s 0 0)) (λ s _. drop 1 s) Good good_first (λ n s _ g _. good_rest n s g) (length ms) ms (refl, h)

-- what each row has to show: its numbers make a value of its tag and these numbers
pub record RowHolds {A : Type 0} (parts : A → ℕ × List ℕ) (k : ℕ) (row : Row A) : Type 0 where
  pub below : AllBelow row.greatest
  pub back : (xs : List ℕ) → (operands row.greatest).Fits xs → parts (row.make xs) ≡ (k, xs)

abbrev pub RowsHold : {A : Type 0} → (A → ℕ × List ℕ) → ℕ → List (Row A) → Type 0
RowsHold parts k [] = Unit {0}
RowsHold parts k (row ∷ rows) = RowHolds parts k row × RowsHold parts (suc k) rows

row_holds : {A : Type 0} (parts : A → ℕ × List ℕ) (start k : ℕ) (first : Row A) (rows : List (Row A)) → RowsHold parts start rows → k < length rows → RowHolds parts (start + k) (get_or rows k first)
row_holds parts start zero first [] h lt = absurd (omega arith)
row_holds parts start zero first (row ∷ rows) h lt = let e : start ≡ start + 0 = omega arith in subst (λ (n : ℕ). RowHolds parts n row) e h.0
row_holds parts start (suc k) first [] h lt = absurd (omega arith)
row_holds parts start (suc k) first (row ∷ rows) h lt =
    let e : suc start + k ≡ start + suc k = omega arith in
    subst (λ (n : ℕ). RowHolds parts n (get_or rows k first)) e (row_holds parts (suc start) k first rows h.1 (omega arith))

pub choice_exact : {A : Type 0} (first : Row A) (others : List (Row A)) (parts : A → ℕ × List ℕ) → length others < 2 ^ 128 → RowsHold parts 0 (first ∷ others)
    → ((y : A) → (row_at first others (parts y).0).make (parts y).1 ≡ y) → Exact (choice first others parts)
choice_exact {A = A} first others parts few hold there =
    let row : (k : ℕ) → IsWithin 0 (length others) k → RowHolds parts k (row_at first others k) = λ k w. let e : 0 + k ≡ k = omega arith in subst (λ (n : ℕ). RowHolds parts n (row_at first others k)) e (row_holds parts 0 k first (first ∷ others) hold (omega (arith, w.below))) in
    seen_exact parts (λ p. (row_at first others p.0).make p.1) (follow (number 0 (length others)) (λ k. operands (row_at first others k).greatest))
    (follow_exact (number 0 (length others)) (λ k. operands (row_at first others k).greatest) (number_exact 0 (length others) (omega arith) few) (λ k w. operands_exact (row_at first others k).greatest (row k w).below))
    (λ y _. there y)
    (λ x h. (row x.0 h.0).back x.1 h.1)

-- ---- flags and rows by shape

pub flag_back : (x : ℕ) → x ≤ 1 → bit (nat_eq x 1) ≡ x
flag_back x le = elim (cases_lt x 1) [
  | inl lt ↦ let e : nat_eq x 1 ≡ false = ne_eqb x 1 (λ z. omega arith) in rw e (omega arith)
  | inr ge ↦ let e : nat_eq x 1 ≡ true = eq-eqb x 1 (omega arith) in rw e (omega arith)
]

pub bit_back : (t : Bool) → nat_eq (bit t) 1 ≡ t
bit_back true = refl
bit_back false = refl

pub plain_holds : {A : Type 0} (parts : A → ℕ × List ℕ) (k : ℕ) (v : A) → parts v ≡ (k, []) → RowHolds parts k (plain v)
plain_holds parts k v e = record { below = tt; back = go }
  where
    go : (xs : List ℕ) → (operands []).Fits xs → parts v ≡ (k, xs)
    go [] h = e
    go (x ∷ xs) h = absurd h

pub number_holds : {A : Type 0} (parts : A → ℕ × List ℕ) (k m : ℕ) (f : ℕ → A) → m < 2 ^ 128 → ((x : ℕ) → parts (f x) ≡ (k, x ∷ [])) → RowHolds parts k (with_number m f)
number_holds parts k m f lt e = record { below = (lt, tt); back = go }
  where
    go : (xs : List ℕ) → (operands (m ∷ [])).Fits xs → parts ((with_number m f).make xs) ≡ (k, xs)
    go [] h = absurd h
    go (x ∷ []) h = e x
    go (x ∷ y ∷ xs) h = absurd h.1

pub numbers_hold : {A : Type 0} (parts : A → ℕ × List ℕ) (k m n : ℕ) (f : ℕ → ℕ → A) → m < 2 ^ 128 → n < 2 ^ 128 → ((x y : ℕ) → parts (f x y) ≡ (k, x ∷ y ∷ [])) → RowHolds parts k (with_numbers m n f)
numbers_hold parts k m n f lt le e = record { below = (lt, (le, tt)); back = go }
  where
    go : (xs : List ℕ) → (operands (m ∷ n ∷ [])).Fits xs → parts ((with_numbers m n f).make xs) ≡ (k, xs)
    go [] h = absurd h
    go (x ∷ []) h = absurd h.1
    go (x ∷ y ∷ []) h = e x y
    go (x ∷ y ∷ z ∷ xs) h = absurd h.1.1
