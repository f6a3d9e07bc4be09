-- Generics have a spelling where no two of their methods have one number.
use Rattle.std.proofs.Common.{◌≡◌, refl, ℕ, ◌+◌, ◌^◌, ◌≤◌, ◌<◌, Bool, true, false, List, [], ◌∷◌, ◌++◌, length, sym, ap, subst, ◌∙◌, append_assoc, arith}
use Rattle.std.specs.Prelude.{◌||◌, nat_eq}
use Rattle.std.specs.List.{AllByRecursion, IsDistinct, list_any}
use Rattle.std.proofs.lemmas.List.{length-append, length-map}
use Rattle.std.proofs.lemmas.Map.Steps.{length-le_from_distinct_below}
use Rattle.fac_code.specs.declared.image.MethodRow.{MethodRow}
use Rattle.fac_code.specs.declared.image.GenericRow.{GenericRow}
use Rattle.fac_bytes.specs.Spellable.{method_numbers}
use Rattle.fac_spelling.specs.Formats.{each}
use Rattle.fac_spelling.specs.Lists.{counted}
use Rattle.fac_spelling.specs.TestedNumbers.{is_free}
use Rattle.fac_bytes.specs.GenericBytes.{methods, numbers_of, generics_from, generics}
use Rattle.fac_bytes.proofs.PlainLaws.{plain_method, plain_generic}

-- the number behind some that differ from it and from one another is free
apart_from : (t : ℕ) (ts : List ℕ) (n : ℕ) (rest : List ℕ) → AllByRecursion (λ y. nat_eq t y ≡ false) (ts ++ n ∷ rest) → nat_eq t n ≡ false
apart_from t [] n rest h = h.0
apart_from t (u ∷ ts) n rest h = apart_from t ts n rest h.1

free_behind : (ts : List ℕ) (n : ℕ) (rest : List ℕ) → IsDistinct nat_eq (ts ++ n ∷ rest) → is_free ts n ≡ true
unfolding IsDistinct
free_behind [] n rest h = refl
free_behind (t ∷ ts) n rest h = rw (apart_from t ts n rest h.0) (free_behind ts n rest h.1)

methods_fit : (taken rest : List ℕ) (ms : List MethodRow) → (each (length ms) plain_method).Fits ms → IsDistinct nat_eq (taken ++ (numbers_of ms ++ rest)) → (methods (length ms) taken).Fits ms
methods_fit taken rest [] fits h = tt
methods_fit taken rest (m ∷ ms) fits h =
    let next : taken ++ (m.number ∷ (numbers_of ms ++ rest)) ≡ (taken ++ m.number ∷ []) ++ (numbers_of ms ++ rest) = sym (append_assoc taken (m.number ∷ []) (numbers_of ms ++ rest)) in (
      (record { above = fits.0.0.above; below = fits.0.0.below; passes = free_behind taken m.number (numbers_of ms ++ rest) h }, fits.0.1),
      methods_fit (taken ++ m.number ∷ []) rest ms fits.1 (subst (IsDistinct nat_eq) next h),
    )

generics_fit : (taken : List ℕ) (gs : List GenericRow) → (each (length gs) plain_generic).Fits gs → IsDistinct nat_eq (taken ++ method_numbers gs) → length taken + length (method_numbers gs) ≤ 2 ^ 32 → (generics_from (length gs) taken).Fits gs
generics_fit taken [] fits h few = tt
generics_fit taken (g ∷ gs) fits h few =
    let own = numbers_of g.methods in
    let others = method_numbers gs in
    let many : length (own ++ others) ≡ length g.methods + length others = length-append own others ∙ ap (λ (n : ℕ). n + length others) (length-map g.methods (λ m. m.number)) in
    let then_taken : length (taken ++ own) ≡ length taken + length g.methods = length-append taken own ∙ ap (λ (n : ℕ). length taken + n) (length-map g.methods (λ m. m.number)) in
    let next : taken ++ (own ++ others) ≡ (taken ++ own) ++ others = sym (append_assoc taken own others) in (
      (fits.0.0, (record { above = omega arith; below = omega (arith, many, few, fits.0.1.0.below) }, methods_fit taken others g.methods fits.0.1.1 h)),
      generics_fit (taken ++ own) gs fits.1 (subst (IsDistinct nat_eq) next h) (omega (arith, many, then_taken, few)),
    )

-- all numbers of methods have 32 bits
same_number : (q n : ℕ) → nat_eq q n ≡ true → q ≡ n
same_number q n h = grind arith

numbers_below : (ms : List MethodRow) (rest : List ℕ) → (each (length ms) plain_method).Fits ms → ((q : ℕ) → list_any (nat_eq q) rest ≡ true → q < 2 ^ 32) → (q : ℕ) → list_any (nat_eq q) (numbers_of ms ++ rest) ≡ true → q < 2 ^ 32
numbers_below [] rest fits below q h = below q h
numbers_below (m ∷ ms) rest fits below q h = by (nat_eq q m.number) refl h (λ k. numbers_below ms rest fits.1 below q k)
  where
    by : (b : Bool) → nat_eq q m.number ≡ b → (b || list_any (nat_eq q) (numbers_of ms ++ rest)) ≡ true → (list_any (nat_eq q) (numbers_of ms ++ rest) ≡ true → q < 2 ^ 32) → q < 2 ^ 32
    by true e h others = omega (arith, same_number q m.number e, fits.0.0.below)
    by false e h others = others h

all_below : (gs : List GenericRow) → (each (length gs) plain_generic).Fits gs → (q : ℕ) → list_any (nat_eq q) (method_numbers gs) ≡ true → q < 2 ^ 32
all_below [] fits q h = absurd (cc)
all_below (g ∷ gs) fits q h = numbers_below g.methods (method_numbers gs) fits.0.1.1 (all_below gs fits.1) q h

pub distinct_fit : (gs : List GenericRow) → (counted plain_generic).Fits gs → IsDistinct nat_eq (method_numbers gs) → generics.Fits gs
distinct_fit gs fits h =
    let few = length-le_from_distinct_below (method_numbers gs) (2 ^ 32) h (all_below gs fits.1) in
    (fits.0, generics_fit [] gs fits.1 h (omega (arith, few)))
