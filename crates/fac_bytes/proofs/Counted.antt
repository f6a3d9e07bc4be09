-- What one count or several have come to.
use Rattle.std.proofs.Common.{◌≡◌, ℕ, suc, ◌+◌, ◌-◌, ◌<◌, ◌≤◌, List, ◌∷◌, ◌++◌, length, get_or, drop, refl, sym, ap, subst, ◌∙◌, arith}
use Rattle.std.proofs.lemmas.List.{length-append, drop_more}
use Rattle.fac_spelling.specs.Formats.{Format, each}

-- parts one behind another
pub sum_two : (m n : ℕ) (a b : List ℕ) → n ≡ m + length a → n + length b ≡ m + length (a ++ b)
sum_two m n a b p = let e = length-append a b in omega (arith, p, e)

pub sum_four : (m n k l : ℕ) (a b c d : List ℕ) → n ≡ m + length a → k ≡ n + length b → l ≡ k + length c → l + length d ≡ m + length (a ++ (b ++ (c ++ d)))
sum_four m n k l a b c d p q r =
    let e = length-append a (b ++ (c ++ d)) in
    let f = length-append b (c ++ d) in
    let g = length-append c d in
    omega (arith, p, q, r, e, f, g)

-- what is left completes the count, and has a spelling
pub record CountsUp {A : Type 0} (f : Format A) (xs : List A) (i count total : ℕ) : Type 0 where
  pub fits : (each (length xs - i) f).Fits (drop i xs)
  pub same : count + length ((each (length xs - i) f).spell (drop i xs)) ≡ total

pub counts_start : {A : Type 0} (f : Format A) (xs : List A) (count : ℕ) → (each (length xs) f).Fits xs → CountsUp f xs 0 count (count + length ((each (length xs) f).spell xs))
counts_start f xs count h =
    let k : length xs - 0 ≡ length xs = omega arith in
    record { fits = subst (λ (n : ℕ). (each n f).Fits xs) (sym k) h; same = ap (λ (n : ℕ). count + length ((each n f).spell xs)) k }

pub count_fits : {A : Type 0} (f : Format A) (xs : List A) (i : ℕ) (x : A) (count total : ℕ) → i < length xs → x ≡ get_or xs i x → CountsUp f xs i count total → f.Fits x
count_fits {A = A} f xs i x count total lt is c =
    let k : length xs - i ≡ suc (length xs - (i + 1)) = omega arith in
    let d : drop i xs ≡ x ∷ drop (i + 1) xs = drop_more xs i x lt ∙ ap (λ (z : A). z ∷ drop (i + 1) xs) (sym is) in
    let h : (each (suc (length xs - (i + 1))) f).Fits (x ∷ drop (i + 1) xs) = subst (λ (n : ℕ). (each n f).Fits (x ∷ drop (i + 1) xs)) k (subst (λ (ys : List A). (each (length xs - i) f).Fits ys) d c.fits) in
    h.0

pub counts_on : {A : Type 0} (f : Format A) (xs : List A) (i : ℕ) (x : A) (count total : ℕ) → i < length xs → x ≡ get_or xs i x → CountsUp f xs i count total → CountsUp f xs (i + 1) (count + length (f.spell x)) total
counts_on {A = A} f xs i x count total lt is c =
    let rest = (each (length xs - (i + 1)) f).spell (drop (i + 1) xs) in
    let k : length xs - i ≡ suc (length xs - (i + 1)) = omega arith in
    let d : drop i xs ≡ x ∷ drop (i + 1) xs = drop_more xs i x lt ∙ ap (λ (z : A). z ∷ drop (i + 1) xs) (sym is) in
    let h : (each (suc (length xs - (i + 1))) f).Fits (x ∷ drop (i + 1) xs) = subst (λ (n : ℕ). (each n f).Fits (x ∷ drop (i + 1) xs)) k (subst (λ (ys : List A). (each (length xs - i) f).Fits ys) d c.fits) in
    let s : count + length (f.spell x ++ rest) ≡ total = subst (λ (n : ℕ). count + length ((each n f).spell (x ∷ drop (i + 1) xs)) ≡ total) k (subst (λ (ys : List A). count + length ((each (length xs - i) f).spell ys) ≡ total) d c.same) in
    record { fits = h.1; same = sum_two count (count + length (f.spell x)) (f.spell x) rest refl ∙ s }

pub counts_end : {A : Type 0} (f : Format A) (xs : List A) (i count total : ℕ) → length xs ≤ i → CountsUp f xs i count total → count ≡ total
counts_end f xs i count total le c =
    let k : length xs - i ≡ 0 = omega arith in
    let s : count + length ((each 0 f).spell (drop i xs)) ≡ total = subst (λ (n : ℕ). count + length ((each n f).spell (drop i xs)) ≡ total) k c.same in
    let z : count + 0 ≡ count = omega arith in
    sym z ∙ s
