-- Fewer taken numbers than there are leave one that is free.
use Rattle.std.proofs.Common.{◌≡◌, ℕ, zero, suc, ◌^◌, ◌≤◌, ◌<◌, Bool, true, false, List, [], ◌∷◌, length, refl, sym, ap, ◌∙◌, arith, inl, inr}
use Rattle.std.specs.Prelude.{nat_eq, not, ◌&&◌}
use Rattle.std.proofs.lemmas.Bool.{cases_Bool, both_ways, and_parts, and_from, eqb-true, ne_eqb}
use Rattle.fac_spelling.specs.Formats.{Exact}
use Rattle.fac_spelling.specs.Numbers.{greatest32}
use Rattle.fac_spelling.specs.TestedNumbers.{is_free, fresh}
use Rattle.fac_spelling.proofs.TestedLaws.{where_exact}

without : ℕ → List ℕ → List ℕ
without n [] = []
without n (t ∷ ts) = elim (nat_eq t n) [ true ↦ without n ts | false ↦ t ∷ without n ts ]

without_le : (n : ℕ) (ts : List ℕ) → length (without n ts) ≤ length ts
unfolding without
without_le n [] = omega arith
without_le n (t ∷ ts) = go (nat_eq t n) (without_le n ts)
  where
    go : (b : Bool) → length (without n ts) ≤ length ts → length {A = ℕ} (elim b [ true ↦ without n ts | false ↦ t ∷ without n ts ]) ≤ suc (length ts)
    go true h = omega arith
    go false h = omega arith

without_lt : (n : ℕ) (ts : List ℕ) → is_free ts n ≡ false → length (without n ts) < length ts
unfolding without
without_lt n [] h = absurd (both_ways true h refl)
without_lt n (t ∷ ts) h = go (nat_eq t n) h (without_le n ts) (without_lt n ts)
  where
    go : (b : Bool) → (not b && is_free ts n) ≡ false → length (without n ts) ≤ length ts → (is_free ts n ≡ false → length (without n ts) < length ts) → length {A = ℕ} (elim b [ true ↦ without n ts | false ↦ t ∷ without n ts ]) < suc (length ts)
    go true k le lt = omega arith
    go false k le lt = omega (arith, lt k)

without_free : (n m : ℕ) (ts : List ℕ) → (m ≡ n → ⊥) → is_free (without n ts) m ≡ true → is_free ts m ≡ true
unfolding without
without_free n m [] other h = refl
without_free n m (t ∷ ts) other h = go (nat_eq t n) refl h (without_free n m ts other)
  where
    go : (b : Bool) → nat_eq t n ≡ b → is_free (elim b [ true ↦ without n ts | false ↦ t ∷ without n ts ]) m ≡ true → (is_free (without n ts) m ≡ true → is_free ts m ≡ true) → (not (nat_eq t m) && is_free ts m) ≡ true
    go true is k r =
        let same : t ≡ n = eqb-true t n is in
        and_from (not (nat_eq t m)) (is_free ts m) (ap not (ne_eqb t m (λ q. other (sym q ∙ same)))) (r k)
    go false is k r =
        let p = and_parts (not (nat_eq t m)) (is_free (without n ts) m) k in
        and_from (not (nat_eq t m)) (is_free ts m) p.0 (r p.1)

-- fewer numbers than there are below n leave one of those
pub one_free : (n : ℕ) (taken : List ℕ) → length taken < n → (m : ℕ) × (m < n) × (is_free taken m ≡ true)
one_free zero taken lt = absurd (omega arith)
one_free (suc n) taken lt = elim (cases_Bool (is_free taken n)) [
  | inl is ↦ (n, omega arith, is)
  | inr is ↦
      let l = without_lt n taken is in
      let r = one_free n (without n taken) (omega arith) in
      (r.0, omega (arith, r.1), without_free n r.0 taken (λ q. omega (arith, r.1)) r.2)
]

pub fresh_exact : (taken : List ℕ) → length taken < 2 ^ 32 → Exact (fresh taken)
fresh_exact taken lt =
    let r = one_free (2 ^ 32) taken lt in
    where_exact (is_free taken) 0 (greatest32) (r.0, record { above = omega arith; below = omega (arith, r.1); passes = r.2 }) (omega arith)
