-- Numbers past 128 bits, which the code keeps as the largest one.
use Rattle.std.proofs.Common.{◌≡◌, ℕ, zero, suc, ◌+◌, ◌-◌, ◌*◌, ◌^◌, ◌≤◌, ◌⊎◌, inl, inr, min, List, [], ◌∷◌, Option, Some, None, Bool, true, false, ◌&&◌, refl, sym, ◌∙◌, ap, arith}
use Rattle.std.specs.Prelude.{nat_eq}
use Rattle.fac_base.specs.Numbers.{digit_of, digit_below, digits_from}
use Rattle.fac_num.specs.inner.NumberSteps.{capped, capped_some, grouped_from}

capped_twice : (base n d : ℕ) → min (min (n * base) (2 ^ 128 - 1) + d) (2 ^ 128 - 1) ≡ capped (base * n + d)
capped_twice base n d = omega arith

-- one more digit behind a capped value
pub capped_digit : (base n d b e product total : ℕ) → b ≡ base → e ≡ d → product ≡ min (n * b) (2 ^ 128 - 1) → total ≡ min (product + e) (2 ^ 128 - 1) → total ≡ capped (base * n + d)
capped_digit base n d b e product total is_base is_digit is_product is_total =
    is_total ∙ rw (is_product, is_base, is_digit) (capped_twice base n d)

pub large_digit : (k n d : ℕ) → 2 ^ 128 - 1 ≤ n → capped (suc k * n + d) ≡ 2 ^ 128 - 1
large_digit k n d h = omega arith

same_or_large : (n m : ℕ) → capped n ≡ capped m → (n ≡ m) ⊎ ((2 ^ 128 - 1 ≤ n) × (2 ^ 128 - 1 ≤ m))
same_or_large n m e = grind arith

same_by : (k n m d : ℕ) → (n ≡ m) ⊎ ((2 ^ 128 - 1 ≤ n) × (2 ^ 128 - 1 ≤ m)) → capped (suc k * n + d) ≡ capped (suc k * m + d)
same_by k n m d (inl e) = ap (λ x. capped (suc k * x + d)) e
same_by k n m d (inr h) = large_digit k n d h.0 ∙ sym (large_digit k m d h.1)

pub same_digit : (base n m d : ℕ) → capped n ≡ capped m → capped (base * n + d) ≡ capped (base * m + d)
same_digit zero n m d e = omega arith
same_digit (suc k) n m d e = same_by k n m d (same_or_large n m e)

digits_by : (base n m : ℕ) (cs : List ℕ) (o : Option ℕ) → ((d : ℕ) → capped_some (digits_from base (base * n + d) cs) ≡ capped_some (digits_from base (base * m + d) cs)) → capped_some (elim o [ None ↦ None | Some d ↦ digits_from base (base * n + d) cs ]) ≡ capped_some (elim o [ None ↦ None | Some d ↦ digits_from base (base * m + d) cs ])
digits_by base n m cs None later = refl
digits_by base n m cs (Some d) later = later d

-- digits behind two values that are capped alike
pub same_digits : (base n m : ℕ) (cs : List ℕ) → capped n ≡ capped m → capped_some (digits_from base n cs) ≡ capped_some (digits_from base m cs)
same_digits base n m [] e = ap Some e
same_digits base n m (c ∷ cs) e = digits_by base n m cs (digit_below base (digit_of c)) (λ d. same_digits base (base * n + d) (base * m + d) cs (same_digit base n m d e))

grouped_by : (n m : ℕ) (cs : List ℕ) (o : Option ℕ) (b : Bool) → ((d : ℕ) → capped_some (grouped_from true (10 * n + d) cs) ≡ capped_some (grouped_from true (10 * m + d) cs)) → capped_some (grouped_from false n cs) ≡ capped_some (grouped_from false m cs) → capped_some (elim o [ Some d ↦ grouped_from true (10 * n + d) cs | None ↦ elim b [ true ↦ grouped_from false n cs | false ↦ None ] ]) ≡ capped_some (elim o [ Some d ↦ grouped_from true (10 * m + d) cs | None ↦ elim b [ true ↦ grouped_from false m cs | false ↦ None ] ])
grouped_by n m cs (Some d) b later behind = later d
grouped_by n m cs None true later behind = behind
grouped_by n m cs None false later behind = refl

ends_by : (b : Bool) (n m : ℕ) → capped n ≡ capped m → capped_some (elim b [ true ↦ Some n | false ↦ None ]) ≡ capped_some (elim b [ true ↦ Some m | false ↦ None ])
ends_by true n m e = ap Some e
ends_by false n m e = refl

-- decimal digits with commas behind two values that are capped alike
pub same_groups : (after_digit : Bool) (n m : ℕ) (cs : List ℕ) → capped n ≡ capped m → capped_some (grouped_from after_digit n cs) ≡ capped_some (grouped_from after_digit m cs)
same_groups b n m [] e = ends_by b n m e
same_groups b n m (c ∷ cs) e = grouped_by n m cs (digit_below 10 (digit_of c)) (nat_eq c 44 && b) (λ d. same_groups true (10 * n + d) (10 * m + d) cs (same_digit 10 n m d e)) (same_groups false n m cs e)
