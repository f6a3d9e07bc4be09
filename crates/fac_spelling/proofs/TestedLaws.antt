-- The laws of numbers that pass a test.
use Rattle.std.proofs.Common.{◌≡◌, ℕ, zero, suc, ◌+◌, ◌-◌, ◌*◌, ◌/◌, ◌%◌, ◌^◌, ◌≤◌, ◌<◌, Bool, true, false, cond, List, [], ◌∷◌, ◌++◌, length, Result, Ok, Err, refl, sym, ap, subst, ◌∙◌, arith, inl, inr}
use Rattle.std.specs.Prelude.{nat_lt, ◌&&◌}
use Rattle.std.proofs.lemmas.Bool.{cases_lt, cases_eq, and_parts, and_from, lt-ltb, le-ltb, ltb-true, ltb-false, both_ways}
use Rattle.fac_spelling.proofs.NumberLaws.{Enough, enough_below, low_digit, high_digit, low_first, high_first, rest_within, whole_within, within_stands, stands_within, spelled_on, clash}
use Rattle.fac_spelling.specs.Formats.{◌>>=◌, Format, Begins, Ends, Refused, Right, Exact}
use Rattle.fac_spelling.specs.Numbers.{digits, shortest, least, most, in_range}
use Rattle.fac_spelling.specs.TestedNumbers.{some_in, any_passes, test_behind, leads_on_where, number_where_at, Passes, number_where}

-- ---- whether a number passes

some_from : (test : ℕ → Bool) (low count n : ℕ) → low ≤ n → n < low + count → test n ≡ true → some_in test low count ≡ true
unfolding some_in
some_from test low zero n le lt h = absurd (omega arith)
some_from test low (suc count) n le lt h = go (test low) refl (λ lt_n. some_from test (low + 1) count n (omega arith) (omega arith) h)
  where
    go : (t : Bool) → test low ≡ t → (low < n → some_in test (low + 1) count ≡ true) → elim t [ true ↦ true | false ↦ some_in test (low + 1) count ] ≡ true
    go true e k = refl
    go false e k = elim (cases_eq low n) [
      | inl same ↦ absurd (both_ways (test low) e (subst (λ (z : ℕ). test z ≡ true) (sym same) h))
      | inr other ↦ k (omega arith)
    ]

some_gives : (test : ℕ → Bool) (low count : ℕ) → some_in test low count ≡ true → (n : ℕ) × (low ≤ n) × (n < low + count) × (test n ≡ true)
unfolding some_in
some_gives test low zero e = absurd (clash (sym e))
some_gives test low (suc count) e = go (test low) refl e (λ k. let r = some_gives test (low + 1) count k in (r.0, omega (arith, r.1), omega (arith, r.2), r.3))
  where
    go : (t : Bool) → test low ≡ t → elim t [ true ↦ true | false ↦ some_in test (low + 1) count ] ≡ true → (some_in test (low + 1) count ≡ true → (n : ℕ) × (low ≤ n) × (n < low + suc count) × (test n ≡ true)) → (n : ℕ) × (low ≤ n) × (n < low + suc count) × (test n ≡ true)
    go true is h k = (low, omega arith, omega arith, is)
    go false is h k = k h

pub has_from : (test : ℕ → Bool) (low high n : ℕ) → Passes test low high n → any_passes test low high ≡ true
has_from test low high n w = some_from test low (high + 1 - low) n w.above (omega (arith, w.above, w.below)) w.passes

pub has_gives : (test : ℕ → Bool) (low high : ℕ) → any_passes test low high ≡ true → (n : ℕ) × Passes test low high n
has_gives test low high e = let r = some_gives test low (high + 1 - low) e in (r.0, record { above = r.1; below = omega (arith, r.1, r.2); passes = r.3 })

-- ---- steps

abbrev pub where_digits : ℕ → (ℕ → Bool) → ℕ → ℕ → Format ℕ
where_digits more test low high = record { Fits = Passes test low high; spell = digits more; read = number_where_at test low high }

rest_passes : (test : ℕ → Bool) (low high b n : ℕ) → 128 ≤ n → 128 + n % 128 ≡ b → Passes test low high n → Passes (test_behind b test) (least low b) (most high b) (n / 128)
rest_passes test low high b n le e w =
    let r = rest_within low high b n le e (record { above = w.above; below = w.below }) in
    let same : n ≡ b - 128 + 128 * (n / 128) = omega arith in
    record { above = r.above; below = r.below; passes = subst (λ (z : ℕ). test z ≡ true) same w.passes }

whole_passes : (test : ℕ → Bool) (low high b h : ℕ) → 128 ≤ b → b < 256 → Passes (test_behind b test) (least low b) (most high b) h → Passes test low high (b - 128 + 128 * h) × (128 ≤ b - 128 + 128 * h)
whole_passes test low high b h le lt w =
    let r = whole_within low high b h le lt (omega (arith, w.above, w.below)) (record { above = w.above; below = w.below }) in
    (record { above = r.0.above; below = r.0.below; passes = w.passes }, r.1)

-- ---- what is spelled is read

read_low : (test : ℕ → Bool) (low high b : ℕ) (bs : List ℕ) → b < 128 → Passes test low high b → number_where_at test low high (b ∷ bs) ≡ Ok (b, bs)
read_low test low high b bs lt w =
    let t : nat_lt b 128 ≡ true = lt-ltb b 128 lt in
    let u : (in_range low high b && test b) ≡ true = and_from (in_range low high b) (test b) (within_stands low high b (record { above = w.above; below = w.below })) w.passes in
    rw (t, u) refl

read_high : (test : ℕ → Bool) (low high b : ℕ) (bs : List ℕ) → 128 ≤ b → b < 256 → any_passes (test_behind b test) (least low b) (most high b) ≡ true
    → number_where_at test low high (b ∷ bs) ≡ (number_where_at (test_behind b test) (least low b) (most high b) bs >>= λ x. Ok (b - 128 + 128 * x.0, x.1))
read_high test low high b bs le lt k =
    let t : nat_lt b 128 ≡ false = le-ltb b 128 le in
    let u : leads_on_where test low high b ≡ true = and_from (nat_lt b 256) (any_passes (test_behind b test) (least low b) (most high b)) (lt-ltb b 256 lt) k in
    rw (t, u) refl

pub where_again : (more : ℕ) (test : ℕ → Bool) (low high n : ℕ) (rest : List ℕ) → Enough more high → Passes test low high n → number_where_at test low high (digits more n ++ rest) ≡ Ok (n, rest)
where_again zero test low high n rest h w = read_low test low high n rest (omega (arith, w.below)) w
where_again (suc more) test low high n rest h w = elim (cases_lt n 128) [
  | inl k ↦ rw (low_digit (suc more) n k) (read_low test low high n rest k w)
  | inr k ↦
      let r = rest_passes test low high (128 + n % 128) n k refl w in
      let again : number_where_at (test_behind (128 + n % 128) test) (least low (128 + n % 128)) (most high (128 + n % 128)) (digits more (n / 128) ++ rest) ≡ Ok (n / 128, rest) =
      where_again more (test_behind (128 + n % 128) test) (least low (128 + n % 128)) (most high (128 + n % 128)) (n / 128) rest (enough_below more (most high (128 + n % 128)) (high / 128) (omega arith) h) r in
      let whole : 128 + n % 128 - 128 + 128 * (n / 128) ≡ n = omega arith in
      rw (high_digit more n k, read_high test low high (128 + n % 128) (digits more (n / 128) ++ rest) (omega arith) (omega arith) (has_from (test_behind (128 + n % 128) test) (least low (128 + n % 128)) (most high (128 + n % 128)) (n / 128) r), again, whole) refl
]

-- ---- a fault is the exact place

first_byte : (more : ℕ) (test : ℕ → Bool) (low high b : ℕ) (bs : List ℕ) → (n : ℕ) × Passes test low high n → (Begins (where_digits more test low high) (b ∷ []) → ⊥) → Refused (where_digits more test low high) (b ∷ bs) (suc (length bs))
first_byte more test low high b bs one never = record {
  front = [];
  rest = b ∷ bs;
  parts = refl;
  size = refl;
  begins = record { value = one.0; fits = one.1; more = digits more one.0; is = refl };
  ends = never;
}

not_low : (more : ℕ) (test : ℕ → Bool) (low high b : ℕ) → Enough more high → b < 128 → (Passes test low high b → ⊥) → Begins (where_digits more test low high) (b ∷ []) → ⊥
not_low more test low high b h lt never w =
    let e : w.value ≡ b = low_first more w.value b w.more (enough_below more w.value high w.fits.below h) lt w.is in
    never (subst (Passes test low high) e w.fits)

not_high : (more : ℕ) (test : ℕ → Bool) (low high b : ℕ) → 128 ≤ b → (b < 256 → any_passes (test_behind b test) (least low b) (most high b) ≡ true → ⊥) → Begins (where_digits (suc more) test low high) (b ∷ []) → ⊥
not_high more test low high b le never w =
    let k = high_first more w.value b w.more le w.is in
    let r = rest_passes test low high b w.value k.large k.first w.fits in
    never (omega (arith, k.first)) (has_from (test_behind b test) (least low b) (most high b) (w.value / 128) r)

not_high_last : (test : ℕ → Bool) (low high b : ℕ) → high < 128 → 128 ≤ b → Begins (where_digits zero test low high) (b ∷ []) → ⊥
not_high_last test low high b h le w = let e : w.value ≡ b = let i : w.value ∷ [] ≡ b ∷ w.more = w.is in cc in omega (arith, w.fits.below)

longer : (more : ℕ) (test : ℕ → Bool) (low high b : ℕ) (front : List ℕ) → 128 ≤ b → Begins (where_digits (suc more) test low high) (b ∷ front) → Begins (where_digits more (test_behind b test) (least low b) (most high b)) front
longer more test low high b front le w =
    let k = high_first more w.value b (front ++ w.more) le w.is in
    record { value = w.value / 128; fits = rest_passes test low high b w.value k.large k.first w.fits; more = w.more; is = k.others }

longer_ends : (more : ℕ) (test : ℕ → Bool) (low high b : ℕ) (front rest : List ℕ) → 128 ≤ b → Ends (where_digits more (test_behind b test) (least low b) (most high b)) front rest → Ends (where_digits (suc more) test low high) (b ∷ front) rest
longer_ends more test low high b front [] le h = tt
longer_ends more test low high b front (c ∷ cs) le h = λ w. h (longer more test low high b (front ++ c ∷ []) le w)

-- as for numbers without a test, of which the format, and so each lemma here, is another one
longer_right : (more : ℕ) (test : ℕ → Bool) (low high b : ℕ) (bs : List ℕ) → 128 ≤ b → b < 256 → (r : Result (ℕ × List ℕ) ℕ) → Right (where_digits more (test_behind b test) (least low b) (most high b)) bs r
    → Right (where_digits (suc more) test low high) (b ∷ bs) (r >>= λ x. Ok (b - 128 + 128 * x.0, x.1))
longer_right more test low high b bs le lt (Ok x) h =
    let w = whole_passes test low high b x.0 le lt h.fits in
    record { fits = w.0; parts = ap (λ (z : List ℕ). b ∷ z) h.parts ∙ ap (λ (z : List ℕ). z ++ x.1) (sym (spelled_on more b x.0 le lt w.1)) }
longer_right more test low high b bs le lt (Err left) h =
    let w = whole_passes test low high b h.begins.value le lt h.begins.fits in
    record {
      front = b ∷ h.front;
      rest = h.rest;
      parts = ap (λ (z : List ℕ). b ∷ z) h.parts;
      size = h.size;
      begins = record { value = b - 128 + 128 * h.begins.value; fits = w.0; more = h.begins.more; is = spelled_on more b h.begins.value le lt w.1 ∙ ap (λ (z : List ℕ). b ∷ z) h.begins.is };
      ends = longer_ends more test low high b h.front h.rest le h.ends;
    }

where_step : (more : ℕ) (test : ℕ → Bool) (low high b : ℕ) (bs : List ℕ) → (n : ℕ) × Passes test low high n → Enough more high
    → ((after : ℕ) → more ≡ suc after → 128 ≤ b → any_passes (test_behind b test) (least low b) (most high b) ≡ true → Right (where_digits after (test_behind b test) (least low b) (most high b)) bs (number_where_at (test_behind b test) (least low b) (most high b) bs))
    → (t : Bool) → nat_lt b 128 ≡ t → (u : Bool) → (in_range low high b && test b) ≡ u → (v : Bool) → leads_on_where test low high b ≡ v
    → Right (where_digits more test low high) (b ∷ bs) (cond t (cond u (Ok (b, bs)) (Err (suc (length bs)))) (cond v (number_where_at (test_behind b test) (least low b) (most high b) bs >>= λ x. Ok (b - 128 + 128 * x.0, x.1)) (Err (suc (length bs)))))
where_step more test low high b bs one h deep true is_t true is_u v is_v =
    let p = and_parts (in_range low high b) (test b) is_u in
    let w = stands_within low high b p.0 in
    record { fits = record { above = w.above; below = w.below; passes = p.1 }; parts = ap (λ (z : List ℕ). z ++ bs) (sym (low_digit more b (ltb-true b 128 is_t))) }
where_step more test low high b bs one h deep true is_t false is_u v is_v =
    first_byte more test low high b bs one (not_low more test low high b h (ltb-true b 128 is_t) (λ w. clash (sym (and_from (in_range low high b) (test b) (within_stands low high b (record { above = w.above; below = w.below })) w.passes) ∙ is_u)))
where_step zero test low high b bs one h deep false is_t u is_u true is_v =
    let p = and_parts (nat_lt b 256) (any_passes (test_behind b test) (least low b) (most high b)) is_v in
    let r = has_gives (test_behind b test) (least low b) (most high b) p.1 in
    let ge : 128 ≤ b = ltb-false b 128 is_t in
    absurd (omega (arith, r.1.above, r.1.below, h))
where_step (suc more) test low high b bs one h deep false is_t u is_u true is_v =
    let p = and_parts (nat_lt b 256) (any_passes (test_behind b test) (least low b) (most high b)) is_v in
    let ge : 128 ≤ b = ltb-false b 128 is_t in
    longer_right more test low high b bs ge (ltb-true b 256 p.0) (number_where_at (test_behind b test) (least low b) (most high b) bs) (deep more refl ge p.1)
where_step zero test low high b bs one h deep false is_t u is_u false is_v = first_byte zero test low high b bs one (not_high_last test low high b h (ltb-false b 128 is_t))
where_step (suc more) test low high b bs one h deep false is_t u is_u false is_v =
    first_byte (suc more) test low high b bs one (not_high more test low high b (ltb-false b 128 is_t) (λ lt k. clash (sym (and_from (nat_lt b 256) (any_passes (test_behind b test) (least low b) (most high b)) (lt-ltb b 256 lt) k) ∙ is_v)))

pub where_right : (more : ℕ) (test : ℕ → Bool) (low high : ℕ) → (n : ℕ) × Passes test low high n → Enough more high → (bytes : List ℕ) → Right (where_digits more test low high) bytes (number_where_at test low high bytes)
where_right more test low high one h [] = record { front = []; rest = []; parts = refl; size = refl; begins = record { value = one.0; fits = one.1; more = digits more one.0; is = refl }; ends = tt }
where_right more test low high one h (b ∷ bs) =
    where_step more test low high b bs one h
    (λ after is ge k. where_right after (test_behind b test) (least low b) (most high b) (has_gives (test_behind b test) (least low b) (most high b) k) (enough_below after (most high b) (high / 128) (omega arith) (subst (λ (n : ℕ). Enough n high) is h)) bs)
    (nat_lt b 128) refl (in_range low high b && test b) refl (leads_on_where test low high b) refl

-- exact where some number passes
pub where_exact : (test : ℕ → Bool) (low high : ℕ) → (n : ℕ) × Passes test low high n → high < 2 ^ 128 → Exact (number_where test low high)
unfolding shortest
where_exact test low high one lt =
    let enough : Enough 18 high = enough_below 18 high (2 ^ 128 - 1) (omega arith) (omega arith) in
    record { one = one.0; one_fits = one.1; again = λ n rest w. where_again 18 test low high n rest enough w; right = λ bytes. where_right 18 test low high one enough bytes }
