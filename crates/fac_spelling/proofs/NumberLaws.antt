-- The laws of numbers.
use Rattle.std.proofs.Common.{◌≡◌, ℕ, zero, suc, ◌+◌, ◌-◌, ◌*◌, ◌/◌, ◌%◌, ◌^◌, ◌≤◌, ◌<◌, Bool, true, false, cond, List, [], ◌∷◌, ◌++◌, length, Result, Ok, Err, refl, sym, ap, subst, ◌∙◌, append_assoc, arith, inl, inr}
use Rattle.std.specs.Prelude.{nat_lt, nat_le}
use Rattle.std.proofs.lemmas.Bool.{cases_lt, and_parts, and_from}
use Rattle.fac_spelling.specs.Formats.{◌>>=◌, Format, Begins, Ends, Refused, Right, Exact}
use Rattle.fac_spelling.specs.Numbers.{number32, greatest32, digits, shortest, least, most, leads_on, in_range, number_at, IsWithin, number}

-- So many digits behind the first are enough for numbers to `high`.
abbrev pub Enough : ℕ → ℕ → Type 0
Enough zero high = high < 128
Enough (suc more) high = Enough more (high / 128)

pub enough_below : (more low high : ℕ) → low ≤ high → Enough more high → Enough more low
enough_below zero low high le h = omega arith
enough_below (suc more) low high le h = enough_below more (low / 128) (high / 128) (omega arith) h

pub low_digit : (more n : ℕ) → n < 128 → digits more n ≡ n ∷ []
low_digit zero n lt = refl
low_digit (suc more) n lt = let t : nat_lt n 128 ≡ true = grind arith in rw t refl

pub high_digit : (more n : ℕ) → 128 ≤ n → digits (suc more) n ≡ (128 + n % 128) ∷ digits more (n / 128)
high_digit more n le = let t : nat_lt n 128 ≡ false = grind arith in rw t refl

-- a number whose first digit is below 128 is that digit
pub low_first : (more n b : ℕ) (bs : List ℕ) → Enough more n → b < 128 → digits more n ≡ b ∷ bs → n ≡ b
low_first zero n b bs h lt e = cc
low_first (suc more) n b bs h lt e = elim (cases_lt n 128) [
  | inl k ↦ let f : n ∷ [] ≡ b ∷ bs = sym (low_digit (suc more) n k) ∙ e in cc
  | inr k ↦ let f : (128 + n % 128) ∷ digits more (n / 128) ≡ b ∷ bs = sym (high_digit more n k) ∙ e in
      let g : 128 + n % 128 ≡ b = cc in absurd (omega arith)
]

-- what a first digit from 128 on says
pub record High (more n b : ℕ) (bs : List ℕ) : Type 0 where
  pub large : 128 ≤ n
  pub first : 128 + n % 128 ≡ b
  pub others : digits more (n / 128) ≡ bs

pub high_first : (more n b : ℕ) (bs : List ℕ) → 128 ≤ b → digits (suc more) n ≡ b ∷ bs → High more n b bs
high_first more n b bs le e = elim (cases_lt n 128) [
  | inl k ↦ let f : n ∷ [] ≡ b ∷ bs = sym (low_digit (suc more) n k) ∙ e in let g : n ≡ b = cc in absurd (omega arith)
  | inr k ↦ let f : (128 + n % 128) ∷ digits more (n / 128) ≡ b ∷ bs = sym (high_digit more n k) ∙ e in
      record { large = k; first = cc; others = cc }
]

-- numbers as a format, so many digits being enough
abbrev pub some_digits : ℕ → ℕ → ℕ → Format ℕ
some_digits more low high = record { Fits = IsWithin low high; spell = digits more; read = number_at low high }

-- a step of both ways
pub rest_within : (low high b n : ℕ) → 128 ≤ n → 128 + n % 128 ≡ b → IsWithin low high n → IsWithin (least low b) (most high b) (n / 128)
rest_within low high b n le e w = record { above = omega (arith, w.above); below = omega (arith, w.below) }

pub whole_within : (low high b h : ℕ) → 128 ≤ b → b < 256 → least low b ≤ most high b → IsWithin (least low b) (most high b) h → IsWithin low high (b - 128 + 128 * h) × (128 ≤ b - 128 + 128 * h) × ((b - 128 + 128 * h) / 128 ≡ h) × (128 + (b - 128 + 128 * h) % 128 ≡ b)
whole_within low high b h le lt k w = (record { above = omega (arith, w.above, w.below); below = omega (arith, w.above, w.below) }, omega (arith, w.above), omega arith, omega arith)

-- ---- what is spelled is read

read_low : (low high b : ℕ) (bs : List ℕ) → b < 128 → IsWithin low high b → number_at low high (b ∷ bs) ≡ Ok (b, bs)
read_low low high b bs lt w =
    let t : nat_lt b 128 ≡ true = grind arith in
    let u : nat_le low b ≡ true = grind (arith, w.above) in
    let v : nat_le b high ≡ true = grind (arith, w.below) in
    rw (t, u, v) refl

read_high : (low high b : ℕ) (bs : List ℕ) → 128 ≤ b → b < 256 → least low b ≤ most high b → number_at low high (b ∷ bs) ≡ (number_at (least low b) (most high b) bs >>= λ x. Ok (b - 128 + 128 * x.0, x.1))
read_high low high b bs le lt k =
    let t : nat_lt b 128 ≡ false = grind arith in
    let u : nat_lt b 256 ≡ true = grind arith in
    let v : nat_le (least low b) (most high b) ≡ true = grind arith in
    rw (t, u, v) refl

pub digits_again : (more low high n : ℕ) (rest : List ℕ) → Enough more high → IsWithin low high n → number_at low high (digits more n ++ rest) ≡ Ok (n, rest)
digits_again zero low high n rest h w = read_low low high n rest (omega (arith, w.below)) w
digits_again (suc more) low high n rest h w = elim (cases_lt n 128) [
  | inl k ↦ rw (low_digit (suc more) n k) (read_low low high n rest k w)
  | inr k ↦
      let r = rest_within low high (128 + n % 128) n k refl w in
      let again : number_at (least low (128 + n % 128)) (most high (128 + n % 128)) (digits more (n / 128) ++ rest) ≡ Ok (n / 128, rest) =
      digits_again more (least low (128 + n % 128)) (most high (128 + n % 128)) (n / 128) rest (enough_below more (most high (128 + n % 128)) (high / 128) (omega arith) h) r in
      let whole : 128 + n % 128 - 128 + 128 * (n / 128) ≡ n = omega arith in
      rw (high_digit more n k, read_high low high (128 + n % 128) (digits more (n / 128) ++ rest) (omega arith) (omega arith) (omega (arith, r.above, r.below)), again, whole) refl
]

-- ---- a fault is the exact place

-- the first byte is the fault
first_byte : (more low high b : ℕ) (bs : List ℕ) → low ≤ high → (Begins (some_digits more low high) (b ∷ []) → ⊥) → Refused (some_digits more low high) (b ∷ bs) (suc (length bs))
first_byte more low high b bs le never = record {
  front = [];
  rest = b ∷ bs;
  parts = refl;
  size = refl;
  begins = record { value = low; fits = record { above = omega arith; below = le }; more = digits more low; is = refl };
  ends = never;
}

not_low : (more low high b : ℕ) → Enough more high → b < 128 → (IsWithin low high b → ⊥) → Begins (some_digits more low high) (b ∷ []) → ⊥
not_low more low high b h lt never w =
    let e : w.value ≡ b = low_first more w.value b w.more (enough_below more w.value high w.fits.below h) lt w.is in
    never (subst (IsWithin low high) e w.fits)

not_high : (more low high b : ℕ) → Enough (suc more) high → 128 ≤ b → (b < 256 → least low b ≤ most high b → ⊥) → Begins (some_digits (suc more) low high) (b ∷ []) → ⊥
not_high more low high b h le never w =
    let k = high_first more w.value b w.more le w.is in
    let r = rest_within low high b w.value k.large k.first w.fits in
    never (omega (arith, k.first)) (omega (arith, r.above, r.below))

not_high_last : (low high b : ℕ) → high < 128 → 128 ≤ b → Begins (some_digits zero low high) (b ∷ []) → ⊥
not_high_last low high b h le w = let e : w.value ≡ b = let i : w.value ∷ [] ≡ b ∷ w.more = w.is in cc in omega (arith, w.fits.below)

-- a digit before
longer : (more low high b : ℕ) (front : List ℕ) → 128 ≤ b → Begins (some_digits (suc more) low high) (b ∷ front) → Begins (some_digits more (least low b) (most high b)) front
longer more low high b front le w =
    let k = high_first more w.value b (front ++ w.more) le w.is in
    record { value = w.value / 128; fits = rest_within low high b w.value k.large k.first w.fits; more = w.more; is = k.others }

longer_ends : (more low high b : ℕ) (front rest : List ℕ) → 128 ≤ b → Ends (some_digits more (least low b) (most high b)) front rest → Ends (some_digits (suc more) low high) (b ∷ front) rest
longer_ends more low high b front [] le h = tt
longer_ends more low high b front (c ∷ cs) le h = λ w. h (longer more low high b (front ++ c ∷ []) le w)

pub spelled_on : (more b h : ℕ) → 128 ≤ b → b < 256 → 128 ≤ b - 128 + 128 * h → digits (suc more) (b - 128 + 128 * h) ≡ b ∷ digits more h
spelled_on more b h le lt k =
    let q : (b - 128 + 128 * h) / 128 ≡ h = omega arith in
    let r : 128 + (b - 128 + 128 * h) % 128 ≡ b = omega arith in
    high_digit more (b - 128 + 128 * h) k ∙ rw (q, r) refl

longer_right : (more low high b : ℕ) (bs : List ℕ) → 128 ≤ b → b < 256 → least low b ≤ most high b → (r : Result (ℕ × List ℕ) ℕ) → Right (some_digits more (least low b) (most high b)) bs r
    → Right (some_digits (suc more) low high) (b ∷ bs) (r >>= λ x. Ok (b - 128 + 128 * x.0, x.1))
longer_right more low high b bs le lt k (Ok x) h =
    let w = whole_within low high b x.0 le lt k h.fits in
    record { fits = w.0; parts = ap (λ (z : List ℕ). b ∷ z) h.parts ∙ ap (λ (z : List ℕ). z ++ x.1) (sym (spelled_on more b x.0 le lt w.1)) }
longer_right more low high b bs le lt k (Err left) h =
    let w = whole_within low high b h.begins.value le lt k h.begins.fits in
    record {
      front = b ∷ h.front;
      rest = h.rest;
      parts = ap (λ (z : List ℕ). b ∷ z) h.parts;
      size = h.size;
      begins = record { value = b - 128 + 128 * h.begins.value; fits = w.0; more = h.begins.more; is = spelled_on more b h.begins.value le lt w.1 ∙ ap (λ (z : List ℕ). b ∷ z) h.begins.is };
      ends = longer_ends more low high b h.front h.rest le h.ends;
    }

-- what the tests say
pub clash : true ≡ false → ⊥
clash e = let t : Unit {0} ≡ ⊥ = cc in subst (λ (T : Type 0). T) t tt

pub within_stands : (low high b : ℕ) → IsWithin low high b → in_range low high b ≡ true
within_stands low high b w = and_from (nat_le low b) (nat_le b high) (let h : low ≤ b = w.above in grind arith) (let h : b ≤ high = w.below in grind arith)

pub stands_within : (low high b : ℕ) → in_range low high b ≡ true → IsWithin low high b
stands_within low high b e = let p = and_parts (nat_le low b) (nat_le b high) e in record { above = (let h : nat_le low b ≡ true = p.0 in grind arith); below = (let h : nat_le b high ≡ true = p.1 in grind arith) }

goes_true : (low high b : ℕ) → b < 256 → least low b ≤ most high b → leads_on low high b ≡ true
goes_true low high b lt le = and_from (nat_lt b 256) (nat_le (least low b) (most high b)) (grind arith) (grind arith)

true_goes : (low high b : ℕ) → leads_on low high b ≡ true → (b < 256) × (least low b ≤ most high b)
true_goes low high b e = let p = and_parts (nat_lt b 256) (nat_le (least low b) (most high b)) e in ((let h : nat_lt b 256 ≡ true = p.0 in grind arith), (let h : nat_le (least low b) (most high b) ≡ true = p.1 in grind arith))

number_step : (more low high b : ℕ) (bs : List ℕ) → low ≤ high → Enough more high → ((more_after : ℕ) → more ≡ suc more_after → 128 ≤ b → least low b ≤ most high b → Right (some_digits more_after (least low b) (most high b)) bs (number_at (least low b) (most high b) bs))
    → (t : Bool) → nat_lt b 128 ≡ t → (u : Bool) → in_range low high b ≡ u → (v : Bool) → leads_on low high b ≡ v
    → Right (some_digits more low high) (b ∷ bs) (cond t (cond u (Ok (b, bs)) (Err (suc (length bs)))) (cond v (number_at (least low b) (most high b) bs >>= λ x. Ok (b - 128 + 128 * x.0, x.1)) (Err (suc (length bs)))))
number_step more low high b bs le h deeper true is_t true is_u v is_v =
    let lt : b < 128 = grind arith in
    record { fits = stands_within low high b is_u; parts = ap (λ (z : List ℕ). z ++ bs) (sym (low_digit more b lt)) }
number_step more low high b bs le h deeper true is_t false is_u v is_v =
    let lt : b < 128 = grind arith in
    first_byte more low high b bs le (not_low more low high b h lt (λ w. clash (sym (within_stands low high b w) ∙ is_u)))
number_step zero low high b bs le h deeper false is_t u is_u true is_v =
    let k = true_goes low high b is_v in
    let ge : 128 ≤ b = grind arith in
    absurd (omega (arith, k.1, h))
number_step (suc more) low high b bs le h deeper false is_t u is_u true is_v =
    let ge : 128 ≤ b = grind arith in
    let k = true_goes low high b is_v in
    longer_right more low high b bs ge k.0 k.1 (number_at (least low b) (most high b) bs) (deeper more refl ge k.1)
number_step zero low high b bs le h deeper false is_t u is_u false is_v = first_byte zero low high b bs le (not_high_last low high b h (grind arith))
number_step (suc more) low high b bs le h deeper false is_t u is_u false is_v = first_byte (suc more) low high b bs le (not_high more low high b h (grind arith) (λ lt k. clash (sym (goes_true low high b lt k) ∙ is_v)))

pub digits_right : (more low high : ℕ) → low ≤ high → Enough more high → (bytes : List ℕ) → Right (some_digits more low high) bytes (number_at low high bytes)
digits_right more low high le h [] = record {
  front = [];
  rest = [];
  parts = refl;
  size = refl;
  begins = record { value = low; fits = record { above = omega arith; below = le }; more = digits more low; is = refl };
  ends = tt;
}
digits_right more low high le h (b ∷ bs) =
    number_step more low high b bs le h
    (λ after is ge k. digits_right after (least low b) (most high b) k (enough_below after (most high b) (high / 128) (omega arith) (subst (λ (n : ℕ). Enough n high) is h)) bs)
    (nat_lt b 128) refl (in_range low high b) refl (leads_on low high b) refl

pub number_exact : (low high : ℕ) → low ≤ high → high < 2 ^ 128 → Exact (number low high)
unfolding shortest
number_exact low high le lt =
    let enough : Enough 18 high = enough_below 18 high (2 ^ 128 - 1) (omega arith) (omega arith) in
    record {
      one = low;
      one_fits = record { above = omega arith; below = le };
      again = λ n rest w. digits_again 18 low high n rest enough w;
      right = λ bytes. digits_right 18 low high le enough bytes;
    }

-- ---- as a loop writes

-- what is left completes the number, so many digits being enough for it
pub record Completes (out : List ℕ) (left : ℕ) (total : List ℕ) : Type 0 where
  pub more : ℕ
  pub enough : Enough more left
  pub same : out ++ digits more left ≡ total

pub completes_start : (out : List ℕ) (n : ℕ) → n < 2 ^ 128 → Completes out n (out ++ shortest n)
unfolding shortest
completes_start out n lt = record { more = 18; enough = enough_below 18 n (2 ^ 128 - 1) (omega arith) (omega arith); same = refl }

pub completes_on : (out : List ℕ) (left b : ℕ) (total : List ℕ) → 128 ≤ left → b ≡ left % 128 + 128 → Completes out left total → Completes (out ++ b ∷ []) (left / 128) total
completes_on out left b total le is c = go c.more c.enough c.same
  where
    go : (more : ℕ) → Enough more left → out ++ digits more left ≡ total → Completes (out ++ b ∷ []) (left / 128) total
    go zero h e = absurd (omega (arith, h))
    go (suc more) h e =
        let d : digits (suc more) left ≡ b ∷ digits more (left / 128) = high_digit more left le ∙ ap (λ (z : ℕ). z ∷ digits more (left / 128)) (let k : 128 + left % 128 ≡ b = omega arith in k) in
        record { more = more; enough = h; same = append_assoc out (b ∷ []) (digits more (left / 128)) ∙ (ap (λ (z : List ℕ). out ++ z) (sym d) ∙ e) }

pub completes_end : (out : List ℕ) (left : ℕ) (total : List ℕ) → left < 128 → Completes out left total → out ++ left ∷ [] ≡ total
completes_end out left total lt c = ap (λ (z : List ℕ). out ++ z) (sym (low_digit c.more left lt)) ∙ c.same

pub number32_exact : Exact number32
number32_exact = number_exact 0 greatest32 (omega arith) (omega arith)
