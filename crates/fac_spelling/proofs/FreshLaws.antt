-- Reading a number that is not taken.
use Rattle.std.proofs.Common.{get_or, drop, ◌≡◌, ℕ, suc, ◌+◌, ◌-◌, ◌*◌, ◌/◌, ◌%◌, ◌^◌, ◌≤◌, ◌<◌, Bool, true, false, cond, List, [], ◌∷◌, length, Ok, Err, refl, sym, ap, subst, ◌∙◌, arith, inl, inr}
use Rattle.std.specs.Prelude.{nat_lt, nat_eq, not, ◌&&◌}
use Rattle.std.proofs.lemmas.Bool.{cases_eq, eqb-true, eqb-false, eq-eqb, ne_eqb, lt-ltb, le-ltb, and_from, and_right}
use Rattle.fac_spelling.specs.declared.fault.ReadFault.{ReadFault}
use Rattle.fac_spelling.specs.declared.fault.ReadFault.TheVariants as faults
use Rattle.fac_spelling.proofs.NumberLaws.{number_exact}
use Rattle.fac_spelling.proofs.TestedLaws.{where_exact}
use Rattle.fac_spelling.specs.Formats.{◌>>=◌, Right}
use Rattle.fac_spelling.specs.Numbers.{least, most, number, number_at}
use Rattle.fac_spelling.specs.Reads.{Fails}
use Rattle.fac_spelling.specs.TestedNumbers.{some_in, any_passes, test_behind, leads_on_where, number_where_at, Passes, is_free}
use Rattle.fac_spelling.specs.inner.TakenBehind.{taken_behind}

-- A plain number that isn't taken is the fresh number.
pub plain_fresh : (taken bytes : List ℕ) (n : ℕ) (rest : List ℕ) → number_at 0 (2 ^ 32 - 1) bytes ≡ Ok (n, rest) → is_free taken n ≡ true → number_where_at (is_free taken) 0 (2 ^ 32 - 1) bytes ≡ Ok (n, rest)
plain_fresh taken bytes n rest is free =
    let r : Right (number 0 (2 ^ 32 - 1)) bytes (Ok (n, rest)) = subst (Right (number 0 (2 ^ 32 - 1)) bytes) is ((number_exact 0 (2 ^ 32 - 1) (omega arith) (omega arith)).right bytes) in
    let p : Passes (is_free taken) 0 (2 ^ 32 - 1) n = record { above = omega arith; below = r.fits.below; passes = free } in
    ap (number_where_at (is_free taken) 0 (2 ^ 32 - 1)) r.parts ∙ (where_exact (is_free taken) 0 (2 ^ 32 - 1) (n, p) (omega arith)).again n rest p

-- The test taken_behind a first byte is the test of the numbers taken_behind it.
pub behind_is : (b : ℕ) (taken : List ℕ) (h : ℕ) → 128 ≤ b → b < 256 → is_free taken (b - 128 + 128 * h) ≡ is_free (taken_behind b taken) h
behind_is b [] h le lt = refl
behind_is b (t ∷ ts) h le lt = go (nat_eq (t % 128) (b - 128)) refl (behind_is b ts h le lt)
  where
    go : (s : Bool) → nat_eq (t % 128) (b - 128) ≡ s → is_free ts (b - 128 + 128 * h) ≡ is_free (taken_behind b ts) h
        → (not (nat_eq t (b - 128 + 128 * h)) && is_free ts (b - 128 + 128 * h)) ≡ is_free (cond s (t / 128 ∷ taken_behind b ts) (taken_behind b ts)) h
    go true is k =
        let m : t % 128 ≡ b - 128 = eqb-true (t % 128) (b - 128) is in
        let same : nat_eq t (b - 128 + 128 * h) ≡ nat_eq (t / 128) h = elim (cases_eq (t / 128) h) [
          | inl y ↦ eq-eqb t (b - 128 + 128 * h) (omega arith) ∙ sym (eq-eqb (t / 128) h y)
          | inr y ↦ ne_eqb t (b - 128 + 128 * h) (λ z. y (omega arith)) ∙ sym (ne_eqb (t / 128) h y)
        ] in
        rw (same, k) refl
    go false is k =
        let other : nat_eq t (b - 128 + 128 * h) ≡ false = ne_eqb t (b - 128 + 128 * h) (λ z. eqb-false (t % 128) (b - 128) is (omega arith)) in
        rw (other, k) refl

-- the whole test
pub behind_test : (b : ℕ) (taken : List ℕ) → 128 ≤ b → b < 256 → test_behind b (is_free taken) ≡ is_free (taken_behind b taken)
behind_test b taken le lt = λ i h. behind_is b taken h le lt i

-- ---- as the code reads it

pub not_this : (test : ℕ → Bool) (n high : ℕ) (total : Bool) → n ≤ high → test n ≡ false → some_in test n (high + 1 - n) ≡ total → some_in test (n + 1) (high + 1 - (n + 1)) ≡ total
unfolding some_in
not_this test n high total le e h =
    let k : high + 1 - n ≡ suc (high + 1 - (n + 1)) = omega arith in
    let one : some_in test n (high + 1 - n) ≡ some_in test (n + 1) (high + 1 - (n + 1)) = rw (k, some_in, e) refl in
    sym one ∙ h

-- reading taken_behind a first byte from 128 on, of the numbers taken_behind it
pub read_behind : (taken : List ℕ) (low high b : ℕ) (bs : List ℕ) → 128 ≤ b → b < 256 → any_passes (is_free (taken_behind b taken)) (least low b) (most high b) ≡ true
    → number_where_at (is_free taken) low high (b ∷ bs) ≡ (number_where_at (is_free (taken_behind b taken)) (least low b) (most high b) bs >>= λ x. Ok (b - 128 + 128 * x.0, x.1))
read_behind taken low high b bs le lt k =
    let t : nat_lt b 128 ≡ false = le-ltb b 128 le in
    let s = behind_test b taken le lt in
    let g : leads_on_where (is_free taken) low high b ≡ true = and_from (nat_lt b 256) (any_passes (test_behind b (is_free taken)) (least low b) (most high b)) (lt-ltb b 256 lt) (ap (λ (f : ℕ → Bool). any_passes f (least low b) (most high b)) s ∙ k) in
    let one : number_where_at (is_free taken) low high (b ∷ bs) ≡ (number_where_at (test_behind b (is_free taken)) (least low b) (most high b) bs >>= λ x. Ok (b - 128 + 128 * x.0, x.1)) = rw (t, g) refl in
    ◌∙◌ {c = number_where_at (is_free (taken_behind b taken)) (least low b) (most high b) bs >>= λ x. Ok (b - 128 + 128 * x.0, x.1)} one (ap (λ (f : ℕ → Bool). number_where_at f (least low b) (most high b) bs >>= λ x. Ok (b - 128 + 128 * x.0, x.1)) s)

pub stop_behind : (taken : List ℕ) (low high b : ℕ) (bs : List ℕ) → 128 ≤ b → b < 256 → any_passes (is_free (taken_behind b taken)) (least low b) (most high b) ≡ false → number_where_at (is_free taken) low high (b ∷ bs) ≡ Err (suc (length bs))
stop_behind taken low high b bs le lt k =
    let t : nat_lt b 128 ≡ false = le-ltb b 128 le in
    let s = behind_test b taken le lt in
    let g : leads_on_where (is_free taken) low high b ≡ false = and_right (nat_lt b 256) (any_passes (test_behind b (is_free taken)) (least low b) (most high b)) (ap (λ (f : ℕ → Bool). any_passes f (least low b) (most high b)) s ∙ k) in
    rw (t, g) refl

-- nothing in an empty range
pub has_none : (test : ℕ → Bool) (low high : ℕ) → high < low → any_passes test low high ≡ false
unfolding some_in
has_none test low high lt = let k : high + 1 - low ≡ 0 = omega arith in rw k refl

pub behind_fails : (e : ReadFault) (taken : List ℕ) (low high : ℕ) (bytes : List ℕ) → 1 ≤ length bytes → 128 ≤ get_or bytes 0 0 → get_or bytes 0 0 < 256 → any_passes (is_free (taken_behind (get_or bytes 0 0) taken)) (least low (get_or bytes 0 0)) (most high (get_or bytes 0 0)) ≡ true
    → Fails e (number_where_at (is_free (taken_behind (get_or bytes 0 0) taken)) (least low (get_or bytes 0 0)) (most high (get_or bytes 0 0)) (drop 1 bytes)) → Fails e (number_where_at (is_free taken) low high bytes)
behind_fails e taken low high [] some le lt k h = absurd (omega arith)
behind_fails faults.Memory taken low high (b ∷ bs) some le lt k h = tt
behind_fails (faults.Refused left) taken low high (b ∷ bs) some le lt k h = read_behind taken low high b bs le lt k ∙ rw h refl

pub behind_gives : (taken : List ℕ) (low high : ℕ) (bytes : List ℕ) (n : ℕ) (after : List ℕ) → 1 ≤ length bytes → 128 ≤ get_or bytes 0 0 → get_or bytes 0 0 < 256 → any_passes (is_free (taken_behind (get_or bytes 0 0) taken)) (least low (get_or bytes 0 0)) (most high (get_or bytes 0 0)) ≡ true
    → number_where_at (is_free (taken_behind (get_or bytes 0 0) taken)) (least low (get_or bytes 0 0)) (most high (get_or bytes 0 0)) (drop 1 bytes) ≡ Ok (n, after) → number_where_at (is_free taken) low high bytes ≡ Ok (get_or bytes 0 0 - 128 + 128 * n, after)
behind_gives taken low high [] n after some le lt k h = absurd (omega arith)
behind_gives taken low high (b ∷ bs) n after some le lt k h = read_behind taken low high b bs le lt k ∙ rw h refl

-- the same where the code any_passes computed its own list and range
pub record Computed (taken : List ℕ) (low high b : ℕ) (one two : List ℕ) (from to : ℕ) : Type 0 where
  pub one_is : one ≡ taken_behind b taken
  pub two_is : two ≡ taken_behind b taken
  pub from_is : from ≡ least low b
  pub to_is : to ≡ most high b
  pub some : any_passes (is_free one) from to ≡ true

has_computed : (taken : List ℕ) (low high b : ℕ) (one two : List ℕ) (from to : ℕ) → Computed taken low high b one two from to → any_passes (is_free (taken_behind b taken)) (least low b) (most high b) ≡ true
has_computed taken low high b one two from to c =
    let p : any_passes (is_free one) from to ≡ any_passes (is_free (taken_behind b taken)) (least low b) (most high b) = λ i. any_passes (is_free (c.one_is i)) (c.from_is i) (c.to_is i) in
    sym p ∙ c.some

reads_computed : (taken : List ℕ) (low high b : ℕ) (one two : List ℕ) (from to : ℕ) (bs : List ℕ) → Computed taken low high b one two from to → number_where_at (is_free two) from to bs ≡ number_where_at (is_free (taken_behind b taken)) (least low b) (most high b) bs
reads_computed taken low high b one two from to bs c = λ i. number_where_at (is_free (c.two_is i)) (c.from_is i) (c.to_is i) bs

pub computed_fails : (e : ReadFault) (taken : List ℕ) (low high : ℕ) (bytes one two : List ℕ) (from to : ℕ) → 1 ≤ length bytes → 128 ≤ get_or bytes 0 0 → get_or bytes 0 0 < 256 → Computed taken low high (get_or bytes 0 0) one two from to
    → Fails e (number_where_at (is_free two) from to (drop 1 bytes)) → Fails e (number_where_at (is_free taken) low high bytes)
computed_fails e taken low high bytes one two from to some le lt c h =
    behind_fails e taken low high bytes some le lt (has_computed taken low high (get_or bytes 0 0) one two from to c) (subst (Fails e) (reads_computed taken low high (get_or bytes 0 0) one two from to (drop 1 bytes) c) h)

pub computed_gives : (taken : List ℕ) (low high : ℕ) (bytes one two : List ℕ) (from to n : ℕ) (after : List ℕ) → 1 ≤ length bytes → 128 ≤ get_or bytes 0 0 → get_or bytes 0 0 < 256 → Computed taken low high (get_or bytes 0 0) one two from to
    → number_where_at (is_free two) from to (drop 1 bytes) ≡ Ok (n, after) → number_where_at (is_free taken) low high bytes ≡ Ok (get_or bytes 0 0 - 128 + 128 * n, after)
computed_gives taken low high bytes one two from to n after some le lt c h =
    behind_gives taken low high bytes n after some le lt (has_computed taken low high (get_or bytes 0 0) one two from to c) (sym (reads_computed taken low high (get_or bytes 0 0) one two from to (drop 1 bytes) c) ∙ h)
