-- Sets of numbers below n that grow step by step, until one step adds nothing: after n steps nothing is added any more.
use Rattle.std.proofs.Common.{◌≡◌, ◌<◌, ◌≤◌, ◌⊎◌, inl, inr, ℕ, zero, suc, ◌+◌, Bool, true, false, refl, sym, ap, ◌∙◌, subst, arith}
use Rattle.fac_graph.proofs.NumberLists.{at_or_behind}

-- how many of the numbers below n pass a test
abbrev pub count_one : Bool → ℕ → ℕ
count_one true n = suc n
count_one false n = n

abbrev pub count : (ℕ → Bool) → ℕ → ℕ
count f zero = 0
count f (suc n) = count_one (f n) (count f n)

count_most : (b : Bool) (c n : ℕ) → c ≤ n → count_one b c ≤ suc n
count_most true c n le = omega (arith, le)
count_most false c n le = omega (arith, le)

count_low : (f : ℕ → Bool) (n : ℕ) → count f n ≤ n
count_low f zero = omega arith
count_low f (suc n) = count_most (f n) (count f n) n (count_low f n)

count_fewer : (b d : Bool) (c e : ℕ) → (b ≡ true → d ≡ true) → c ≤ e → count_one b c ≤ count_one d e
count_fewer true true c e h le = omega (arith, le)
count_fewer true false c e h le = absurd (let clash : false ≡ true = h refl in cc)
count_fewer false true c e h le = omega (arith, le)
count_fewer false false c e h le = le

count_kept : (f g : ℕ → Bool) (n : ℕ) → ((u : ℕ) → f u ≡ true → g u ≡ true) → count f n ≤ count g n
count_kept f g zero h = omega arith
count_kept f g (suc n) h = count_fewer (f n) (g n) (count f n) (count g n) (h n) (count_kept f g n h)

-- a number below n that passes the one test and not the other
pub record Differs (f g : ℕ → Bool) (n : ℕ) : Type 0 where
  pub at : ℕ
  pub low : at < n
  pub fails : f at ≡ false
  pub passes : g at ≡ true

count_here : (b d : Bool) (c e : ℕ) → b ≡ false → d ≡ true → c ≤ e → suc (count_one b c) ≤ count_one d e
count_here true d c e is h le = absurd cc
count_here false true c e is h le = omega (arith, le)
count_here false false c e is h le = absurd cc

count_later : (b d : Bool) (c e : ℕ) → (b ≡ true → d ≡ true) → suc c ≤ e → suc (count_one b c) ≤ count_one d e
count_later true true c e h le = omega (arith, le)
count_later true false c e h le = absurd (let clash : false ≡ true = h refl in cc)
count_later false true c e h le = omega (arith, le)
count_later false false c e h le = le

pub count_more : (f g : ℕ → Bool) (n : ℕ) → ((u : ℕ) → f u ≡ true → g u ≡ true) → Differs f g n → suc (count f n) ≤ count g n
count_more f g zero h d = absurd (omega (arith, d.low))
count_more f g (suc n) h d = elim (at_or_behind n d.at) [
  | inl lt ↦ count_later (f n) (g n) (count f n) (count g n) (h n) (count_more f g n h (record { at = d.at; low = lt; fails = d.fails; passes = d.passes }))
  | inr ge ↦ let here : d.at ≡ n = omega (arith, ge, d.low) in count_here (f n) (g n) (count f n) (count g n) (sym (ap f here) ∙ d.fails) (sym (ap g here) ∙ d.passes) (count_kept f g n h)
]

full_by : (b : Bool) (c n : ℕ) → suc n ≤ count_one b c → c ≤ n → (b ≡ true) × (n ≤ c)
full_by true c n le low = (refl, omega (arith, le))
full_by false c n le low = absurd (omega (arith, le, low))

-- all pass where they are as many as there are
pub count_full : (f : ℕ → Bool) (n u : ℕ) → n ≤ count f n → u < n → f u ≡ true
count_full f zero u le lt = absurd (omega (arith, lt))
count_full f (suc n) u le lt =
    let full = full_by (f n) (count f n) n le (count_low f n) in
    elim (at_or_behind n u) [ inl low ↦ count_full f n u full.1 low | inr ge ↦ let here : u ≡ n = omega (arith, ge, lt) in ap f here ∙ full.0 ]

-- each number below n that passes the second test passes the first
abbrev pub no_less : (f g : ℕ → Bool) (n : ℕ) → Type 0
no_less f g n = (u : ℕ) → u < n → g u ≡ true → f u ≡ true

differ_by : (f g : ℕ → Bool) (n : ℕ) (b d : Bool) → f n ≡ b → g n ≡ d → Differs f g n ⊎ no_less f g n → Differs f g (suc n) ⊎ no_less f g (suc n)
differ_by f g n b d fe ge (inl x) = inl (record { at = x.at; low = omega (arith, x.low); fails = x.fails; passes = x.passes })
differ_by f g n false true fe ge (inr all) = inl (record { at = n; low = omega arith; fails = fe; passes = ge })
differ_by f g n true d fe ge (inr all) = inr (λ u lt e. elim (at_or_behind n u) [ inl low ↦ all u low e | inr le ↦ let here : u ≡ n = omega (arith, le, lt) in ap f here ∙ fe ])
differ_by f g n false false fe ge (inr all) = inr (λ u lt e. elim (at_or_behind n u) [ inl low ↦ all u low e | inr le ↦ absurd (let here : u ≡ n = omega (arith, le, lt) in let clash : false ≡ true = sym ge ∙ sym (ap g here) ∙ e in cc) ])

differ_or_not : (f g : ℕ → Bool) (n : ℕ) → Differs f g n ⊎ no_less f g n
differ_or_not f g zero = inr (λ u lt e. absurd (omega (arith, lt)))
differ_or_not f g (suc n) = differ_by f g n (f n) (g n) refl refl (differ_or_not f g n)

-- S k u tells whether number u is there after k steps.
module _ (n : ℕ) (S : ℕ → ℕ → Bool) (low : (k u : ℕ) → S k u ≡ true → u < n) (grows : (k u : ℕ) → S k u ≡ true → S (suc k) u ≡ true) (settles : (k : ℕ) → ((u : ℕ) → S (suc k) u ≡ true → S k u ≡ true) → (u : ℕ) → S (suc (suc k)) u ≡ true → S (suc k) u ≡ true) where
  -- one step more adds nothing
  abbrev pub Stable : ℕ → Type 0
  Stable k = (u : ℕ) → S (suc k) u ≡ true → S k u ≡ true

  -- with each step, nothing is added any more or one number more is there
  stable_or_more : (k : ℕ) → Stable k ⊎ (k ≤ count (S k) n)
  stable_or_more zero = inr (omega arith)
  stable_or_more (suc k) = elim (stable_or_more k) [
    | inl s ↦ inl (settles k s)
    | inr le ↦ elim (differ_or_not (S k) (S (suc k)) n) [ inl d ↦ inr (let more = count_more (S k) (S (suc k)) n (grows k) d in omega (arith, le, more)) | inr same ↦ inl (settles k (λ u e. same u (low (suc k) u e) e)) ]
  ]

  stable_at : Stable n ⊎ (n ≤ count (S n) n) → Stable n
  stable_at (inl s) = s
  stable_at (inr full) = λ u e. count_full (S n) n u full (low (suc n) u e)

  stable_behind : (j k : ℕ) → k ≡ n + j → Stable k
  stable_behind zero k e = let here : n ≡ k = omega (arith, e) in subst Stable here (stable_at (stable_or_more n))
  stable_behind (suc j) zero e = absurd (omega (arith, e))
  stable_behind (suc j) (suc k) e = settles k (stable_behind j k (omega (arith, e)))

  up : (j k m u : ℕ) → m ≡ k + j → S k u ≡ true → S m u ≡ true
  up zero k m u e h = let here : k ≡ m = omega (arith, e) in subst (λ (x : ℕ). S x u ≡ true) here h
  up (suc j) k zero u e h = absurd (omega (arith, e))
  up (suc j) k (suc m) u e h = grows m u (up j k m u (omega (arith, e)) h)

  down : (j k u : ℕ) → k ≡ n + j → S k u ≡ true → S n u ≡ true
  down zero k u e h = let here : k ≡ n = omega (arith, e) in subst (λ (x : ℕ). S x u ≡ true) here h
  down (suc j) zero u e h = absurd (omega (arith, e))
  down (suc j) (suc k) u e h = down j k u (omega (arith, e)) (stable_behind j k (omega (arith, e)) u h)

  -- what is there at any time is there after n steps
  pub settled : (k u : ℕ) → S k u ≡ true → S n u ≡ true
  settled k u h = down k (n + k) u refl (up n k (n + k) u (omega arith) h)
