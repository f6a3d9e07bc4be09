-- Of numbers that differ one is free in a range exactly where fewer lie in it than it has.
use Rattle.std.proofs.Common.{◌≡◌, ℕ, zero, suc, ◌+◌, ◌-◌, ◌*◌, ◌/◌, ◌%◌, ◌≤◌, ◌<◌, Bool, true, false, cond, List, [], ◌∷◌, ◌++◌, length, Result, Ok, Err, refl, sym, ap, subst, ◌∙◌, arith, inl, inr}
use Rattle.std.specs.Prelude.{nat_lt, nat_le, nat_eq, not, ◌&&◌}
use Rattle.std.specs.List.{IsDistinct, AllByRecursion, list_any}
use Rattle.std.proofs.lemmas.Bool.{both_ways, cases_lt, cases_eq, cases_Bool, eq-eqb, ne_eqb, lt-ltb, lt-leb, le-ltb, le-leb, and_from, and_left, and_right, and_parts}
use Rattle.fac_spelling.specs.Formats.{◌>>=◌}
use Rattle.fac_spelling.specs.Numbers.{least, most, in_range}
use Rattle.fac_spelling.specs.TestedNumbers.{some_in, test_behind, leads_on_where, number_where_at, is_free}
use Rattle.fac_spelling.specs.inner.TakenBehind.{taken_behind, Differ, one_if_in, count_in}
use Rattle.fac_spelling.proofs.FormatLaws.{ok_is}
use Rattle.fac_spelling.proofs.FreshLaws.{behind_is}

-- ---- one number

lies_in : (low end n : ℕ) → low ≤ n → n < end → one_if_in low end n ≡ 1
lies_in low end n le lt = let e : (nat_le low n && nat_lt n end) ≡ true = and_from (nat_le low n) (nat_lt n end) (le-leb low n le) (lt-ltb n end lt) in rw e refl

lies_past : (low end n : ℕ) → end ≤ n → one_if_in low end n ≡ 0
lies_past low end n le = let e : (nat_le low n && nat_lt n end) ≡ false = and_right (nat_le low n) (nat_lt n end) (le-ltb n end le) in rw e refl

lies_below : (low end n : ℕ) → n < low → one_if_in low end n ≡ 0
lies_below low end n lt = let e : (nat_le low n && nat_lt n end) ≡ false = and_left (nat_le low n) (nat_lt n end) (lt-leb low n lt) in rw e refl

one_split : (low n t : ℕ) → one_if_in low (low + suc n) t ≡ one_if_in low (low + 1) t + one_if_in (low + 1) (low + 1 + n) t
one_split low n t = elim (cases_lt t low) [
  | inl lt ↦ omega (arith, lies_below low (low + suc n) t lt, lies_below low (low + 1) t lt, lies_below (low + 1) (low + 1 + n) t (omega arith))
  | inr ge ↦ elim (cases_lt t (low + 1)) [
    | inl lt ↦ omega (arith, lies_in low (low + suc n) t ge (omega arith), lies_in low (low + 1) t ge lt, lies_below (low + 1) (low + 1 + n) t lt)
    | inr gt ↦ elim (cases_lt t (low + suc n)) [
      | inl lt ↦ omega (arith, lies_in low (low + suc n) t ge lt, lies_past low (low + 1) t gt, lies_in (low + 1) (low + 1 + n) t gt (omega arith))
      | inr le ↦ omega (arith, lies_past low (low + suc n) t le, lies_past low (low + 1) t gt, lies_past (low + 1) (low + 1 + n) t (omega arith))
    ]
  ]
]

-- ---- many

split : (ts : List ℕ) (low n : ℕ) → count_in low (low + suc n) ts ≡ count_in low (low + 1) ts + count_in (low + 1) (low + 1 + n) ts
split [] low n = refl
split (t ∷ ts) low n = omega (arith, one_split low n t, split ts low n)

empty : (ts : List ℕ) (low : ℕ) → count_in low (low + 0) ts ≡ 0
empty [] low = refl
empty (t ∷ ts) low = elim (cases_lt t low) [
  | inl lt ↦ omega (arith, empty ts low, lies_below low (low + 0) t lt)
  | inr ge ↦ omega (arith, empty ts low, lies_past low (low + 0) t (omega arith))
]

no_more : (ts : List ℕ) (low : ℕ) → is_free ts low ≡ true → count_in low (low + 1) ts ≡ 0
no_more [] low h = refl
no_more (t ∷ ts) low h =
    let p = and_parts (not (nat_eq t low)) (is_free ts low) h in
    elim (cases_eq t low) [
      | inl e ↦ absurd (both_ways (not (nat_eq t low)) (ap not (eq-eqb t low e)) p.0)
      | inr ne ↦ elim (cases_lt t low) [
        | inl lt ↦ omega (arith, no_more ts low p.1, lies_below low (low + 1) t lt)
        | inr ge ↦ omega (arith, no_more ts low p.1, lies_past low (low + 1) t (omega arith))
      ]
    ]

one : (ts : List ℕ) (low : ℕ) → Differ ts → is_free ts low ≡ false → count_in low (low + 1) ts ≡ 1
one [] low d h = absurd (both_ways true h refl)
one (t ∷ ts) low d h = elim (cases_eq t low) [
  | inl e ↦ omega (arith, no_more ts low (subst (λ (z : ℕ). is_free ts z ≡ true) e d.0), lies_in low (low + 1) t (omega arith) (omega arith))
  | inr ne ↦
      let k : is_free ts low ≡ false = rw (ne_eqb t low ne) at h in
      elim (cases_lt t low) [
        | inl lt ↦ omega (arith, one ts low d.1 k, lies_below low (low + 1) t lt)
        | inr ge ↦ omega (arith, one ts low d.1 k, lies_past low (low + 1) t (omega arith))
      ]
]

at_most_one : (ts : List ℕ) (low : ℕ) → Differ ts → count_in low (low + 1) ts ≤ 1
at_most_one ts low d = elim (cases_Bool (is_free ts low)) [
  | inl is ↦ omega (arith, no_more ts low is)
  | inr is ↦ omega (arith, one ts low d is)
]

few : (ts : List ℕ) (n low : ℕ) → Differ ts → count_in low (low + n) ts ≤ n
few ts zero low d = omega (arith, empty ts low)
few ts (suc n) low d = omega (arith, split ts low n, at_most_one ts low d, few ts n (low + 1) d)

step : (a b : ℕ) → nat_lt a b ≡ nat_lt (suc a) (suc b)
step a b = elim (cases_lt a b) [
  | inl lt ↦ lt-ltb a b lt ∙ sym (lt-ltb (suc a) (suc b) (omega arith))
  | inr ge ↦ le-ltb a b ge ∙ sym (le-ltb (suc a) (suc b) (omega arith))
]

pub free_by_count : (ts : List ℕ) (n low : ℕ) → Differ ts → some_in (is_free ts) low n ≡ nat_lt (count_in low (low + n) ts) n
unfolding some_in
free_by_count ts zero low d = sym (le-ltb (count_in low (low + 0) ts) 0 (omega arith))
free_by_count ts (suc n) low d = elim (cases_Bool (is_free ts low)) [
  | inl is ↦ rw (some_in, is) (sym (lt-ltb (count_in low (low + suc n) ts) (suc n) (omega (arith, split ts low n, no_more ts low is, few ts n (low + 1) d))))
  | inr is ↦
      let k : count_in low (low + suc n) ts ≡ suc (count_in (low + 1) (low + 1 + n) ts) = omega (arith, split ts low n, one ts low d is) in
      rw (some_in, is, k) (free_by_count ts n (low + 1) d ∙ step (count_in (low + 1) (low + 1 + n) ts) n)
]

-- ---- what keeps numbers apart

pub behind_differ : (b : ℕ) (ts : List ℕ) → 128 ≤ b → b < 256 → Differ ts → Differ (taken_behind b ts)
behind_differ b [] le lt d = tt
behind_differ b (t ∷ ts) le lt d = elim (cases_eq (t % 128) (b - 128)) [
  | inl e ↦
      let k : b - 128 + 128 * (t / 128) ≡ t = omega (arith, e) in
      let f : is_free (taken_behind b ts) (t / 128) ≡ true = sym (behind_is b ts (t / 128) le lt) ∙ ap (is_free ts) k ∙ d.0 in
      rw (eq-eqb (t % 128) (b - 128) e) (f, behind_differ b ts le lt d.1)
  | inr ne ↦ rw (ne_eqb (t % 128) (b - 128) ne) (behind_differ b ts le lt d.1)
]

turned : (a b : ℕ) → nat_eq a b ≡ nat_eq b a
turned a b = elim (cases_eq a b) [
  | inl e ↦ eq-eqb a b e ∙ sym (eq-eqb b a (sym e))
  | inr ne ↦ ne_eqb a b ne ∙ sym (ne_eqb b a (λ z. ne (sym z)))
]

pub free_is : (ts : List ℕ) (n : ℕ) → is_free ts n ≡ not (list_any (nat_eq n) ts)
free_is [] n = refl
free_is (t ∷ ts) n = elim (cases_Bool (nat_eq t n)) [
  | inl e ↦ rw (e, turned n t ∙ e) refl
  | inr e ↦ rw (e, turned n t ∙ e) (free_is ts n)
]

-- a free number is among them from then on
pub taken_more : (ts new : List ℕ) (n : ℕ) → is_free ts n ≡ true → new ≡ cond (list_any (nat_eq n) ts) ts (ts ++ n ∷ []) → new ≡ ts ++ n ∷ []
taken_more ts new n h e = elim (cases_Bool (list_any (nat_eq n) ts)) [
  | inl k ↦ absurd (both_ways (is_free ts n) (free_is ts n ∙ ap not k) h)
  | inr k ↦ e ∙ rw k refl
]

pub differ_from : (ts : List ℕ) → IsDistinct nat_eq ts → Differ ts
unfolding IsDistinct
differ_from [] d = tt
differ_from (t ∷ ts) d = (apart t ts d.0, differ_from ts d.1)
  where
    apart : (t : ℕ) (ts : List ℕ) → AllByRecursion (λ y. nat_eq t y ≡ false) ts → is_free ts t ≡ true
    apart t [] h = refl
    apart t (u ∷ us) h = rw (turned u t ∙ h.0) (apart t us h.1)

-- ---- what is read passes

no_number : (left : ℕ) (x : ℕ × List ℕ) → Err left ≡ Ok x → ⊥
no_number left x e = let t : Unit {0} ≡ ⊥ = cc in subst (λ (T : Type 0). T) t tt

pub reads_pass : (bytes : List ℕ) (test : ℕ → Bool) (low high n : ℕ) (rest : List ℕ) → number_where_at test low high bytes ≡ Ok (n, rest) → test n ≡ true
reads_pass [] test low high n rest h = absurd (no_number 0 (n, rest) h)
reads_pass (b ∷ bs) test low high n rest h =
    go (nat_lt b 128) (in_range low high b && test b) (leads_on_where test low high b) (number_where_at (test_behind b test) (least low b) (most high b) bs) refl refl (λ x k. reads_pass bs (test_behind b test) (least low b) (most high b) x.0 x.1 k) h
  where
    go : (p q r : Bool) (s : Result (ℕ × List ℕ) ℕ) → (in_range low high b && test b) ≡ q → number_where_at (test_behind b test) (least low b) (most high b) bs ≡ s → ((x : ℕ × List ℕ) → number_where_at (test_behind b test) (least low b) (most high b) bs ≡ Ok x → test_behind b test x.0 ≡ true)
        → cond {A = Result (ℕ × List ℕ) ℕ} p (cond {A = Result (ℕ × List ℕ) ℕ} q (Ok (b, bs)) (Err (suc (length bs)))) (cond {A = Result (ℕ × List ℕ) ℕ} r (s >>= λ x. Ok (b - 128 + 128 * x.0, x.1)) (Err (suc (length bs)))) ≡ Ok (n, rest) → test n ≡ true
    go true true r s e k ih h = let i : b ≡ n = ap (λ (z : ℕ × List ℕ). z.0) (ok_is (b, bs) (n, rest) h) in subst (λ (z : ℕ). test z ≡ true) i (and_parts (in_range low high b) (test b) e).1
    go true false r s e k ih h = absurd (no_number _ (n, rest) h)
    go false q true (Ok x) e k ih h = let i : b - 128 + 128 * x.0 ≡ n = ap (λ (z : ℕ × List ℕ). z.0) (ok_is (b - 128 + 128 * x.0, x.1) (n, rest) h) in subst (λ (z : ℕ). test z ≡ true) i (ih x k)
    go false q true (Err left) e k ih h = absurd (no_number left (n, rest) h)
    go false q false s e k ih h = absurd (no_number _ (n, rest) h)
