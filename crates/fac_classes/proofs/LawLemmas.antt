-- The laws of the order of classes.
use Rattle.std.proofs.Common.{◌≡◌, ◌<◌, ◌≤◌, inl, inr, ℕ, zero, suc, ◌+◌, List, [], ◌∷◌, length, Bool, true, false, cond, not, refl, sym, ap, ◌∙◌, arith}
use Rattle.std.specs.Prelude.{nat_eq, nat_lt, ◌||◌, ◌&&◌}
use Rattle.fac_lang.specs.declared.program.ClassDef.{ClassDef}
use Rattle.fac_lang.specs.Classes.{has_kind, kind_count, name_before, class_before}
use Rattle.fac_lang.specs.Whole.{each_below}
use Rattle.fac_classes.specs.ClassKinds.{kind_total, place_of, OneComesFirst, NarrowerComesFirst, PlacesTellOrder}
use Rattle.fac_classes.proofs.ListLemmas.{same_number, not_true, same_bool, both_first, both_second}
use Rattle.fac_classes.specs.inner.Members.{IsIn}
use Rattle.fac_classes.proofs.VisitLemmas.{in_range}
use Rattle.fac_classes.proofs.OrderLemmas.{class_total, class_one_way, class_irreflexive, class_transitive}
use Rattle.std.specs.List.{count_by, range_with_len}
use Rattle.std.proofs.lemmas.List.Sums.{sum_by-cons}
use Rattle.std.proofs.lemmas.Bool.{cases_Bool}

pub one_first : OneComesFirst
one_first cs c d other = elim (cases_Bool (class_before cs d c)) [ inl e ↦ after e | inr e ↦ before e ]
  where
    opposite : (a b x : Bool) → a ≡ x → b ≡ not x → a ≡ not b
    opposite true false true e f = refl
    opposite false true false e f = refl
    opposite true true x e f = absurd cc
    opposite false false x e f = absurd cc
    opposite true false false e f = absurd cc
    opposite false true true e f = absurd cc

    after : class_before cs d c ≡ true → class_before cs c d ≡ not (class_before cs d c)
    after e = opposite (class_before cs c d) (class_before cs d c) false (class_one_way cs d c e) e

    before : class_before cs d c ≡ false → class_before cs c d ≡ not (class_before cs d c)
    before e = opposite (class_before cs c d) (class_before cs d c) true (class_total cs c d other e) e

-- counts of kinds
at_most : (cs : List ClassDef) (c d n : ℕ) → each_below (λ k. not (has_kind cs c k) || has_kind cs d k) n ≡ true → kind_count cs c n ≤ kind_count cs d n
at_most cs c d zero h = omega arith
at_most cs c d (suc n) h = by (has_kind cs c n) (has_kind cs d n) (both_first (not (has_kind cs c n) || has_kind cs d n) (each_below (λ k. not (has_kind cs c k) || has_kind cs d k) n) h) (at_most cs c d n (both_second (not (has_kind cs c n) || has_kind cs d n) (each_below (λ k. not (has_kind cs c k) || has_kind cs d k) n) h))
  where
    by : (a b : Bool) → (not a || b) ≡ true → kind_count cs c n ≤ kind_count cs d n → (let x : ℕ = elim a [ true ↦ suc (kind_count cs c n) | false ↦ kind_count cs c n ] in let y : ℕ = elim b [ true ↦ suc (kind_count cs d n) | false ↦ kind_count cs d n ] in x ≤ y)
    by true true e h = omega (arith, h)
    by true false e h = not_true e
    by false true e h = omega (arith, h)
    by false false e h = h

fewer : (cs : List ClassDef) (c d n : ℕ) → each_below (λ k. not (has_kind cs c k) || has_kind cs d k) n ≡ true → each_below (λ k. not (has_kind cs d k) || has_kind cs c k) n ≡ false → kind_count cs c n < kind_count cs d n
fewer cs c d zero h g = not_true (sym g)
fewer cs c d (suc n) h g =
    by (has_kind cs c n) (has_kind cs d n) (both_first (not (has_kind cs c n) || has_kind cs d n) (each_below (λ k. not (has_kind cs c k) || has_kind cs d k) n) h) g
    (at_most cs c d n (both_second (not (has_kind cs c n) || has_kind cs d n) (each_below (λ k. not (has_kind cs c k) || has_kind cs d k) n) h))
    (λ f. fewer cs c d n (both_second (not (has_kind cs c n) || has_kind cs d n) (each_below (λ k. not (has_kind cs c k) || has_kind cs d k) n) h) f)
  where
    by : (a b : Bool) → (not a || b) ≡ true → ((not b || a) && each_below (λ k. not (has_kind cs d k) || has_kind cs c k) n) ≡ false → kind_count cs c n ≤ kind_count cs d n → (each_below (λ k. not (has_kind cs d k) || has_kind cs c k) n ≡ false → kind_count cs c n < kind_count cs d n) →
        (let x : ℕ = elim a [ true ↦ suc (kind_count cs c n) | false ↦ kind_count cs c n ] in let y : ℕ = elim b [ true ↦ suc (kind_count cs d n) | false ↦ kind_count cs d n ] in x < y)
    by true true e g h f = let lt = f g in omega (arith, lt)
    by true false e g h f = not_true e
    by false true e g h f = omega (arith, h)
    by false false e g h f = f g

pub narrower_first : NarrowerComesFirst
narrower_first cs c d h g = by (nat_eq (kind_count cs c (kind_total cs)) (kind_count cs d (kind_total cs))) (nat_lt (kind_count cs c (kind_total cs)) (kind_count cs d (kind_total cs))) (differ (kind_count cs c (kind_total cs)) (kind_count cs d (kind_total cs)) less) (lower (kind_count cs c (kind_total cs)) (kind_count cs d (kind_total cs)) less)
  where
    less : kind_count cs c (kind_total cs) < kind_count cs d (kind_total cs)
    less = fewer cs c d (kind_total cs) h g

    differ : (m n : ℕ) → m < n → nat_eq m n ≡ false
    differ m n lt = grind arith

    lower : (m n : ℕ) → m < n → nat_lt m n ≡ true
    lower m n lt = grind arith

    by : (a b : Bool) → a ≡ false → b ≡ true → (let r : Bool = elim a [ true ↦ name_before cs c d | false ↦ b ] in r ≡ true)
    by true b e f = not_true (sym e)
    by false b e f = f

-- counts of classes before others

one_less : (a b : Bool) → (a ≡ true → b ≡ true) → cond a 1 0 ≤ cond b 1 0
one_less true true f = omega arith
one_less true false f = not_true (f refl)
one_less false true f = omega arith
one_less false false f = omega arith

counts_less : (p q : ℕ → Bool) (xs : List ℕ) → ((x : ℕ) → p x ≡ true → q x ≡ true) → count_by p xs ≤ count_by q xs
counts_less p q [] h = omega arith
counts_less p q (x ∷ xs) h =
    let le = counts_less p q xs h in
    let m = sum_by-cons (λ (y : ℕ). cond (p y) 1 0) x xs in
    let n = sum_by-cons (λ (y : ℕ). cond (q y) 1 0) x xs in
    let one = one_less (p x) (q x) (h x) in
    omega (arith, le, m, n, one)

counts_fewer : (p q : ℕ → Bool) (xs : List ℕ) (x : ℕ) → ((x : ℕ) → p x ≡ true → q x ≡ true) → IsIn x xs → p x ≡ false → q x ≡ true → count_by p xs < count_by q xs
counts_fewer p q [] x h r e f = absurd r
counts_fewer p q (y ∷ ys) x h (inl same) e f =
    let le = counts_less p q ys h in
    let m = sum_by-cons (λ (z : ℕ). cond (p z) 1 0) y ys ∙ ap (λ (b : Bool). cond b 1 0 + count_by p ys) (ap p (sym same) ∙ e) in
    let n = sum_by-cons (λ (z : ℕ). cond (q z) 1 0) y ys ∙ ap (λ (b : Bool). cond b 1 0 + count_by q ys) (ap q (sym same) ∙ f) in
    omega (arith, le, m, n)
counts_fewer p q (y ∷ ys) x h (inr r) e f =
    let lt = counts_fewer p q ys x h r e f in
    let m = sum_by-cons (λ (z : ℕ). cond (p z) 1 0) y ys in
    let n = sum_by-cons (λ (z : ℕ). cond (q z) 1 0) y ys in
    let one = one_less (p y) (q y) (h y) in
    omega (arith, lt, m, n, one)

place_less : (cs : List ClassDef) (c d : ℕ) → c < length cs → class_before cs c d ≡ true → place_of cs c < place_of cs d
place_less cs c d lt h = counts_fewer (λ e. class_before cs e c) (λ e. class_before cs e d) (range_with_len 0 (length cs)) c (λ e k. class_transitive cs e c d k h) (in_range 0 (length cs) c (omega arith) (omega (arith, lt))) (class_irreflexive cs c) h

pub places_order : PlacesTellOrder
places_order cs c d low under = same_bool (class_before cs c d) (nat_lt (place_of cs c) (place_of cs d)) there back
  where
    there : class_before cs c d ≡ true → nat_lt (place_of cs c) (place_of cs d) ≡ true
    there h = lower (place_of cs c) (place_of cs d) (place_less cs c d low h)
      where
        lower : (m n : ℕ) → m < n → nat_lt m n ≡ true
        lower m n lt = grind arith

    back : nat_lt (place_of cs c) (place_of cs d) ≡ true → class_before cs c d ≡ true
    back h = elim (cases_Bool (nat_eq c d)) [ inl e ↦ alike e | inr e ↦ other e ]
      where
        less : (m n : ℕ) → nat_lt m n ≡ true → m < n
        less m n e = grind arith

        apart : (m n : ℕ) → nat_eq m n ≡ false → m ≡ n → ⊥
        apart m n e same = not_true (sym e ∙ ap (λ (x : ℕ). nat_eq x n) same ∙ itself n)
          where
            itself : (n : ℕ) → nat_eq n n ≡ true
            itself n = grind arith

        alike : nat_eq c d ≡ true → class_before cs c d ≡ true
        alike e =
            let lt = less (place_of cs c) (place_of cs d) h in
            let same : place_of cs c ≡ place_of cs d = ap (place_of cs) (same_number c d e) in
            absurd (omega (arith, lt, same))

        other : nat_eq c d ≡ false → class_before cs c d ≡ true
        other e = elim (cases_Bool (class_before cs d c)) [
          | inl q ↦ let lt = less (place_of cs c) (place_of cs d) h in let more = place_less cs d c under q in absurd (omega (arith, lt, more))
          | inr q ↦ class_total cs c d (apart c d e) q
        ]
