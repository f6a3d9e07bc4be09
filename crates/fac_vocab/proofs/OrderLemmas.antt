-- The byte order of texts, and lists in that order.
use Rattle.std.proofs.Common.{◌≡◌, ℕ, zero, suc, ◌+◌, ◌<◌, Bool, true, false, cond, not, List, [], ◌∷◌, drop, take, Option, Some, None, refl, sym, ap, ◌∙◌, arith, true≢false}
use Rattle.std.specs.Prelude.{nat_eq, nat_lt, slice_get}
use Rattle.std.specs.Cmp.{unsigned_Decides}
use Rattle.std.specs.Str.{bytes_eq}
use Rattle.std.proofs.lemmas.Bool.{ltb-false, lt-ltb, le-ltb, ne_eqb}
use Rattle.std.proofs.lemmas.Bool.Decides.{Decides-ltb}
use Rattle.std.proofs.lemmas.Slice.Eq.{bytes_eq-Decides}
use Rattle.fac_lang.specs.Classes.{bytes_before}
use Rattle.fac_vocab.specs.Scopes.{Entry, full_text, put_in_order}
use Rattle.fac_vocab.specs.inner.Rows.{byte_order}
use Rattle.fac_vocab.proofs.TextLemmas.{false_by}

-- Texts byte by byte.

abbrev first : List ℕ → Option ℕ
first [] = None
first (x ∷ xs) = Some x

abbrev rest : List ℕ → List ℕ
rest [] = []
rest (x ∷ xs) = xs

first_at : (xs : List ℕ) (i : ℕ) → slice_get xs i ≡ first (drop i xs)
first_at [] zero = refl
first_at [] (suc i) = refl
first_at (x ∷ xs) zero = refl
first_at (x ∷ xs) (suc i) = first_at xs i

rest_at : (xs : List ℕ) (i : ℕ) → drop (i + 1) xs ≡ rest (drop i xs)
rest_at [] zero = refl
rest_at [] (suc i) = let e : suc i + 1 ≡ suc (i + 1) = omega arith in rw e refl
rest_at (x ∷ xs) zero = refl
rest_at (x ∷ xs) (suc i) = let e : suc i + 1 ≡ suc (i + 1) = omega arith in rw e (rest_at xs i)

abbrev decided : Option Bool → Bool → Bool
decided (Some b) later = b
decided None later = later

by_first : (xs ys : List ℕ) → bytes_before xs ys ≡ decided (byte_order (first xs) (first ys)) (bytes_before (rest xs) (rest ys))
by_first [] [] = refl
by_first [] (y ∷ ys) = refl
by_first (x ∷ xs) [] = refl
by_first (x ∷ xs) (y ∷ ys) = one (nat_eq x y) (nat_lt x y) (bytes_before xs ys)
  where
    one : (b c d : Bool) → elim b [ true ↦ d | false ↦ c ] ≡ decided (cond b None (Some c)) d
    one true c d = refl
    one false c d = refl

-- where the bytes at an index decide, and where they don't
pub order_decided : (xs ys : List ℕ) (i : ℕ) (b : Bool) → Some b ≡ byte_order (slice_get xs i) (slice_get ys i) → b ≡ bytes_before (drop i xs) (drop i ys)
order_decided xs ys i b e =
    let order : Some b ≡ byte_order (first (drop i xs)) (first (drop i ys)) = e ∙ ap (λ (o : Option ℕ). byte_order o (slice_get ys i)) (first_at xs i) ∙ ap (λ (o : Option ℕ). byte_order (first (drop i xs)) o) (first_at ys i) in
    ap (λ (o : Option Bool). decided o (bytes_before (rest (drop i xs)) (rest (drop i ys)))) order ∙ sym (by_first (drop i xs) (drop i ys))

pub order_open : (xs ys : List ℕ) (i : ℕ) → None ≡ byte_order (slice_get xs i) (slice_get ys i) → bytes_before (drop i xs) (drop i ys) ≡ bytes_before (drop (i + 1) xs) (drop (i + 1) ys)
order_open xs ys i e =
    let order : None ≡ byte_order (first (drop i xs)) (first (drop i ys)) = e ∙ ap (λ (o : Option ℕ). byte_order o (slice_get ys i)) (first_at xs i) ∙ ap (λ (o : Option ℕ). byte_order (first (drop i xs)) o) (first_at ys i) in
    by_first (drop i xs) (drop i ys)
    ∙ ap (λ (o : Option Bool). decided o (bytes_before (rest (drop i xs)) (rest (drop i ys)))) (sym order)
    ∙ ap (λ (zs : List ℕ). bytes_before zs (rest (drop i ys))) (sym (rest_at xs i))
    ∙ ap (λ (zs : List ℕ). bytes_before (drop (i + 1) xs) zs) (sym (rest_at ys i))

-- The order is strict and of all texts.

data Order (x y : ℕ) : Type 0 where
  lower : x < y → Order x y
  same : x ≡ y → Order x y
  higher : y < x → Order x y

order_by : (x y : ℕ) (b c : Bool) → nat_lt x y ≡ b → nat_lt y x ≡ c → Order x y
order_by x y true c e f = lower ((Decides-ltb x y).0 e)
order_by x y false true e f = higher ((Decides-ltb y x).0 f)
order_by x y false false e f = let p = ltb-false x y e in let q = ltb-false y x f in same (omega (arith, p, q))

order : (x y : ℕ) → Order x y
order x y = order_by x y (nat_lt x y) (nat_lt y x) refl refl

by_head : (x y : ℕ) (xs ys : List ℕ) (b c : Bool) → nat_eq x y ≡ b → nat_lt x y ≡ c → bytes_before (x ∷ xs) (y ∷ ys) ≡ cond b (bytes_before xs ys) c
by_head x y xs ys b c e f =
    by_first (x ∷ xs) (y ∷ ys)
    ∙ ap (λ (d : Bool). decided (cond d None (Some (nat_lt x y))) (bytes_before xs ys)) e
    ∙ ap (λ (d : Bool). decided (cond b None (Some d)) (bytes_before xs ys)) f
    ∙ one b c (bytes_before xs ys)
  where
    one : (b c d : Bool) → decided (cond b None (Some c)) d ≡ cond b d c
    one true c d = refl
    one false c d = refl

first_lower : (x y : ℕ) (xs ys : List ℕ) → x < y → bytes_before (x ∷ xs) (y ∷ ys) ≡ true
first_lower x y xs ys p = by_head x y xs ys false true (ne_eqb x y (λ e. omega (arith, p, e))) (lt-ltb x y p)

first_higher : (x y : ℕ) (xs ys : List ℕ) → y < x → bytes_before (x ∷ xs) (y ∷ ys) ≡ false
first_higher x y xs ys p = by_head x y xs ys false false (ne_eqb x y (λ e. omega (arith, p, e))) (le-ltb x y (omega (arith, p)))

first_same : (x y : ℕ) (xs ys : List ℕ) → x ≡ y → bytes_before (x ∷ xs) (y ∷ ys) ≡ bytes_before xs ys
first_same x y xs ys p = by_head x y xs ys true (nat_lt x y) ((unsigned_Decides x y).1 p) refl

rest_differ : (x y : ℕ) (xs ys : List ℕ) → x ≡ y → bytes_eq (x ∷ xs) (y ∷ ys) ≡ false → bytes_eq xs ys ≡ false
rest_differ x y xs ys p h = false_by (bytes_eq xs ys) (λ e. true≢false (sym ((bytes_eq-Decides (x ∷ xs) (y ∷ ys)).1 (ap (λ (n : ℕ). n ∷ xs) p ∙ ap (λ (zs : List ℕ). y ∷ zs) ((bytes_eq-Decides xs ys).0 e))) ∙ h))

-- of two texts that differ one comes before the other
pub before_total : (xs ys : List ℕ) → bytes_eq xs ys ≡ false → bytes_before xs ys ≡ not (bytes_before ys xs)
before_total [] [] h = absurd (true≢false h)
before_total [] (y ∷ ys) h = refl
before_total (x ∷ xs) [] h = refl
before_total (x ∷ xs) (y ∷ ys) h = by (order x y) (before_total xs ys)
  where
    by : Order x y → (bytes_eq xs ys ≡ false → bytes_before xs ys ≡ not (bytes_before ys xs)) → bytes_before (x ∷ xs) (y ∷ ys) ≡ not (bytes_before (y ∷ ys) (x ∷ xs))
    by (lower p) ih = first_lower x y xs ys p ∙ ap not (sym (first_higher y x ys xs p))
    by (same p) ih = first_same x y xs ys p ∙ ih (rest_differ x y xs ys p h) ∙ ap not (sym (first_same y x ys xs (sym p)))
    by (higher p) ih = first_higher x y xs ys p ∙ ap not (sym (first_lower y x ys xs p))

-- what doesn't come after a text comes before each that does
pub before_after : (xs ys zs : List ℕ) → bytes_before xs ys ≡ false → bytes_before xs zs ≡ true → bytes_before ys zs ≡ true
before_after [] [] zs h k = k
before_after [] (y ∷ ys) zs h k = absurd (true≢false h)
before_after (x ∷ xs) ys [] h k = absurd (true≢false (sym k))
before_after (x ∷ xs) [] (z ∷ zs) h k = refl
before_after (x ∷ xs) (y ∷ ys) (z ∷ zs) h k = by (order x y) (order x z) (before_after xs ys zs)
  where
    by : Order x y → Order x z → (bytes_before xs ys ≡ false → bytes_before xs zs ≡ true → bytes_before ys zs ≡ true) → bytes_before (y ∷ ys) (z ∷ zs) ≡ true
    by (lower p) o ih = absurd (true≢false (sym (first_lower x y xs ys p) ∙ h))
    by (same p) (lower q) ih = first_lower y z ys zs (omega (arith, p, q))
    by (same p) (same q) ih = first_same y z ys zs (sym p ∙ q) ∙ ih (sym (first_same x y xs ys p) ∙ h) (sym (first_same x z xs zs q) ∙ k)
    by (same p) (higher q) ih = absurd (true≢false (sym k ∙ first_higher x z xs zs q))
    by (higher p) (lower q) ih = first_lower y z ys zs (omega (arith, p, q))
    by (higher p) (same q) ih = first_lower y z ys zs (omega (arith, p, q))
    by (higher p) (higher q) ih = absurd (true≢false (sym k ∙ first_higher x z xs zs q))

not_swapped : (b c : Bool) → b ≡ not c → c ≡ not b
not_swapped true true h = cc
not_swapped true false h = refl
not_swapped false true h = refl
not_swapped false false h = cc

-- Two entries can be put into a list in either order.

abbrev before : Entry → Entry → Bool
before e f = bytes_before (full_text e) (full_text f)

two_put : (e f : Entry) (b c : Bool) → before f e ≡ b → before e f ≡ c → b ≡ not c → put_in_order e (f ∷ []) ≡ put_in_order f (e ∷ [])
two_put e f true true p q h = cc
two_put e f true false p q h = rw (p, q) refl
two_put e f false true p q h = rw (p, q) refl
two_put e f false false p q h = cc

more_put : (e f x : Entry) (es : List Entry) (b c d : Bool) → before x e ≡ b → before x f ≡ c → before f e ≡ d → before e f ≡ not d → put_in_order e (put_in_order f es) ≡ put_in_order f (put_in_order e es) →
    put_in_order e (put_in_order f (x ∷ es)) ≡ put_in_order f (put_in_order e (x ∷ es))
more_put e f x es true true d p q r s ih = rw (p, q, p) (ap (λ (l : List Entry). x ∷ l) ih)
more_put e f x es true false true p q r s ih = rw (p, q, r, p) refl
more_put e f x es true false false p q r s ih = absurd (true≢false (sym (before_after (full_text x) (full_text f) (full_text e) q p) ∙ r))
more_put e f x es false true true p q r s ih = absurd (true≢false (sym (before_after (full_text x) (full_text e) (full_text f) p q) ∙ s))
more_put e f x es false true false p q r s ih = rw (q, p, s, q) refl
more_put e f x es false false true p q r s ih = rw (p, q, r, s, p) refl
more_put e f x es false false false p q r s ih = rw (p, q, r, s) refl

pub put_both : (e f : Entry) (es : List Entry) → bytes_eq (full_text e) (full_text f) ≡ false → put_in_order e (put_in_order f es) ≡ put_in_order f (put_in_order e es)
put_both e f [] h = two_put e f (before f e) (before e f) refl refl (not_swapped (before e f) (before f e) (before_total (full_text e) (full_text f) h))
put_both e f (x ∷ es) h = more_put e f x es (before x e) (before x f) (before f e) refl refl refl (before_total (full_text e) (full_text f) h) (put_both e f es h)

-- The first two of a list.

pub first_two_put : (e : Entry) (es : List Entry) → take 2 (put_in_order e (take 2 es)) ≡ take 2 (put_in_order e es)
first_two_put e [] = refl
first_two_put e (x ∷ []) = refl
first_two_put e (x ∷ y ∷ es) = one (before x e) (before y e) refl refl
  where
    one : (b c : Bool) → before x e ≡ b → before y e ≡ c → take 2 (put_in_order e (x ∷ y ∷ [])) ≡ take 2 (put_in_order e (x ∷ y ∷ es))
    one true true p q = rw (p, q) refl
    one true false p q = rw (p, q) refl
    one false c p q = rw (p) refl
