-- The order of classes, and how many come before each.
use Rattle.std.proofs.Common.{◌≡◌, ◌<◌, ◌≤◌, ◌⊎◌, inl, inr, ℕ, zero, suc, ◌+◌, List, [], ◌∷◌, ◌++◌, map, length, get_or, set, Bool, true, false, cond, refl, sym, ap, ◌∙◌, subst, arith}
use Rattle.std.specs.Prelude.{nat_eq, nat_lt, Option, Some, None, slice_get, string_bytes}
use Rattle.std.specs.Ordering.{nat_cmp, ordering_then, is_lt, is_eq, MatchOrdering, ordering_reverse}
use Rattle.std.specs.declared.cmp.Ordering.{Ordering}
use Rattle.std.specs.declared.cmp.Ordering.TheVariants.{Less, Equal, Greater}
use Rattle.std.specs.Cmp.{IsTotalOrder, IsStrictWeakOrder}
use Rattle.std.specs.Cmp.Lexicographic.{slice_cmp}
use Rattle.std.specs.Str.{bytes_eq}
use Rattle.std.specs.List.{count_by, range_with_len, All, AllByRecursion, IsDistinct, Contains}
use Rattle.std.specs.List.Sorted.{IsPermutation, IsSortedBy}
use Rattle.std.specs.declared.string.String.{String}
use Rattle.std.proofs.lemmas.Bool.Decides.{nat_tests}
use Rattle.std.proofs.lemmas.Cmp.{ranked, nat_cmp_total, nat_list_cmp_total, on_total, then_total, tied_itself, same_from_slice_cmp}
use Rattle.std.proofs.lemmas.List.{get_or-map, get_or-set_other, get_or-set_same, length-map}
use Rattle.std.proofs.lemmas.List.FromFn.{get_or-map-range_with_len, length-range_with_len, get_or-range_with_len, length-map-range_with_len, fill_by_all}
use Rattle.std.proofs.lemmas.List.Sums.{sum_by-cons}
use Rattle.std.proofs.lemmas.List.Sorted.{IsPermutation-map, All-permutation, Contains-permutation, sum_by-IsPermutation, length_permutation, sorted_far, ranks_by}
use Rattle.std.proofs.lemmas.Map.Keys.{IsDistinct-IsPermutation}
use Rattle.std.proofs.lemmas.Option.{slice_get-get_or, get_or_from_slice_get}
use Rattle.std.proofs.lemmas.Bool.{cases_Bool}
use Rattle.fac_lang.specs.declared.program.ClassDef.{ClassDef}
use Rattle.fac_lang.specs.Classes.{bytes_before, full_name, kind_count, class_before, has_kind}
use Rattle.fac_classes.specs.ClassKinds.{kind_total, place_of}
use Rattle.fac_classes.specs.inner.Cells.{cell, IsTable}
use Rattle.fac_classes.specs.inner.Ordering.{cell_count, key_of, key_seen, IsAscending, HasPlaces, IsOnce}
use Rattle.fac_classes.proofs.ListLemmas.{same_number, itself, other_number, not_true}
use Rattle.fac_classes.proofs.UnionLemmas.{some_same}

-- How many kinds are marked, and how many a class has.
pub counted : (cs : List ClassDef) (w : ℕ) (cells : List Bool) → IsTable cs w cells → (c : ℕ) → c < length cs → (n : ℕ) → n ≤ w → cell_count w cells c n ≡ kind_count cs c n
counted cs w cells t c lt zero le = refl
counted cs w cells t c lt (suc n) le = one (cell w cells c n) (has_kind cs c n) (t.exact c n lt (omega (arith, le))) (counted cs w cells t c lt n (omega (arith, le)))
  where
    one : (a b : Bool) → a ≡ b → cell_count w cells c n ≡ kind_count cs c n → (let x : ℕ = elim a [ true ↦ suc (cell_count w cells c n) | false ↦ cell_count w cells c n ] in let y : ℕ = elim b [ true ↦ suc (kind_count cs c n) | false ↦ kind_count cs c n ] in x ≡ y)
    one true true e h = ap suc h
    one false false e h = h
    one true false e h = not_true (sym e)
    one false true e h = not_true e

pub counted_all : (cs : List ClassDef) (w : ℕ) (cells : List Bool) → IsTable cs w cells → (c : ℕ) → c < length cs → cell_count w cells c w ≡ kind_count cs c (kind_total cs)
counted_all cs w cells t c lt = counted cs w cells t c lt w (omega arith) ∙ ap (kind_count cs c) t.width

-- The order of classes is that of their keys.
abbrev key_cmp : ℕ × List ℕ × ℕ → ℕ × List ℕ × ℕ → Ordering
key_cmp x y = ordering_then (ordering_then (nat_cmp x.0 y.0) (slice_cmp nat_cmp x.1 y.1)) (nat_cmp x.2 y.2)

key_total : IsTotalOrder key_cmp
key_total = then_total (then_total (on_total (λ (k : ℕ × List ℕ × ℕ). k.0) nat_cmp_total) (on_total (λ (k : ℕ × List ℕ × ℕ). k.1) nat_list_cmp_total)) (on_total (λ (k : ℕ × List ℕ × ℕ). k.2) nat_cmp_total)

text_less : (xs ys : List ℕ) → is_lt (slice_cmp nat_cmp xs ys) ≡ bytes_before xs ys
text_less xs ys = same_from_slice_cmp nat_cmp is_lt bytes_before refl (λ _ _. refl) (λ _ _. refl) (λ x y xs ys o h. by x y xs ys o (ranked x y o h)) xs ys (slice_cmp nat_cmp xs ys) refl
  where
    head : (x y : ℕ) (xs ys : List ℕ) (a b : Bool) → nat_eq x y ≡ a → nat_lt x y ≡ b → bytes_before (x ∷ xs) (y ∷ ys) ≡ cond a (bytes_before xs ys) b
    head x y xs ys a b e f = one (nat_eq x y) (nat_lt x y) a b e f
      where
        one : (p q a b : Bool) → p ≡ a → q ≡ b → (let r : Bool = elim p [ true ↦ bytes_before xs ys | false ↦ q ] in r ≡ cond a (bytes_before xs ys) b)
        one true q true b e f = refl
        one false q false b e f = f
        one true q false b e f = not_true (sym e)
        one false q true b e f = not_true e

    not_same : (x y : ℕ) → x < y ⊎ y < x → nat_eq x y ≡ false
    not_same x y (inl lt) = grind arith
    not_same x y (inr lt) = grind arith

    lower : (x y : ℕ) → x < y → nat_lt x y ≡ true
    lower x y lt = grind arith

    higher : (x y : ℕ) → y < x → nat_lt x y ≡ false
    higher x y lt = grind arith

    by : (x y : ℕ) (xs ys : List ℕ) (o : Ordering) → MatchOrdering o (x < y) (x ≡ y) (y < x) → MatchOrdering o (bytes_before (x ∷ xs) (y ∷ ys) ≡ is_lt Less) (bytes_before (x ∷ xs) (y ∷ ys) ≡ bytes_before xs ys) (bytes_before (x ∷ xs) (y ∷ ys) ≡ is_lt Greater)
    by x y xs ys Less h = head x y xs ys false true (not_same x y (inl h)) (lower x y h)
    by x y xs ys Equal h = head x y xs ys true (nat_lt x y) (ap (λ (z : ℕ). nat_eq x z) (sym h) ∙ itself x) refl
    by x y xs ys Greater h = head x y xs ys false false (not_same x y (inr h)) (higher x y h)

text_same : (xs ys : List ℕ) → is_eq (slice_cmp nat_cmp xs ys) ≡ bytes_eq xs ys
text_same xs ys = same_from_slice_cmp nat_cmp is_eq bytes_eq refl (λ _ _. refl) (λ _ _. refl) (λ x y xs ys o h. by x y xs ys o (ranked x y o h)) xs ys (slice_cmp nat_cmp xs ys) refl
  where
    by : (x y : ℕ) (xs ys : List ℕ) (o : Ordering) → MatchOrdering o (x < y) (x ≡ y) (y < x) → MatchOrdering o (bytes_eq (x ∷ xs) (y ∷ ys) ≡ is_eq Less) (bytes_eq (x ∷ xs) (y ∷ ys) ≡ bytes_eq xs ys) (bytes_eq (x ∷ xs) (y ∷ ys) ≡ is_eq Greater)
    by x y xs ys Less h = grind (arith, nat_tests)
    by x y xs ys Equal h = grind (arith, nat_tests)
    by x y xs ys Greater h = grind (arith, nat_tests)

number_cmp : (a b : ℕ) (o : Ordering) → nat_cmp a b ≡ o → (nat_eq a b ≡ is_eq o) × (nat_lt a b ≡ is_lt o)
number_cmp a b o e = by o (ranked a b o (sym e))
  where
    by : (o : Ordering) → MatchOrdering o (a < b) (a ≡ b) (b < a) → (nat_eq a b ≡ is_eq o) × (nat_lt a b ≡ is_lt o)
    by Less h = (grind arith, grind arith)
    by Equal h = (grind arith, grind arith)
    by Greater h = (grind arith, grind arith)

pub class_lt : (cs : List ClassDef) (c d : ℕ) → class_before cs c d ≡ is_lt (key_cmp (key_of cs c) (key_of cs d))
class_lt cs c d = by (nat_cmp m n) (slice_cmp nat_cmp x y) refl refl
  where
    m : ℕ
    m = kind_count cs c (kind_total cs)

    n : ℕ
    n = kind_count cs d (kind_total cs)

    x : List ℕ
    x = full_name cs c

    y : List ℕ
    y = full_name cs d

    pick : (a b e f : Bool) → nat_eq (kind_count cs c (kind_total cs)) (kind_count cs d (kind_total cs)) ≡ a → nat_lt (kind_count cs c (kind_total cs)) (kind_count cs d (kind_total cs)) ≡ b → bytes_eq (full_name cs c) (full_name cs d) ≡ e → bytes_before (full_name cs c) (full_name cs d) ≡ f → class_before cs c d ≡ cond a (cond e (nat_lt c d) f) b
    pick a b e f p q r s = one (nat_eq (kind_count cs c (kind_total cs)) (kind_count cs d (kind_total cs))) (nat_lt (kind_count cs c (kind_total cs)) (kind_count cs d (kind_total cs))) (bytes_eq (full_name cs c) (full_name cs d)) (bytes_before (full_name cs c) (full_name cs d)) a b e f p q r s
      where
        one : (k l v w a b e f : Bool) → k ≡ a → l ≡ b → v ≡ e → w ≡ f → (let r : Bool = elim k [ true ↦ elim v [ true ↦ nat_lt c d | false ↦ w ] | false ↦ l ] in r ≡ cond a (cond e (nat_lt c d) f) b)
        one true l true w true b true f p q r s = refl
        one true l false w true b false f p q r s = s
        one false l v w false b e f p q r s = q
        one true l v w false b e f p q r s = not_true (sym p)
        one false l v w true b e f p q r s = not_true p
        one true l true w true b false f p q r s = not_true (sym r)
        one true l false w true b true f p q r s = not_true r

    by : (o p : Ordering) → nat_cmp (kind_count cs c (kind_total cs)) (kind_count cs d (kind_total cs)) ≡ o → slice_cmp nat_cmp (full_name cs c) (full_name cs d) ≡ p → class_before cs c d ≡ is_lt (ordering_then (ordering_then (nat_cmp (kind_count cs c (kind_total cs)) (kind_count cs d (kind_total cs))) (slice_cmp nat_cmp (full_name cs c) (full_name cs d))) (nat_cmp c d))
    by o p e f =
        let tests = number_cmp (kind_count cs c (kind_total cs)) (kind_count cs d (kind_total cs)) o e in
        let less : bytes_before (full_name cs c) (full_name cs d) ≡ is_lt p = sym (text_less (full_name cs c) (full_name cs d)) ∙ ap is_lt f in
        let same : bytes_eq (full_name cs c) (full_name cs d) ≡ is_eq p = sym (text_same (full_name cs c) (full_name cs d)) ∙ ap is_eq f in
        pick (is_eq o) (is_lt o) (is_eq p) (is_lt p) tests.0 tests.1 same less ∙ last o p ∙ ap (λ (q : Ordering). is_lt (ordering_then (ordering_then q p) (nat_cmp c d))) (sym e) ∙ ap (λ (q : Ordering). is_lt (ordering_then (ordering_then (nat_cmp (kind_count cs c (kind_total cs)) (kind_count cs d (kind_total cs))) q) (nat_cmp c d))) (sym f)
      where
        last : (o p : Ordering) → cond (is_eq o) (cond (is_eq p) (nat_lt c d) (is_lt p)) (is_lt o) ≡ is_lt (ordering_then (ordering_then o p) (nat_cmp c d))
        last Less p = refl
        last Greater p = refl
        last Equal Less = refl
        last Equal Greater = refl
        last Equal Equal = (number_cmp c d (nat_cmp c d) refl).1

pub class_irreflexive : (cs : List ClassDef) (c : ℕ) → class_before cs c c ≡ false
class_irreflexive cs c = class_lt cs c c ∙ ap is_lt (tied_itself key_total (key_of cs c))

last_equal : (a b c : Ordering) → ordering_then (ordering_then a b) c ≡ Equal → c ≡ Equal
last_equal Equal Equal c e = e
last_equal Less b c e = absurd cc
last_equal Greater b c e = absurd cc
last_equal Equal Less c e = absurd cc
last_equal Equal Greater c e = absurd cc

-- of two classes one comes before the other
pub class_total : (cs : List ClassDef) (c d : ℕ) → (c ≡ d → ⊥) → class_before cs d c ≡ false → class_before cs c d ≡ true
class_total cs c d other h = class_lt cs c d ∙ ap is_lt (key_total.antisymm (key_of cs c) (key_of cs d)) ∙ by (key_cmp (key_of cs d) (key_of cs c)) refl (sym (class_lt cs d c) ∙ h)
  where
    by : (o : Ordering) → key_cmp (key_of cs d) (key_of cs c) ≡ o → is_lt o ≡ false → is_lt (ordering_reverse o) ≡ true
    by Less e h = not_true (sym h)
    by Greater e h = refl
    by Equal e h =
        let same : nat_cmp d c ≡ Equal = last_equal (nat_cmp (kind_count cs d (kind_total cs)) (kind_count cs c (kind_total cs))) (slice_cmp nat_cmp (full_name cs d) (full_name cs c)) (nat_cmp d c) e in
        let one : d ≡ c = ranked d c Equal (sym same) in
        absurd (other (sym one))

pub class_one_way : (cs : List ClassDef) (c d : ℕ) → class_before cs c d ≡ true → class_before cs d c ≡ false
class_one_way cs c d h = class_lt cs d c ∙ ap is_lt (key_total.antisymm (key_of cs d) (key_of cs c)) ∙ by (key_cmp (key_of cs c) (key_of cs d)) (sym (class_lt cs c d) ∙ h)
  where
    by : (o : Ordering) → is_lt o ≡ true → is_lt (ordering_reverse o) ≡ false
    by Less h = refl
    by Equal h = not_true h
    by Greater h = not_true h

classes_weak : (cs : List ClassDef) → IsStrictWeakOrder (λ (c d : ℕ). is_lt (key_cmp (key_of cs c) (key_of cs d)))
classes_weak cs = ranks_by key_total (key_of cs)

-- what isn't before a class isn't before one that isn't before
pub class_chain : (cs : List ClassDef) (a b c : ℕ) → class_before cs a b ≡ false → class_before cs b c ≡ false → class_before cs a c ≡ false
class_chain cs a b c h k = class_lt cs a c ∙ (classes_weak cs).chain a b c (sym (class_lt cs a b) ∙ h) (sym (class_lt cs b c) ∙ k)

-- what a class isn't before comes before what it is before
pub class_after : (cs : List ClassDef) (a b c : ℕ) → class_before cs b a ≡ false → class_before cs b c ≡ true → class_before cs a c ≡ true
class_after cs a b c h k = elim (cases_Bool (class_before cs a c)) [ inl e ↦ e | inr e ↦ not_true (sym (class_chain cs b a c h e) ∙ k) ]

pub class_transitive : (cs : List ClassDef) (a b c : ℕ) → class_before cs a b ≡ true → class_before cs b c ≡ true → class_before cs a c ≡ true
class_transitive cs a b c h k = class_after cs a b c (class_one_way cs a b h) k

-- No number of a range stands at two places, also where they change places.
all_later : (a b n : ℕ) → a < b → AllByRecursion (λ (y : ℕ). nat_eq a y ≡ false) (range_with_len b n)
all_later a b zero lt = tt
all_later a b (suc n) lt = (other_number a b (λ e. omega (arith, lt, e)), all_later a (b + 1) n (omega (arith, lt)))

range_distinct : (a n : ℕ) → IsDistinct nat_eq (range_with_len a n)
unfolding IsDistinct
range_distinct a zero = tt
range_distinct a (suc n) = (all_later a (a + 1) n (omega arith), range_distinct (a + 1) n)

not_later : (x : ℕ) (xs : List ℕ) (i c : ℕ) → AllByRecursion (λ (y : ℕ). nat_eq x y ≡ false) xs → slice_get xs i ≡ Some c → x ≡ c → ⊥
not_later x [] i c h e q = cc
not_later x (y ∷ ys) zero c h e q = not_true (sym h.0 ∙ ap (λ (z : ℕ). nat_eq x z) (some_same y c e ∙ sym q) ∙ itself x)
not_later x (y ∷ ys) (suc i) c h e q = not_later x ys i c h.1 e q

distinct_once : (xs : List ℕ) → IsDistinct nat_eq xs → IsOnce xs
unfolding IsDistinct
distinct_once [] h i j c e f = absurd cc
distinct_once (x ∷ xs) h zero zero c e f = refl
distinct_once (x ∷ xs) h zero (suc j) c e f = absurd (not_later x xs j c h.0 f (some_same x c e))
distinct_once (x ∷ xs) h (suc i) zero c e f = absurd (not_later x xs i c h.0 e (some_same x c f))
distinct_once (x ∷ xs) h (suc i) (suc j) c e f = ap suc (distinct_once xs h.1 i j c e f)

flips : (x y : ℕ) → nat_eq x y ≡ nat_eq y x
flips x y = grind arith

pub range_once : (n : ℕ) (numbers : List ℕ) → IsPermutation (range_with_len 0 n) numbers → IsOnce numbers
range_once n numbers p = distinct_once numbers (IsDistinct-IsPermutation nat_eq flips (range_with_len 0 n) numbers p (range_distinct 0 n))

-- A place in an ascending list, and how many numbers come before.
none_counted : (p : ℕ → Bool) (xs : List ℕ) → ((j : ℕ) → j < length xs → p (get_or xs j 0) ≡ false) → count_by p xs ≡ 0
none_counted p [] h = refl
none_counted p (x ∷ xs) h =
    let rest = none_counted p xs (λ j lt. h (suc j) (omega (arith, lt))) in
    sum_by-cons (λ (y : ℕ). cond (p y) 1 0) x xs ∙ ap (λ (b : Bool). cond b 1 0 + count_by p xs) (h 0 (omega arith)) ∙ (let e : 0 + count_by p xs ≡ 0 = omega (arith, rest) in e)

counted_before : (p : ℕ → Bool) (xs : List ℕ) (i : ℕ) → i < length xs → ((j : ℕ) → j < i → p (get_or xs j 0) ≡ true) → ((j : ℕ) → i ≤ j → j < length xs → p (get_or xs j 0) ≡ false) → count_by p xs ≡ i
counted_before p [] i lt f g = absurd (omega (arith, lt))
counted_before p (x ∷ xs) zero lt f g = none_counted p (x ∷ xs) (λ j l. g j (omega arith) l)
counted_before p (x ∷ xs) (suc i) lt f g =
    let rest = counted_before p xs i (omega (arith, lt)) (λ j l. f (suc j) (omega (arith, l))) (λ j l m. g (suc j) (omega (arith, l)) (omega (arith, m))) in
    sum_by-cons (λ (y : ℕ). cond (p y) 1 0) x xs ∙ ap (λ (b : Bool). cond b 1 0 + count_by p xs) (f 0 (omega arith)) ∙ (let e : 1 + count_by p xs ≡ suc i = omega (arith, rest) in e)

under : (xs : List ℕ) (i c : ℕ) → slice_get xs i ≡ Some c → i < length xs
under [] i c e = absurd cc
under (x ∷ xs) zero c e = omega arith
under (x ∷ xs) (suc i) c e = let lt = under xs i c e in omega (arith, lt)

pub place_at : (cs : List ClassDef) (numbers : List ℕ) → IsAscending cs numbers → (i c : ℕ) → slice_get numbers i ≡ Some c → place_of cs c ≡ i
place_at cs numbers a i c e =
    sym (sum_by-IsPermutation (λ (d : ℕ). cond (class_before cs d c) 1 0) (range_with_len 0 (length cs)) numbers a.moved)
    ∙ counted_before (λ d. class_before cs d c) numbers i (under numbers i c e) before behind
  where
    here : get_or numbers i 0 ≡ c
    here = get_or_from_slice_get numbers i c 0 e

    before : (j : ℕ) → j < i → class_before cs (get_or numbers j 0) c ≡ true
    before j lt = subst (λ (x : ℕ). class_before cs (get_or numbers j 0) x ≡ true) here (a.ascending j i lt (under numbers i c e))

    later : (j : ℕ) → i < j → j < length numbers → class_before cs (get_or numbers j 0) c ≡ false
    later j lt l = class_one_way cs c (get_or numbers j 0) (subst (λ (x : ℕ). class_before cs x (get_or numbers j 0) ≡ true) here (a.ascending i j lt l))

    behind : (j : ℕ) → i ≤ j → j < length numbers → class_before cs (get_or numbers j 0) c ≡ false
    behind j le l =
        elim (cases_Bool (nat_eq i j)) [
          | inl q ↦ ap (λ (x : ℕ). class_before cs (get_or numbers x 0) c) (sym (same_number i j q)) ∙ ap (λ (x : ℕ). class_before cs x c) here ∙ class_irreflexive cs c
          | inr q ↦ later j (less i j le q) l
        ]
      where
        less : (i j : ℕ) → i ≤ j → nat_eq i j ≡ false → i < j
        less i j le e = grind arith

-- Each class has its place.
contained : (xs : List ℕ) (c : ℕ) → Contains xs c → (i : ℕ) × (slice_get xs i ≡ Some c)
contained xs c q = (q.0, slice_get-get_or xs q.0 c q.1 ∙ ap Some q.2)

range_contains : (n c : ℕ) → c < n → Contains (range_with_len 0 n) c
range_contains n c lt = (c, (let e = length-range_with_len 0 n in omega (arith, e, lt)), get_or-range_with_len 0 n c c lt ∙ (let e : 0 + c ≡ c = omega arith in e))

pub number_at : (cs : List ClassDef) (numbers : List ℕ) → IsAscending cs numbers → (c : ℕ) → c < length cs → (i : ℕ) × (slice_get numbers i ≡ Some c)
number_at cs numbers a c lt = contained numbers c (Contains-permutation (range_with_len 0 (length cs)) numbers c a.moved (range_contains (length cs) c lt))

pub numbers_length : (cs : List ClassDef) (numbers : List ℕ) → IsAscending cs numbers → length numbers ≡ length cs
numbers_length cs numbers a = length_permutation (range_with_len 0 (length cs)) numbers a.moved ∙ length-range_with_len 0 (length cs)

range_all : (n : ℕ) → All (λ (x : ℕ). x < n) (range_with_len 0 n)
range_all n k d lt =
    let e = length-range_with_len 0 n in
    let at : get_or (range_with_len 0 n) k d ≡ 0 + k = get_or-range_with_len 0 n k d (omega (arith, e, lt)) in
    omega (arith, at, e, lt)

pub numbers_low : (cs : List ClassDef) (numbers : List ℕ) → IsAscending cs numbers → (i : ℕ) → i < length numbers → get_or numbers i 0 < length cs
numbers_low cs numbers a i lt = All-permutation (λ (x : ℕ). x < length cs) (range_with_len 0 (length cs)) numbers a.moved (range_all (length cs)) i 0 lt

pub numbers_once : (cs : List ClassDef) (numbers : List ℕ) → IsAscending cs numbers → IsOnce numbers
numbers_once cs numbers a = range_once (length cs) numbers a.moved

pub all_places : (cs : List ClassDef) (numbers places : List ℕ) → IsAscending cs numbers → length places ≡ length cs → HasPlaces (length numbers) numbers places → places ≡ map (place_of cs) (range_with_len 0 (length cs))
all_places cs numbers places a n h =
    fill_by_all (place_of cs) places (length cs) 0 n (λ k lt. let r = number_at cs numbers a k lt in h r.0 k (under numbers r.0 k r.1) r.1 ∙ sym (place_at cs numbers a r.0 k r.1))

-- The loop that puts places.
pub places_none : (numbers places : List ℕ) → HasPlaces 0 numbers places
places_none numbers places i c lt e = absurd (omega (arith, lt))

pub places_more : (k : ℕ) (numbers places : List ℕ) → IsOnce numbers → k < length numbers → get_or numbers k 0 < length places → HasPlaces k numbers places → HasPlaces (k + 1) numbers (set places (get_or numbers k 0) k)
places_more k numbers places once lt low h i c less e =
    elim (cases_Bool (nat_eq i k)) [
      | inl q ↦ last (same_number i k q)
      | inr q ↦ get_or-set_other places (get_or numbers k 0) c k 0 (other q) ∙ h i c (below i k less q) e
    ]
  where
    at_k : slice_get numbers k ≡ Some (get_or numbers k 0)
    at_k = slice_get-get_or numbers k 0 lt

    below : (i k : ℕ) → i < k + 1 → nat_eq i k ≡ false → i < k
    below i k lt e = grind arith

    other : nat_eq i k ≡ false → c ≡ get_or numbers k 0 → ⊥
    other q same = not_true (sym q ∙ ap (λ (x : ℕ). nat_eq x k) (once i k c e (at_k ∙ ap Some (sym same))) ∙ itself k)

    last : i ≡ k → get_or (set places (get_or numbers k 0) k) c 0 ≡ i
    last same =
        let one : c ≡ get_or numbers k 0 = some_same c (get_or numbers k 0) (sym e ∙ ap (slice_get numbers) same ∙ at_k) in
        ap (λ (x : ℕ). get_or (set places (get_or numbers k 0) k) x 0) one ∙ get_or-set_same places (get_or numbers k 0) k 0 low ∙ sym same

-- The key of a class, as the code makes it.
name_at : (cs : List ClassDef) (c : ℕ) (d : ClassDef) → slice_get cs c ≡ Some d → full_name cs c ≡ d.name.vocab ++ 58 ∷ d.name.name
name_at cs c d e = ap (λ (o : Option ClassDef). let text : List ℕ = elim o [ Some d ↦ d.name.vocab ++ 58 ∷ d.name.name | None ↦ [] ] in text) e

same_key : (a b c : ℕ) (x y : List ℕ) → a ≡ b → x ≡ y → (let k : ℕ × List ℕ × ℕ = (a, x, c) in let l : ℕ × List ℕ × ℕ = (b, y, c) in k ≡ l)
same_key a b c x y e f = rw (e, f) refl

pub key_is : {Z : Type 0} (cs : List ClassDef) (w : ℕ) (cells : List Bool) → IsTable cs w cells → (c : ℕ) → c < length cs → (d : ClassDef) (count : ℕ) (name : String Z) → count ≡ cell_count w cells c w → string_bytes name ≡ (get_or cs c d).name.vocab ++ 58 ∷ (get_or cs c d).name.name → key_seen (count, name, c) ≡ key_of cs c
key_is cs w cells t c lt d count name e f =
    same_key count (kind_count cs c (kind_total cs)) c (string_bytes name) (full_name cs c) (e ∙ counted_all cs w cells t c lt) (f ∙ sym (name_at cs c (get_or cs c d) (slice_get-get_or cs c d lt)))

-- Sorted keys.
abbrev key_before : {Z : Type 0} → ℕ × String Z × ℕ → ℕ × String Z × ℕ → Bool
key_before x y = is_lt (key_cmp (key_seen x) (key_seen y))

keys_weak : {Z : Type 0} → IsStrictWeakOrder (key_before {Z = Z})
keys_weak {Z} = ranks_by key_total (key_seen {Z = Z})

-- each key is that of its number, which is that of a class
abbrev IsKey : {Z : Type 0} → List ClassDef → ℕ × String Z × ℕ → Type 0
IsKey cs x = (key_seen x ≡ key_of cs x.2) × (x.2 < length cs)

all_keys : {Z : Type 0} (cs : List ClassDef) (keys : List (ℕ × String Z × ℕ)) → map key_seen keys ≡ map (key_of cs) (range_with_len 0 (length cs)) → All (IsKey cs) keys
all_keys cs keys e k d lt =
    let n : length keys ≡ length cs = sym (length-map keys key_seen) ∙ ap length e ∙ length-map-range_with_len (key_of cs) 0 (length cs) in
    let under : k < length cs = omega (arith, n, lt) in
    let at : key_seen (get_or keys k d) ≡ key_of cs k = sym (get_or-map key_seen keys k d (key_seen d) lt) ∙ ap (λ (xs : List (ℕ × List ℕ × ℕ)). get_or xs k (key_seen d)) e ∙ get_or-map-range_with_len (key_of cs) 0 (length cs) k k (key_seen d) under (omega arith) in
    let number : (get_or keys k d).2 ≡ k = ap (λ (x : ℕ × List ℕ × ℕ). x.2) at in
    (at ∙ ap (key_of cs) (sym number), omega (arith, number, under))

there : {A : Type 0} → (xs : List A) (k : ℕ) → k < length xs → (x : A) × (slice_get xs k ≡ Some x)
there [] k lt = absurd (omega (arith, lt))
there (x ∷ xs) zero lt = (x, refl)
there (x ∷ xs) (suc k) lt = there xs k (omega (arith, lt))

get_there : {A : Type 0} (xs : List A) (i : ℕ) (x d : A) → slice_get xs i ≡ Some x → get_or xs i d ≡ x
get_there xs i x d e = get_or_from_slice_get xs i x d e

numbers_ordered : {Z : Type 0} (cs : List ClassDef) (keys : List (ℕ × String Z × ℕ)) (i j : ℕ) → IsSortedBy key_before keys → All (IsKey cs) keys → IsOnce (map (λ k. k.2) keys) → i < j → j < length keys →
    (x : ℕ × String Z × ℕ) → slice_get keys i ≡ Some x → class_before cs (get_or (map (λ k. k.2) keys) i 0) (get_or (map (λ k. k.2) keys) j 0) ≡ true
numbers_ordered cs keys i j up all once lt l x e =
    let b = get_or keys j x in
    let at_i : get_or keys i x ≡ x = get_there keys i x x e in
    let first : get_or (map (λ k. k.2) keys) i 0 ≡ x.2 = get_or-map (λ k. k.2) keys i x 0 (omega (arith, lt, l)) ∙ ap (λ k. k.2) at_i in
    let second : get_or (map (λ k. k.2) keys) j 0 ≡ (get_or keys j x).2 = get_or-map (λ k. k.2) keys j x 0 l in
    let key_x = subst (λ k. IsKey cs k) at_i (all i x (omega (arith, lt, l))) in
    let key_b = all j x l in
    let far : key_before (get_or keys j x) x ≡ false = ap (λ k. key_before (get_or keys j x) k) (sym at_i) ∙ sorted_far key_before keys_weak keys up i j x (omega (arith, lt)) l in
    let back : class_before cs (get_or keys j x).2 x.2 ≡ false = class_lt cs (get_or keys j x).2 x.2 ∙ ap (λ k. is_lt (key_cmp k (key_of cs x.2))) (sym key_b.0) ∙ ap (λ k. is_lt (key_cmp (key_seen (get_or keys j x)) k)) (sym key_x.0) ∙ far in
    ap (λ (n : ℕ). class_before cs n (get_or (map (λ k. k.2) keys) j 0)) first ∙ ap (λ (n : ℕ). class_before cs x.2 n) second ∙ class_total cs x.2 (get_or keys j x).2 (λ same. apart first second same) back
  where
    apart : get_or (map (λ k. k.2) keys) i 0 ≡ x.2 → get_or (map (λ k. k.2) keys) j 0 ≡ (get_or keys j x).2 → x.2 ≡ (get_or keys j x).2 → ⊥
    apart first second same =
        let n = length-map keys (λ k. k.2) in
        let at_i : slice_get (map (λ k. k.2) keys) i ≡ Some x.2 = slice_get-get_or (map (λ k. k.2) keys) i 0 (omega (arith, n, lt, l)) ∙ ap Some first in
        let at_j : slice_get (map (λ k. k.2) keys) j ≡ Some x.2 = slice_get-get_or (map (λ k. k.2) keys) j 0 (omega (arith, n, l)) ∙ ap Some (second ∙ sym same) in
        let one = once i j x.2 at_i at_j in
        absurd (omega (arith, one, lt))

keys_moved : {Z : Type 0} (cs : List ClassDef) (keys sorted : List (ℕ × String Z × ℕ)) → map key_seen keys ≡ map (key_of cs) (range_with_len 0 (length cs)) → IsPermutation keys sorted → IsPermutation (range_with_len 0 (length cs)) (map (λ k. k.2) sorted)
keys_moved cs keys sorted e p = subst (λ (xs : List ℕ). IsPermutation xs (map (λ k. k.2) sorted)) (seconds keys ∙ ap (map (λ (k : ℕ × List ℕ × ℕ). k.2)) e ∙ of_range (range_with_len 0 (length cs))) (IsPermutation-map (λ k. k.2) keys sorted p)
  where
    seconds : {Z : Type 0} (ks : List (ℕ × String Z × ℕ)) → map (λ k. k.2) ks ≡ map (λ (k : ℕ × List ℕ × ℕ). k.2) (map key_seen ks)
    seconds [] = refl
    seconds (k ∷ ks) = ap (λ (xs : List ℕ). k.2 ∷ xs) (seconds ks)

    of_range : (ns : List ℕ) → map (λ (k : ℕ × List ℕ × ℕ). k.2) (map (key_of cs) ns) ≡ ns
    of_range [] = refl
    of_range (n ∷ ns) = ap (λ (xs : List ℕ). n ∷ xs) (of_range ns)

pub keys_ascending : {Z : Type 0} (cs : List ClassDef) (keys sorted : List (ℕ × String Z × ℕ)) (numbers : List ℕ) → map key_seen keys ≡ map (key_of cs) (range_with_len 0 (length cs)) → IsPermutation keys sorted → IsSortedBy key_before sorted → numbers ≡ map (λ k. k.2) sorted → IsAscending cs numbers
keys_ascending cs keys sorted numbers e p up q = subst (λ (xs : List ℕ). IsAscending cs xs) (sym q) (record { moved = keys_moved cs keys sorted e p; ascending = order })
  where
    once : IsOnce (map (λ k. k.2) sorted)
    once = range_once (length cs) (map (λ k. k.2) sorted) (keys_moved cs keys sorted e p)

    order : (i j : ℕ) → i < j → j < length (map (λ k. k.2) sorted) → class_before cs (get_or (map (λ k. k.2) sorted) i 0) (get_or (map (λ k. k.2) sorted) j 0) ≡ true
    order i j lt l =
        let n = length-map sorted (λ k. k.2) in
        let under : j < length sorted = omega (arith, n, l) in
        let x = there sorted i (omega (arith, under, lt)) in
        numbers_ordered cs sorted i j up (All-permutation (IsKey cs) keys sorted p (all_keys cs keys e)) once lt under x.0 x.1
