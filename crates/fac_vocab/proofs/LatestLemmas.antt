-- The latest form that gives a name a word, by the numbers of forms.
use Rattle.std.proofs.Common.{◌≡◌, ℕ, zero, suc, ◌+◌, ◌<◌, ◌≤◌, Bool, true, false, cond, ◌||◌, List, [], ◌∷◌, ◌++◌, length, drop, take, reverse, String, string_bytes, Option, Some, None, is_some, refl, sym, ap, ◌∙◌, subst, arith, append_assoc, length-append, true≢false}
use Rattle.std.specs.Prelude.{nat_eq, nat_lt, slice_get, codes, if◌then◌else◌, IfSome}
use Rattle.std.specs.Cmp.{unsigned_Decides}
use Rattle.std.specs.List.{list_any, starts_with}
use Rattle.std.specs.Str.{bytes_eq}
use Rattle.std.proofs.lemmas.Bool.{ltb-false, ltb-true}
use Rattle.std.proofs.lemmas.List.{length-drop, length_push, reverse-append}
use Rattle.std.proofs.lemmas.Map.Entries.{place_from_lookup}
use Rattle.std.proofs.lemmas.Option.{slice_get_within}
use Rattle.std.proofs.lemmas.Slice.Eq.{bytes_eq-Decides, starts_is}
use Rattle.fac_vocab.specs.Scopes.{Entry, Brought, named, prefixed, word_held, or_else, given_by, latest}
use Rattle.fac_vocab.specs.inner.BroughtForms.{word_by, word_at, gives, last_giving, later, is_name, has_prefix, is_pair, is_length, last_pair, numbers_where, HasLengths, AtMost, GivesBest, IsNext, EndsIn, with_vocab_number}
use Rattle.indexmap.specs.IndexMap.{IndexMap, get_by_text}
use Rattle.fac_vocab.proofs.TextLemmas.{drop_prefix, both_true}

none_some : {X : Type 0} {x : X} → None ≡ Some x → ⊥
none_some g = cc

-- Forms from the first on.

abbrev last_word : List Entry → List ℕ → List Brought → Option ℕ
last_word table name [] = None
last_word table name (f ∷ fs) = or_else (last_word table name fs) (given_by table name f)

latest_append : (table : List Entry) (name : List ℕ) (fs gs : List Brought) → latest table name (fs ++ gs) ≡ or_else (latest table name fs) (latest table name gs)
latest_append table name [] gs = refl
latest_append table name (f ∷ fs) gs = one (given_by table name f) (latest_append table name fs gs)
  where
    one : (o : Option ℕ) → latest table name (fs ++ gs) ≡ or_else (latest table name fs) (latest table name gs) → or_else o (latest table name (fs ++ gs)) ≡ or_else (or_else o (latest table name fs)) (latest table name gs)
    one None h = h
    one (Some w) h = refl

or_none : (o : Option ℕ) → or_else o None ≡ o
or_none None = refl
or_none (Some w) = refl

latest_last : (table : List Entry) (name : List ℕ) (fs : List Brought) → latest table name (reverse fs) ≡ last_word table name fs
latest_last table name [] = refl
latest_last table name (f ∷ fs) =
    ap (latest table name) (reverse-append (f ∷ []) fs)
    ∙ latest_append table name (reverse fs) (f ∷ [])
    ∙ ap (λ (o : Option ℕ). or_else o (or_else (given_by table name f) None)) (latest_last table name fs)
    ∙ ap (or_else (last_word table name fs)) (or_none (given_by table name f))

none_last : (table : List Entry) (name : List ℕ) (fs : List Brought) → ((m : ℕ) (f : Brought) → slice_get fs m ≡ Some f → given_by table name f ≡ None) → last_word table name fs ≡ None
none_last table name [] h = refl
none_last table name (f ∷ fs) h =
    ap (λ (o : Option ℕ). or_else o (given_by table name f)) (none_last table name fs (λ m g e. h (suc m) g e)) ∙ h 0 f refl

some_last : (table : List Entry) (name : List ℕ) (fs : List Brought) (b : ℕ) (w : ℕ) → word_by table name (slice_get fs b) ≡ Some w → ((m : ℕ) (f : Brought) → b < m → slice_get fs m ≡ Some f → given_by table name f ≡ None) → last_word table name fs ≡ Some w
some_last table name [] b w e h = absurd (none_some e)
some_last table name (f ∷ fs) zero w e h =
    ap (λ (o : Option ℕ). or_else o (given_by table name f)) (none_last table name fs (λ m g i. h (suc m) g (omega arith) i)) ∙ e
some_last table name (f ∷ fs) (suc b) w e h =
    ap (λ (o : Option ℕ). or_else o (given_by table name f)) (some_last table name fs b w e (λ m g l i. h (suc m) g (omega (arith, l)) i))

-- The best number so far.

abbrev pub front_length : Brought → ℕ
front_length (named n w) = length n
front_length (prefixed v p) = length p

-- Of the forms whose name or prefix has at least k bytes this is the last that gives the name a word.
pub record Best (table : List Entry) (forms : List Brought) (name : List ℕ) (k : ℕ) (best : Option ℕ) : Type 0 where
  pub gives_word : GivesBest table forms name best
  pub covers : (m : ℕ) (f : Brought) → slice_get forms m ≡ Some f → is_some (given_by table name f) ≡ true → k ≤ front_length f → AtMost m best

not_given : (o : Option ℕ) → (is_some o ≡ true → ⊥) → o ≡ None
not_given None h = refl
not_given (Some w) h = absurd (h refl)

-- the best of all forms is the latest
pub best_is_latest : (table : List Entry) (forms : List Brought) (name : List ℕ) (best : Option ℕ) → Best table forms name 0 best → word_at table forms name best ≡ latest table name (reverse forms)
best_is_latest table forms name None h =
    sym (latest_last table name forms ∙ none_last table name forms (λ m f e. not_given (given_by table name f) (λ g. h.covers m f e g (omega arith))))
best_is_latest table forms name (Some b) h = by (word_by table name (slice_get forms b)) refl h.gives_word
  where
    by : (o : Option ℕ) → word_by table name (slice_get forms b) ≡ o → is_some (word_by table name (slice_get forms b)) ≡ true → word_by table name (slice_get forms b) ≡ latest table name (reverse forms)
    by None e g = absurd (true≢false (sym g ∙ ap is_some e))
    by (Some w) e g =
        e ∙ sym (latest_last table name forms ∙ some_last table name forms b w e (λ m f l i. not_given (given_by table name f) (λ s. let most = h.covers m f i s (omega arith) in omega (arith, l, most))))

-- The last of the numbers of forms that pass a test.

last_gives : (table : List Entry) (forms : List Brought) (name ns : List ℕ) → GivesBest table forms name (last_giving table forms name ns)
last_gives table forms name [] = tt
last_gives table forms name (n ∷ ns) = one (last_giving table forms name ns) (gives table forms name n) refl (last_gives table forms name ns)
  where
    one : (o : Option ℕ) (b : Bool) → gives table forms name n ≡ b → GivesBest table forms name o → GivesBest table forms name (or_else o (cond b (Some n) None))
    one (Some m) b e h = h
    one None true e h = e
    one None false e h = tt

abbrev NotBelow : ℕ → Option ℕ → Type 0
NotBelow k None = Unit {0}
NotBelow k (Some b) = k ≤ b

last_not_below : (table : List Entry) (forms : List Brought) (name : List ℕ) (test : Brought → Bool) (k : ℕ) (fs : List Brought) → NotBelow k (last_giving table forms name (numbers_where k test fs))
last_not_below table forms name test k [] = tt
last_not_below table forms name test k (f ∷ fs) = one (test f) (last_giving table forms name (numbers_where (k + 1) test fs)) refl (last_not_below table forms name test (k + 1) fs)
  where
    lower : (o : Option ℕ) → NotBelow (k + 1) o → NotBelow k o
    lower None h = tt
    lower (Some b) h = omega (arith, h)

    two : (o : Option ℕ) (b : Bool) → NotBelow (k + 1) o → NotBelow k (or_else o (cond b (Some k) None))
    two None true h = omega arith
    two None false h = tt
    two (Some m) b h = omega (arith, h)

    one : (b : Bool) (o : Option ℕ) → last_giving table forms name (numbers_where (k + 1) test fs) ≡ o → NotBelow (k + 1) (last_giving table forms name (numbers_where (k + 1) test fs)) → NotBelow k (last_giving table forms name (cond b (k ∷ numbers_where (k + 1) test fs) (numbers_where (k + 1) test fs)))
    one true o e h = two (last_giving table forms name (numbers_where (k + 1) test fs)) (gives table forms name k) h
    one false o e h = lower (last_giving table forms name (numbers_where (k + 1) test fs)) h

form_behind : (done fs : List Brought) (f : Brought) → slice_get (done ++ f ∷ fs) (length done) ≡ Some f
form_behind [] fs f = refl
form_behind (x ∷ done) fs f = form_behind done fs f

last_covers : (table : List Entry) (name : List ℕ) (test : Brought → Bool) (k : ℕ) (done fs : List Brought) → k ≡ length done → (m : ℕ) (f : Brought) → slice_get fs m ≡ Some f → test f ≡ true → is_some (given_by table name f) ≡ true →
    AtMost (k + m) (last_giving table (done ++ fs) name (numbers_where k test fs))
last_covers table name test k done [] h m f e p g = absurd (none_some e)
last_covers table name test k done (x ∷ fs) h zero f e p g =
    let same : x ≡ f = cc in
    let given : gives table (done ++ x ∷ fs) name k ≡ true =
    ap (λ (n : ℕ). is_some (word_by table name (slice_get (done ++ x ∷ fs) n))) h ∙ ap (λ (o : Option Brought). is_some (word_by table name o)) (form_behind done fs x) ∙ ap (λ (y : Brought). is_some (given_by table name y)) same ∙ g in
    let ns = numbers_where (k + 1) test fs in
    subst (λ (b : Bool). AtMost (k + 0) (last_giving table (done ++ x ∷ fs) name (cond b (k ∷ ns) ns))) (sym (ap test same ∙ p))
    (subst (λ (d : Bool). AtMost (k + 0) (or_else (last_giving table (done ++ x ∷ fs) name ns) (cond d (Some k) None))) (sym given) (two (last_giving table (done ++ x ∷ fs) name ns) (last_not_below table (done ++ x ∷ fs) name test (k + 1) fs)))
  where
    two : (o : Option ℕ) → NotBelow (k + 1) o → AtMost (k + 0) (or_else o (Some k))
    two None h = omega arith
    two (Some b) h = omega (arith, h)
last_covers table name test k done (x ∷ fs) h (suc m) f e p g =
    let more = length_push done x in
    let ih : AtMost (k + 1 + m) (last_giving table (done ++ x ∷ fs) name (numbers_where (k + 1) test fs)) =
    subst (λ (all : List Brought). AtMost (k + 1 + m) (last_giving table all name (numbers_where (k + 1) test fs))) (append_assoc done (x ∷ []) fs) (last_covers table name test (k + 1) (done ++ x ∷ []) fs (omega (arith, h, more)) m f e p g) in
    one (test x) (last_giving table (done ++ x ∷ fs) name (numbers_where (k + 1) test fs)) refl ih
  where
    two : (o rest : Option ℕ) → AtMost (k + 1 + m) o → AtMost (k + suc m) (or_else o rest)
    two None rest h = absurd h
    two (Some b) rest h = omega (arith, h)

    three : (o : Option ℕ) → AtMost (k + 1 + m) o → AtMost (k + suc m) o
    three None h = h
    three (Some b) h = omega (arith, h)

    one : (b : Bool) (o : Option ℕ) → last_giving table (done ++ x ∷ fs) name (numbers_where (k + 1) test fs) ≡ o → AtMost (k + 1 + m) (last_giving table (done ++ x ∷ fs) name (numbers_where (k + 1) test fs)) →
        AtMost (k + suc m) (last_giving table (done ++ x ∷ fs) name (cond b (k ∷ numbers_where (k + 1) test fs) (numbers_where (k + 1) test fs)))
    one true o e h = two (last_giving table (done ++ x ∷ fs) name (numbers_where (k + 1) test fs)) (cond (gives table (done ++ x ∷ fs) name k) (Some k) None) h
    one false o e h = three (last_giving table (done ++ x ∷ fs) name (numbers_where (k + 1) test fs)) h

all_covered : (table : List Entry) (forms : List Brought) (name : List ℕ) (test : Brought → Bool) (m : ℕ) (f : Brought) → slice_get forms m ≡ Some f → test f ≡ true → is_some (given_by table name f) ≡ true → AtMost m (last_giving table forms name (numbers_where 0 test forms))
all_covered table forms name test m f e p g =
    let none : 0 + m ≡ m = omega arith in
    subst (λ (n : ℕ). AtMost n (last_giving table forms name (numbers_where 0 test forms))) none (last_covers table name test 0 [] forms refl m f e p g)

-- a last number of a list
pub giving_push : (table : List Entry) (forms : List Brought) (name ns : List ℕ) (n : ℕ) → last_giving table forms name (ns ++ n ∷ []) ≡ or_else (if gives table forms name n then Some n else None) (last_giving table forms name ns)
giving_push table forms name [] n = one (gives table forms name n)
  where
    one : (b : Bool) → or_else None (cond b (Some n) None) ≡ or_else (cond b (Some n) None) None
    one true = refl
    one false = refl
giving_push table forms name (m ∷ ns) n =
    ap (λ (o : Option ℕ). or_else o (cond (gives table forms name m) (Some m) None)) (giving_push table forms name ns n)
    ∙ one (cond (gives table forms name n) (Some n) None) (last_giving table forms name ns) (cond (gives table forms name m) (Some m) None)
  where
    one : (a b c : Option ℕ) → or_else (or_else a b) c ≡ or_else a (or_else b c)
    one None b c = refl
    one (Some x) b c = refl

-- The greater of two numbers.

later_first : (m : ℕ) (a b : Option ℕ) → AtMost m a → AtMost m (later a b)
later_first m None b h = absurd h
later_first m (Some x) None h = h
later_first m (Some x) (Some y) h = one (nat_lt x y) refl
  where
    one : (c : Bool) → nat_lt x y ≡ c → AtMost m (cond c (Some y) (Some x))
    one true e = let l = ltb-true x y e in omega (arith, h, l)
    one false e = h

later_second : (m : ℕ) (a b : Option ℕ) → AtMost m b → AtMost m (later a b)
later_second m None b h = h
later_second m (Some x) None h = absurd h
later_second m (Some x) (Some y) h = one (nat_lt x y) refl
  where
    one : (c : Bool) → nat_lt x y ≡ c → AtMost m (cond c (Some y) (Some x))
    one true e = h
    one false e = let l = ltb-false x y e in omega (arith, h, l)

later_gives : (table : List Entry) (forms : List Brought) (name : List ℕ) (a b : Option ℕ) → GivesBest table forms name a → GivesBest table forms name b → GivesBest table forms name (later a b)
later_gives table forms name None b g h = h
later_gives table forms name (Some x) None g h = g
later_gives table forms name (Some x) (Some y) g h = one (nat_lt x y)
  where
    one : (c : Bool) → GivesBest table forms name (cond c (Some y) (Some x))
    one true = h
    one false = g

-- Names and prefixes.

take_front : (xs ys : List ℕ) → take (length xs) (xs ++ ys) ≡ xs
take_front [] ys = refl
take_front (x ∷ xs) ys = ap (λ (zs : List ℕ). x ∷ zs) (take_front xs ys)

-- what a form that gives a name a word brings: the name, or a prefix of it
data Brings (name : List ℕ) : Brought → Type 0 where
  by_name : (n : List ℕ) (w : ℕ) → name ≡ n → Brings name (named n w)
  by_prefix : (v p rest : List ℕ) → name ≡ p ++ 58 ∷ rest → Brings name (prefixed v p)

brings : (table : List Entry) (name : List ℕ) (f : Brought) → is_some (given_by table name f) ≡ true → Brings name f
brings table name (named n w) g = one (bytes_eq name n) refl g
  where
    one : (b : Bool) → bytes_eq name n ≡ b → is_some (cond b (Some w) None) ≡ true → Brings name (named n w)
    one true e g = by_name n w ((bytes_eq-Decides name n).0 e)
    one false e g = absurd (true≢false (sym g))
brings table name (prefixed v p) g = one (starts_with nat_eq name (p ++ codes ":")) refl g
  where
    one : (b : Bool) → starts_with nat_eq name (p ++ codes ":") ≡ b → is_some (cond b (word_held table v (drop (length p + 1) name)) None) ≡ true → Brings name (prefixed v p)
    one true e g =
        let rest = drop (length (p ++ codes ":")) name in
        by_prefix v p rest ((starts_is unsigned_Decides name (p ++ codes ":") (starts_with nat_eq name (p ++ codes ":")) refl).0 e ∙ append_assoc p (codes ":") rest)
    one false e g = absurd (true≢false (sym g))

-- a prefix before a colon that is shorter than the front of a name stands in that front
in_front : (p r front tail : List ℕ) → p ++ 58 ∷ r ≡ front ++ tail → length p < length front → (s : List ℕ) × (front ≡ p ++ 58 ∷ s)
in_front p r [] tail e l = absurd (omega (arith, l))
in_front [] r (x ∷ front) tail e l = let same : 58 ≡ x = cc in (front, ap (λ (n : ℕ). n ∷ front) (sym same))
in_front (y ∷ p) r (x ∷ front) tail e l =
    let same : y ≡ x = cc in
    let rest : p ++ 58 ∷ r ≡ front ++ tail = cc in
    let h = in_front p r front tail rest (omega (arith, l)) in
    (h.0, ap (λ (n : ℕ). n ∷ front) (sym same) ∙ ap (λ (xs : List ℕ). y ∷ xs) h.1)

-- all names that a form brings are as long as the name
pub best_named : (table : List Entry) (forms : List Brought) (name : List ℕ) → Best table forms name (length name) (last_giving table forms name (numbers_where 0 (is_name name) forms))
best_named table forms name =
    record {
      gives_word = last_gives table forms name (numbers_where 0 (is_name name) forms);
      covers = λ m f e g l. one m f e g l (brings table name f g);
    }
  where
    one : (m : ℕ) (f : Brought) → slice_get forms m ≡ Some f → is_some (given_by table name f) ≡ true → length name ≤ front_length f → Brings name f → AtMost m (last_giving table forms name (numbers_where 0 (is_name name) forms))
    one m f e g l (by_name n w h) = all_covered table forms name (is_name name) m (named n w) e ((bytes_eq-Decides n name).1 (sym h)) g
    one m f e g l (by_prefix v p rest h) = let long = ap length h ∙ length-append p (58 ∷ rest) in absurd (omega (arith, l, long))

-- a front that has no colon behind another front of it
pub best_prefixed : (table : List Entry) (forms : List Brought) (name front before after tail : List ℕ) (best next : Option ℕ) → name ≡ front ++ tail → front ≡ before ++ 58 ∷ after → ((i : ℕ) → length before < i → i ≤ length front → (rest : List ℕ) → drop i front ≡ 58 ∷ rest → ⊥) →
    IsNext table forms name before best next → Best table forms name (length front) best → Best table forms name (length before) next
best_prefixed table forms name front before after tail best next whole split none n h =
    record {
      gives_word = n.gives_word h.gives_word;
      covers = λ m f e g l. two m f e g l (nat_lt (front_length f) (length front)) refl (brings table name f g);
    }
  where
    three : (m : ℕ) (v p r : List ℕ) → slice_get forms m ≡ Some (prefixed v p) → is_some (given_by table name (prefixed v p)) ≡ true → length before ≤ length p → length p < length front → front ≡ p ++ 58 ∷ r → (b : Bool) → nat_lt (length before) (length p) ≡ b → AtMost m next
    three m v p r e g l s f true o = absurd (none (length p) (ltb-true (length before) (length p) o) (omega (arith, s)) r (ap (drop (length p)) f ∙ drop_prefix p (58 ∷ r)))
    three m v p r e g l s f false o =
        let q = ltb-false (length before) (length p) o in
        let same : length p ≡ length before = omega (arith, l, q) in
        let alike : p ≡ before = sym (take_front p (58 ∷ r)) ∙ ap (take (length p)) (sym f ∙ split) ∙ ap (λ (n : ℕ). take n (before ++ 58 ∷ after)) same ∙ take_front before (58 ∷ after) in
        n.covers m v (e ∙ ap (λ (xs : List ℕ). Some (prefixed v xs)) alike) (ap (λ (o : Option Brought). is_some (word_by table name o)) e ∙ g)

    two : (m : ℕ) (f : Brought) → slice_get forms m ≡ Some f → is_some (given_by table name f) ≡ true → length before ≤ front_length f → (b : Bool) → nat_lt (front_length f) (length front) ≡ b → Brings name f → AtMost m next
    two m f e g l false o brought = n.keeps m (h.covers m f e g (ltb-false (front_length f) (length front) o))
    two m f e g l true o (by_name n w i) =
        let s = ltb-true (length n) (length front) o in
        let long = sym (ap length i) ∙ ap length whole ∙ length-append front tail in
        absurd (omega (arith, s, long))
    two m f e g l true o (by_prefix v p rest i) =
        let s = ltb-true (length p) (length front) o in
        let inside = in_front p rest front tail (sym i ∙ whole) s in
        three m v p inside.0 e g l s inside.1 (nat_lt (length before) (length p)) refl

-- a front without a colon
pub best_of_all : (table : List Entry) (forms : List Brought) (name front tail : List ℕ) (best : Option ℕ) → name ≡ front ++ tail → ((i : ℕ) → i ≤ length front → (rest : List ℕ) → drop i front ≡ 58 ∷ rest → ⊥) → Best table forms name (length front) best → Best table forms name 0 best
best_of_all table forms name front tail best whole none h =
    record {
      gives_word = h.gives_word;
      covers = λ m f e g l. two m f e g (nat_lt (front_length f) (length front)) refl (brings table name f g);
    }
  where
    two : (m : ℕ) (f : Brought) → slice_get forms m ≡ Some f → is_some (given_by table name f) ≡ true → (b : Bool) → nat_lt (front_length f) (length front) ≡ b → Brings name f → AtMost m best
    two m f e g false o brought = h.covers m f e g (ltb-false (front_length f) (length front) o)
    two m f e g true o (by_name n w i) =
        let s = ltb-true (length n) (length front) o in
        let long = sym (ap length i) ∙ ap length whole ∙ length-append front tail in
        absurd (omega (arith, s, long))
    two m f e g true o (by_prefix v p rest i) =
        let s = ltb-true (length p) (length front) o in
        let inside = in_front p rest front tail (sym i ∙ whole) s in
        absurd (none (length p) (omega (arith, s)) inside.0 (ap (drop (length p)) inside.1 ∙ drop_prefix p (58 ∷ inside.0)))

-- The last form that brings a vocabulary behind a prefix.

pair_itself : (v p : List ℕ) → is_pair p v (prefixed v p) ≡ true
pair_itself v p = rw ((bytes_eq-Decides p p).1 refl, (bytes_eq-Decides v v).1 refl) refl

pair_alike : (p v : List ℕ) (f : Brought) → is_pair p v f ≡ true → f ≡ prefixed v p
pair_alike p v (named n w) h = absurd (true≢false (sym h))
pair_alike p v (prefixed u q) h =
    let both = both_true (bytes_eq q p) (bytes_eq u v) h in
    ap (λ (xs : List ℕ). prefixed xs q) ((bytes_eq-Decides u v).0 both.1) ∙ ap (λ (xs : List ℕ). prefixed v xs) ((bytes_eq-Decides q p).0 both.0)

pair_not_below : (p v : List ℕ) (k : ℕ) (fs : List Brought) → NotBelow k (last_pair k p v fs)
pair_not_below p v k [] = tt
pair_not_below p v k (f ∷ fs) = one (last_pair (k + 1) p v fs) (is_pair p v f) (pair_not_below p v (k + 1) fs)
  where
    one : (o : Option ℕ) (b : Bool) → NotBelow (k + 1) o → NotBelow k (or_else o (cond b (Some k) None))
    one None true h = omega arith
    one None false h = tt
    one (Some m) b h = omega (arith, h)

-- no form with the two comes behind it
pub pair_covers : (p v : List ℕ) (k : ℕ) (fs : List Brought) (m : ℕ) → slice_get fs m ≡ Some (prefixed v p) → AtMost (k + m) (last_pair k p v fs)
pair_covers p v k [] m e = absurd (none_some e)
pair_covers p v k (f ∷ fs) zero e =
    let same : f ≡ prefixed v p = cc in
    one (last_pair (k + 1) p v fs) (is_pair p v f) (ap (is_pair p v) same ∙ pair_itself v p) (pair_not_below p v (k + 1) fs)
  where
    one : (o : Option ℕ) (b : Bool) → b ≡ true → NotBelow (k + 1) o → AtMost (k + 0) (or_else o (cond b (Some k) None))
    one None true g h = omega arith
    one None false g h = absurd (true≢false (sym g))
    one (Some m) b g h = omega (arith, h)
pair_covers p v k (f ∷ fs) (suc m) e = one (last_pair (k + 1) p v fs) (cond (is_pair p v f) (Some k) None) (pair_covers p v (k + 1) fs m e)
  where
    one : (o rest : Option ℕ) → AtMost (k + 1 + m) o → AtMost (k + suc m) (or_else o rest)
    one None rest h = absurd h
    one (Some b) rest h = omega (arith, h)

-- it is one of them
pair_here : (p v : List ℕ) (k n : ℕ) (f : Brought) (o : Option ℕ) (b : Bool) (all : List Brought) → is_pair p v f ≡ b → slice_get all k ≡ Some f → (o ≡ Some n → slice_get all n ≡ Some (prefixed v p)) → or_else o (cond b (Some k) None) ≡ Some n → slice_get all n ≡ Some (prefixed v p)
pair_here p v k n f (Some m) b all g at ih e = ih e
pair_here p v k n f None true all g at ih e = let same : n ≡ k = cc in ap (slice_get all) same ∙ at ∙ ap (λ (x : Brought). Some x) (pair_alike p v f g)
pair_here p v k n f None false all g at ih e = absurd (none_some e)

pub pair_is : (p v : List ℕ) (k : ℕ) (done fs : List Brought) (n : ℕ) → k ≡ length done → last_pair k p v fs ≡ Some n → slice_get (done ++ fs) n ≡ Some (prefixed v p)
pair_is p v k done [] n h e = absurd (none_some e)
pair_is p v k done (f ∷ fs) n h e =
    pair_here p v k n f (last_pair (k + 1) p v fs) (is_pair p v f) (done ++ f ∷ fs) refl (ap (slice_get (done ++ f ∷ fs)) h ∙ form_behind done fs f)
    (λ g. ap (λ (all : List Brought). slice_get all n) (sym (append_assoc done (f ∷ []) fs)) ∙ pair_is p v (k + 1) (done ++ f ∷ []) fs n (let more = length_push done f in omega (arith, h, more)) g)
    e

-- The next best number.

-- a number more that may be better
pub with_gives : (table : List Entry) (forms : List Brought) (name : List ℕ) (n : ℕ) (best : Option ℕ) → GivesBest table forms name best → GivesBest table forms name (if gives table forms name n then later best (Some n) else best)
with_gives table forms name n best h = one (gives table forms name n) refl
  where
    one : (b : Bool) → gives table forms name n ≡ b → GivesBest table forms name (cond b (later best (Some n)) best)
    one true e = later_gives table forms name best (Some n) h e
    one false e = h

pub with_keeps : (table : List Entry) (forms : List Brought) (name : List ℕ) (n : ℕ) (best : Option ℕ) (m : ℕ) → AtMost m best → AtMost m (if gives table forms name n then later best (Some n) else best)
with_keeps table forms name n best m h = one (gives table forms name n)
  where
    one : (b : Bool) → AtMost m (cond b (later best (Some n)) best)
    one true = later_first m best (Some n) h
    one false = h

pub with_covers : (table : List Entry) (forms : List Brought) (name : List ℕ) (n : ℕ) (best : Option ℕ) → gives table forms name n ≡ true → AtMost n (if gives table forms name n then later best (Some n) else best)
with_covers table forms name n best h = rw (h) (later_second n best (Some n) (omega arith))

pub entry_gives : {K : Type 0} (table : List Entry) (forms : List Brought) (name : List ℕ) (o : Option (K × ℕ)) (best : Option ℕ) → GivesBest table forms name best → GivesBest table forms name (with_vocab_number table forms name o best)
entry_gives table forms name None best h = h
entry_gives table forms name (Some x) best h = with_gives table forms name x.1 best h

pub entry_keeps : {K : Type 0} (table : List Entry) (forms : List Brought) (name : List ℕ) (o : Option (K × ℕ)) (best : Option ℕ) (m : ℕ) → AtMost m best → AtMost m (with_vocab_number table forms name o best)
entry_keeps table forms name None best m h = h
entry_keeps table forms name (Some x) best m h = with_keeps table forms name x.1 best m h

-- these numbers of vocabularies are covered
abbrev pub CoversTo : {K : Type 0} → List Entry → List Brought → List ℕ → (ℕ → Option (K × ℕ)) → ℕ → Option ℕ → Type 0
CoversTo {K = K} table forms name vocab i next = (j : ℕ) (x : K × ℕ) → j < i → vocab j ≡ Some x → gives table forms name x.1 ≡ true → AtMost x.1 next

pub covers_more : {K : Type 0} (table : List Entry) (forms : List Brought) (name : List ℕ) (vocab : ℕ → Option (K × ℕ)) (i : ℕ) (next : Option ℕ) → CoversTo table forms name vocab i next → CoversTo table forms name vocab (i + 1) (with_vocab_number table forms name (vocab i) next)
covers_more {K = K} table forms name vocab i next h = λ j x l e g. one j x l e g (nat_lt j i) refl
  where
    one : (j : ℕ) (x : K × ℕ) → j < i + 1 → vocab j ≡ Some x → gives table forms name x.1 ≡ true → (b : Bool) → nat_lt j i ≡ b → AtMost x.1 (with_vocab_number table forms name (vocab i) next)
    one j x l e g true o = entry_keeps table forms name (vocab i) next x.1 (h j x (ltb-true j i o) e g)
    one j x l e g false o =
        let q = ltb-false j i o in
        let same : i ≡ j = omega (arith, l, q) in
        subst (λ (r : Option (K × ℕ)). AtMost x.1 (with_vocab_number table forms name r next)) (sym (ap vocab same ∙ e)) (with_covers table forms name x.1 next g)

pub at_most_by : (m n : ℕ) (o next : Option ℕ) → AtMost m o → o ≡ Some n → AtMost n next → AtMost m next
at_most_by m n None next h e k = absurd h
at_most_by m n (Some b) None h e k = k
at_most_by m n (Some b) (Some c) h e k = let same : b ≡ n = cc in omega (arith, h, k, same)

-- the number of the pair of a form
pub pair_number : (o : Option ℕ) (m : ℕ) → AtMost m o → (n : ℕ) × (o ≡ Some n)
pair_number None m h = absurd h
pair_number (Some n) m h = (n, refl)

pub all_vocabs_covered : {Y S : Type 0} (table : List Entry) (forms : List Brought) (name prefix : List ℕ) (vocabs : IndexMap (String Y) ℕ S) (next : Option ℕ) → ((v : List ℕ) → get_by_text vocabs v ≡ last_pair 0 prefix v forms) →
    CoversTo table forms name (slice_get vocabs.entries) (length vocabs.entries) next → (m : ℕ) (v : List ℕ) → slice_get forms m ≡ Some (prefixed v prefix) → gives table forms name m ≡ true → AtMost m next
all_vocabs_covered table forms name prefix vocabs next kept covered m v e g =
    let none : 0 + m ≡ m = omega arith in
    let most : AtMost m (last_pair 0 prefix v forms) = subst (λ (n : ℕ). AtMost n (last_pair 0 prefix v forms)) none (pair_covers prefix v 0 forms m e) in
    let last = pair_number (last_pair 0 prefix v forms) m most in
    let place = place_from_lookup (λ k. bytes_eq v (string_bytes k)) vocabs.entries last.0 (kept v ∙ last.1) in
    let form = pair_is prefix v 0 [] forms last.0 refl last.1 in
    let also : gives table forms name last.0 ≡ true = ap (λ (o : Option Brought). is_some (word_by table name o)) (form ∙ sym e) ∙ g in
    at_most_by m last.0 (last_pair 0 prefix v forms) next most last.1 (covered place.0 (place.1, last.0) (slice_get_within vocabs.entries place.0 (place.1, last.0) place.2) place.2 also)

pub next_same : (table : List Entry) (forms : List Brought) (name prefix : List ℕ) (best : Option ℕ) → ((m : ℕ) (v : List ℕ) → slice_get forms m ≡ Some (prefixed v prefix) → ⊥) → IsNext table forms name prefix best best
next_same table forms name prefix best none = record { gives_word = λ h. h; keeps = λ m h. h; covers = λ m v e g. absurd (none m v e) }

pub no_length : (table : List Entry) (forms : List Brought) (name prefix : List ℕ) (lengths : List ℕ) (best : Option ℕ) → HasLengths lengths forms → list_any (nat_eq (length prefix)) lengths ≡ false → IsNext table forms name prefix best best
no_length table forms name prefix lengths best long h = next_same table forms name prefix best (λ m v e. true≢false (sym (long m v prefix e) ∙ h))

pub no_pairs : (table : List Entry) (forms : List Brought) (name prefix : List ℕ) (best : Option ℕ) → ((v : List ℕ) → None ≡ last_pair 0 prefix v forms) → IsNext table forms name prefix best best
no_pairs table forms name prefix best none = next_same table forms name prefix best (λ m v e. none_at (last_pair 0 prefix v forms) (0 + m) (none v) (pair_covers prefix v 0 forms m e))
  where
    none_at : (o : Option ℕ) (m : ℕ) → None ≡ o → AtMost m o → ⊥
    none_at None m e h = h
    none_at (Some n) m e h = none_some e

-- A form more.

where_push : (k : ℕ) (test : Brought → Bool) (fs : List Brought) (f : Brought) → numbers_where k test (fs ++ f ∷ []) ≡ (if test f then numbers_where k test fs ++ (k + length fs) ∷ [] else numbers_where k test fs)
where_push k test [] f = let none : k + 0 ≡ k = omega arith in rw (none) refl
where_push k test (x ∷ fs) f = one (test x) (test f) (where_push (k + 1) test fs f) (let more : k + 1 + length fs ≡ k + suc (length fs) = omega arith in more)
  where
    one : (b c : Bool) → numbers_where (k + 1) test (fs ++ f ∷ []) ≡ cond c (numbers_where (k + 1) test fs ++ (k + 1 + length fs) ∷ []) (numbers_where (k + 1) test fs) → k + 1 + length fs ≡ k + suc (length fs) →
        cond b (k ∷ numbers_where (k + 1) test (fs ++ f ∷ [])) (numbers_where (k + 1) test (fs ++ f ∷ [])) ≡ cond c (cond b (k ∷ numbers_where (k + 1) test fs) (numbers_where (k + 1) test fs) ++ (k + suc (length fs)) ∷ []) (cond b (k ∷ numbers_where (k + 1) test fs) (numbers_where (k + 1) test fs))
    one true true h m = ap (λ (ns : List ℕ). k ∷ ns) (h ∙ ap (λ (n : ℕ). numbers_where (k + 1) test fs ++ n ∷ []) m)
    one true false h m = ap (λ (ns : List ℕ). k ∷ ns) h
    one false true h m = h ∙ ap (λ (n : ℕ). numbers_where (k + 1) test fs ++ n ∷ []) m
    one false false h m = h

pub where_after : (test : Brought → Bool) (fs : List Brought) (f : Brought) (n : ℕ) (before after : List ℕ) → n ≡ length fs → before ≡ numbers_where 0 test fs → after ≡ (if test f then before ++ n ∷ [] else before) → after ≡ numbers_where 0 test (fs ++ f ∷ [])
where_after test fs f n before after counted before_is after_is =
    let none : 0 + length fs ≡ length fs = omega arith in
    after_is
    ∙ ap (λ (m : ℕ). cond (test f) (before ++ m ∷ []) before) (counted ∙ sym none)
    ∙ ap (λ (ns : List ℕ). cond (test f) (ns ++ (0 + length fs) ∷ []) ns) before_is
    ∙ sym (where_push 0 test fs f)

pair_push : (k : ℕ) (p v : List ℕ) (fs : List Brought) (f : Brought) → last_pair k p v (fs ++ f ∷ []) ≡ (if is_pair p v f then Some (k + length fs) else last_pair k p v fs)
pair_push k p v [] f = let none : k + 0 ≡ k = omega arith in rw (none) refl
pair_push k p v (x ∷ fs) f = one (is_pair p v f) (last_pair (k + 1) p v fs) (pair_push (k + 1) p v fs f) (let more : k + 1 + length fs ≡ k + suc (length fs) = omega arith in more)
  where
    one : (c : Bool) (o : Option ℕ) → last_pair (k + 1) p v (fs ++ f ∷ []) ≡ cond c (Some (k + 1 + length fs)) o → k + 1 + length fs ≡ k + suc (length fs) →
        or_else (last_pair (k + 1) p v (fs ++ f ∷ [])) (cond (is_pair p v x) (Some k) None) ≡ cond c (Some (k + suc (length fs))) (or_else o (cond (is_pair p v x) (Some k) None))
    one true o h m = ap (λ (r : Option ℕ). or_else r (cond (is_pair p v x) (Some k) None)) h ∙ ap (λ (n : ℕ). Some n) m
    one false o h m = ap (λ (r : Option ℕ). or_else r (cond (is_pair p v x) (Some k) None)) h

pub pair_after : (p v : List ℕ) (fs : List Brought) (f : Brought) (n : ℕ) (before after : Option ℕ) → n ≡ length fs → before ≡ last_pair 0 p v fs → after ≡ (if is_pair p v f then Some n else before) → after ≡ last_pair 0 p v (fs ++ f ∷ [])
pair_after p v fs f n before after counted before_is after_is =
    let none : 0 + length fs ≡ length fs = omega arith in
    after_is
    ∙ ap (λ (m : ℕ). cond (is_pair p v f) (Some m) before) (counted ∙ sym none)
    ∙ ap (λ (o : Option ℕ). cond (is_pair p v f) (Some (0 + length fs)) o) before_is
    ∙ sym (pair_push 0 p v fs f)

length_itself : (v p : List ℕ) → is_length (length p) (prefixed v p) ≡ true
length_itself v p = (unsigned_Decides (length p) (length p)).1 refl

either : (a b c : Bool) → c ≡ (a || b) → a ≡ true → c ≡ true
either true b c h e = h
either false b c h e = absurd (true≢false (sym e))

or_other : (a b c : Bool) → c ≡ (a || b) → b ≡ true → c ≡ true
or_other true b c h e = h
or_other false b c h e = h ∙ e

pub lengths_after : (fs : List Brought) (f : Brought) (before after : List ℕ) → ((n : ℕ) → list_any (nat_eq n) after ≡ (is_length n f || list_any (nat_eq n) before)) → HasLengths before fs → HasLengths after (fs ++ f ∷ [])
lengths_after [] f before after h long = λ m v p e. one m v p e
  where
    one : (m : ℕ) (v p : List ℕ) → slice_get (f ∷ []) m ≡ Some (prefixed v p) → list_any (nat_eq (length p)) after ≡ true
    one zero v p e = let same : f ≡ prefixed v p = cc in either (is_length (length p) f) (list_any (nat_eq (length p)) before) (list_any (nat_eq (length p)) after) (h (length p)) (ap (is_length (length p)) same ∙ length_itself v p)
    one (suc m) v p e = absurd (none_some e)
lengths_after (x ∷ fs) f before after h long = λ m v p e. one m v p (lengths_after fs f before after h (λ m v p e. long (suc m) v p e)) e
  where
    one : (m : ℕ) (v p : List ℕ) → HasLengths after (fs ++ f ∷ []) → slice_get (x ∷ (fs ++ f ∷ [])) m ≡ Some (prefixed v p) → list_any (nat_eq (length p)) after ≡ true
    one zero v p rest e = or_other (is_length (length p) f) (list_any (nat_eq (length p)) before) (list_any (nat_eq (length p)) after) (h (length p)) (long zero v p e)
    one (suc m) v p rest e = rest m v p e

-- Lists.

pub append_none : (xs : List ℕ) → xs ++ [] ≡ xs
append_none [] = refl
append_none (x ∷ xs) = ap (λ (ys : List ℕ). x ∷ ys) (append_none xs)

pub split_at : (xs : List ℕ) (i : ℕ) → take i xs ++ drop i xs ≡ xs
split_at [] zero = refl
split_at [] (suc i) = refl
split_at (x ∷ xs) zero = refl
split_at (x ∷ xs) (suc i) = ap (λ (ys : List ℕ). x ∷ ys) (split_at xs i)

-- The last forms with a prefix.

giving_end : (table : List Entry) (forms : List Brought) (name front last : List ℕ) (n : ℕ) → last_giving table forms name last ≡ Some n → last_giving table forms name (front ++ last) ≡ Some n
giving_end table forms name [] last n e = e
giving_end table forms name (x ∷ front) last n e = ap (λ (o : Option ℕ). or_else o (cond (gives table forms name x) (Some x) None)) (giving_end table forms name front last n e)

pub next_last : (table : List Entry) (forms : List Brought) (name prefix numbers last : List ℕ) (o : Option ℕ) → numbers ≡ numbers_where 0 (has_prefix prefix) forms → EndsIn numbers last → o ≡ last_giving table forms name last → IfSome o (λ n. IsNext table forms name prefix None (Some n))
next_last table forms name prefix numbers last None is ends e = tt
next_last table forms name prefix numbers last (Some n) is ends e =
    let all = ap (last_giving table forms name) (sym is ∙ ends.1) ∙ giving_end table forms name ends.0 last n (sym e) in
    record {
      gives_word = λ h. subst (λ (o : Option ℕ). GivesBest table forms name o) (sym e) (last_gives table forms name last);
      keeps = λ m h. absurd h;
      covers = λ m v at g. subst (λ (o : Option ℕ). AtMost m o) all (all_covered table forms name (has_prefix prefix) m (prefixed v prefix) at ((bytes_eq-Decides prefix prefix).1 refl) (sym (ap (λ (o : Option Brought). is_some (word_by table name o)) at) ∙ g));
    }

pub next_later : (table : List Entry) (forms : List Brought) (name prefix : List ℕ) (best : Option ℕ) (n : ℕ) → IsNext table forms name prefix None (Some n) → IsNext table forms name prefix best (later best (Some n))
next_later table forms name prefix best n i =
    record {
      gives_word = λ h. later_gives table forms name best (Some n) h (i.gives_word tt);
      keeps = λ m h. later_first m best (Some n) h;
      covers = λ m v e g. later_second m best (Some n) (i.covers m v e g);
    }

-- What stands behind a prefix, where no name is so long.

pub none_give : (table : List Entry) (forms : List Brought) (name prefix : List ℕ) (best : Option ℕ) (b : Bool) → b ≡ false → ((v : List ℕ) → b ≡ false → is_some (given_by table name (prefixed v prefix)) ≡ false) → IsNext table forms name prefix best best
none_give table forms name prefix best b e none =
    record {
      gives_word = λ h. h;
      keeps = λ m h. h;
      covers = λ m v at g. absurd (true≢false (sym (sym (ap (λ (o : Option Brought). is_some (word_by table name o)) at) ∙ g) ∙ none v e));
    }

pub long_behind : (table : List Entry) (name prefix v : List ℕ) (longest : ℕ) → ((u q : List ℕ) → longest < length q → word_held table u q ≡ None) → longest + length prefix + 1 < length name → is_some (given_by table name (prefixed v prefix)) ≡ false
long_behind table name prefix v longest none long = one (starts_with nat_eq name (prefix ++ codes ":"))
  where
    one : (b : Bool) → is_some (cond b (word_held table v (drop (length prefix + 1) name)) None) ≡ false
    one true =
        let rest = length-drop (length prefix + 1) name in
        ap is_some (none v (drop (length prefix + 1) name) (omega (arith, rest, long)))
    one false = refl
