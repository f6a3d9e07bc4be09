-- Late entries: words, whether one is defined, and the first one, by their vocabularies.
use Rattle.std.proofs.Common.{◌≡◌, ℕ, zero, suc, ◌+◌, ◌<◌, ◌≤◌, Bool, true, false, cond, not, ◌||◌, ◌&&◌, List, [], ◌∷◌, ◌++◌, length, drop, take, Option, Some, None, refl, sym, ap, ◌∙◌, subst, arith, true≢false, String}
use Rattle.std.specs.Prelude.{nat_lt, slice_get, if◌then◌else◌}
use Rattle.std.specs.Option.{option_map}
use Rattle.std.specs.Str.{bytes_eq}
use Rattle.std.proofs.lemmas.Bool.{le-ltb, lt-ltb, ltb-false, ltb-true}
use Rattle.std.proofs.lemmas.Slice.Eq.{bytes_eq-Decides}
use Rattle.indexmap.specs.IndexMap.{IndexMap}
use Rattle.fac_vocab.specs.declared.few.TheConstants.{FEW}
use Rattle.fac_vocab.specs.Scopes.{Entry, companion, held, or_else, same_table}
use Rattle.fac_vocab.specs.ScopeCalls.{names_differ}
use Rattle.fac_vocab.specs.inner.Rows.{numbers_named, with_some, entries_at, word_if, word_among, defined_if, defined_among, first_among, number_if, defined_at}
use Rattle.fac_vocab.specs.inner.Late.{late_numbers, number_where, number_by, entry_word, numbered_word, entry_defined, numbered_defined, earlier, LateWhere}
use Rattle.fac_vocab.proofs.TextLemmas.{bytes_eq-swap, false_by, same_by, both_true, same_end}
use Rattle.fac_vocab.proofs.RowLemmas.{entry_behind, word_of_name, rows_named}
use Rattle.fac_vocab.proofs.TableLemmas.{numbers_push, numbers_defined}
use Rattle.fac_vocab.proofs.LatestLemmas.{split_at}
use Rattle.fac_vocab.proofs.UsedLemmas.{none_of, apart, rows_apart}

none_some : {X : Type 0} {x : X} → None ≡ Some x → ⊥
none_some g = cc

not_false : (b : Bool) → not b ≡ true → b ≡ false
not_false true h = absurd (true≢false (sym h))
not_false false h = refl

or_none : (o : Option ℕ) → or_else o None ≡ o
or_none None = refl
or_none (Some n) = refl

-- Tests of vocabularies.

pub test_alike : (p q : List ℕ → Bool) → ((w : List ℕ) → p w ≡ q w) → (t : List Entry) (ns : List ℕ) → number_by p t ns ≡ number_by q t ns
test_alike p q h t [] = refl
test_alike p q h t (n ∷ ns) = one (slice_get t n) (test_alike p q h t ns)
  where
    one : (o : Option Entry) → number_by p t ns ≡ number_by q t ns → or_else (number_where p n o) (number_by p t ns) ≡ or_else (number_where q n o) (number_by q t ns)
    one None ih = ih
    one (Some e) ih = ap (λ (b : Bool). or_else (cond b (Some n) None) (number_by p t ns)) (h e.vocab) ∙ ap (or_else (cond (q e.vocab) (Some n) None)) ih

none_by : (p : List ℕ → Bool) → ((w : List ℕ) → p w ≡ false) → (t : List Entry) (ns : List ℕ) → number_by p t ns ≡ None
none_by p h t [] = refl
none_by p h t (n ∷ ns) = one (slice_get t n) (none_by p h t ns)
  where
    one : (o : Option Entry) → number_by p t ns ≡ None → or_else (number_where p n o) (number_by p t ns) ≡ None
    one None ih = ih
    one (Some e) ih = ap (λ (b : Bool). or_else (cond b (Some n) None) (number_by p t ns)) (h e.vocab) ∙ ih

companion_alike : (s w : List ℕ) → bytes_eq s w ≡ bytes_eq (companion s) (companion w)
companion_alike s w =
    same_by (bytes_eq s w) (bytes_eq (companion s) (companion w))
    (λ e. (bytes_eq-Decides (companion s) (companion w)).1 (ap companion ((bytes_eq-Decides s w).0 e)))
    (λ e. (bytes_eq-Decides s w).1 (same_end s w ((bytes_eq-Decides (companion s) (companion w)).0 e)))

-- the vocabulary of a companion, and what is none
pub stem_number : (vocab stem : List ℕ) → vocab ≡ companion stem → (t : List Entry) (ns : List ℕ) → number_by (bytes_eq stem) t ns ≡ number_by (λ w. bytes_eq vocab (companion w)) t ns
stem_number vocab stem e t ns =
    test_alike (bytes_eq stem) (λ w. bytes_eq vocab (companion w)) (λ w. companion_alike stem w ∙ ap (λ (v : List ℕ). bytes_eq v (companion w)) (sym e)) t ns

pub no_stem : (vocab : List ℕ) → ((s : List ℕ) → vocab ≡ companion s → ⊥) → (t : List Entry) (ns : List ℕ) → None ≡ number_by (λ w. bytes_eq vocab (companion w)) t ns
no_stem vocab h t ns = sym (none_by (λ w. bytes_eq vocab (companion w)) (λ w. false_by (bytes_eq vocab (companion w)) (λ e. h w ((bytes_eq-Decides vocab (companion w)).0 e))) t ns)

-- a companion of a vocabulary is kept under it
pub companion_there : (vocab stem v : List ℕ) → vocab ≡ companion stem → bytes_eq stem v ≡ bytes_eq vocab (companion v)
companion_there vocab stem v e = companion_alike stem v ∙ ap (λ (w : List ℕ). bytes_eq w (companion v)) (sym e)

pub companion_none : (vocab v : List ℕ) → ((s : List ℕ) → vocab ≡ companion s → ⊥) → bytes_eq vocab (companion v) ≡ false
companion_none vocab v h = false_by (bytes_eq vocab (companion v)) (λ e. h v ((bytes_eq-Decides vocab (companion v)).0 e))

-- The first few, and those behind them.

or_assoc : (a b c : Option ℕ) → or_else a (or_else b c) ≡ or_else (or_else a b) c
or_assoc None b c = refl
or_assoc (Some n) b c = refl

word_append : (t : List Entry) (v xs ys : List ℕ) → word_among t v (xs ++ ys) ≡ or_else (word_among t v xs) (word_among t v ys)
word_append t v [] ys = refl
word_append t v (n ∷ xs) ys = ap (or_else (word_if v (slice_get t n))) (word_append t v xs ys) ∙ or_assoc (word_if v (slice_get t n)) (word_among t v xs) (word_among t v ys)

pub words_by : (t : List Entry) (v ns : List ℕ) → word_among t v ns ≡ numbered_word t (number_by (bytes_eq v) t ns)
words_by t v [] = refl
words_by t v (n ∷ ns) = one (slice_get t n) refl (words_by t v ns)
  where
    two : (b : Bool) (e : Entry) → slice_get t n ≡ Some e → word_among t v ns ≡ numbered_word t (number_by (bytes_eq v) t ns) → or_else (cond b (Some e.word) None) (word_among t v ns) ≡ numbered_word t (or_else (cond b (Some n) None) (number_by (bytes_eq v) t ns))
    two true e at ih = sym (ap entry_word at)
    two false e at ih = ih

    one : (o : Option Entry) → slice_get t n ≡ o → word_among t v ns ≡ numbered_word t (number_by (bytes_eq v) t ns) → or_else (word_if v o) (word_among t v ns) ≡ numbered_word t (or_else (number_where (bytes_eq v) n o) (number_by (bytes_eq v) t ns))
    one None at ih = ih
    one (Some e) at ih = two (bytes_eq v e.vocab) e at ih

word_split : (t : List Entry) (v ns : List ℕ) → word_among t v ns ≡ or_else (word_among t v (take FEW ns)) (numbered_word t (number_by (bytes_eq v) t (drop FEW ns)))
word_split t v ns =
    ap (word_among t v) (sym (split_at ns FEW))
    ∙ word_append t v (take FEW ns) (drop FEW ns)
    ∙ ap (or_else (word_among t v (take FEW ns))) (words_by t v (drop FEW ns))

pub word_first : (t : List Entry) (v ns : List ℕ) (w : ℕ) → Some w ≡ word_among t v (take FEW ns) → Some w ≡ word_among t v ns
word_first t v ns w e = sym (word_split t v ns ∙ ap (λ (o : Option ℕ). or_else o (numbered_word t (number_by (bytes_eq v) t (drop FEW ns)))) (sym e))

pub word_late : (t : List Entry) (v ns : List ℕ) (r a : Option ℕ) → None ≡ word_among t v (take FEW ns) → a ≡ number_by (bytes_eq v) t (drop FEW ns) → r ≡ numbered_word t a → r ≡ word_among t v ns
word_late t v ns r a e kept is =
    is ∙ ap (numbered_word t) kept ∙ sym (word_split t v ns ∙ ap (λ (o : Option ℕ). or_else o (numbered_word t (number_by (bytes_eq v) t (drop FEW ns)))) (sym e))

first_append : (t : List Entry) (v xs ys : List ℕ) → first_among t v (xs ++ ys) ≡ or_else (first_among t v xs) (first_among t v ys)
first_append t v [] ys = refl
first_append t v (n ∷ xs) ys = ap (or_else (number_if v n (slice_get t n))) (first_append t v xs ys) ∙ or_assoc (number_if v n (slice_get t n)) (first_among t v xs) (first_among t v ys)

first_by : (t : List Entry) (v ns : List ℕ) → first_among t v ns ≡ number_by (same_table v) t ns
first_by t v [] = refl
first_by t v (n ∷ ns) = one (slice_get t n) (first_by t v ns)
  where
    one : (o : Option Entry) → first_among t v ns ≡ number_by (same_table v) t ns → or_else (number_if v n o) (first_among t v ns) ≡ or_else (number_where (same_table v) n o) (number_by (same_table v) t ns)
    one None ih = ih
    one (Some e) ih = ap (or_else (cond (same_table v e.vocab) (Some n) None)) ih

-- Numbers that rise.

abbrev pub rising : ℕ → List ℕ → Bool
rising k [] = true
rising k (n ∷ ns) = not (nat_lt n k) && rising (n + 1) ns

not_below : (k n : ℕ) → not (nat_lt n k) ≡ true → k ≤ n
not_below k n h = ltb-false n k (not_false (nat_lt n k) h)

at_least : (k n : ℕ) → k ≤ n → not (nat_lt n k) ≡ true
at_least k n h = ap not (le-ltb n k h)

rising_lower : (j k : ℕ) (ns : List ℕ) → j ≤ k → rising k ns ≡ true → rising j ns ≡ true
rising_lower j k [] l h = refl
rising_lower j k (n ∷ ns) l h =
    let both = both_true (not (nat_lt n k)) (rising (n + 1) ns) h in
    let higher = not_below k n both.0 in
    ap (λ (b : Bool). b && rising (n + 1) ns) (at_least j n (omega (arith, l, higher))) ∙ both.1

named_rising : (k : ℕ) (q : List ℕ) (es : List Entry) → rising k (numbers_named k q es) ≡ true
named_rising k q [] = refl
named_rising k q (e ∷ es) = one (bytes_eq q e.name) (named_rising (k + 1) q es)
  where
    one : (b : Bool) → rising (k + 1) (numbers_named (k + 1) q es) ≡ true → rising k (cond b (k ∷ numbers_named (k + 1) q es) (numbers_named (k + 1) q es)) ≡ true
    one true ih = ap (λ (b : Bool). b && rising (k + 1) (numbers_named (k + 1) q es)) (at_least k k (omega arith)) ∙ ih
    one false ih = rising_lower k (k + 1) (numbers_named (k + 1) q es) (omega arith) ih

drop_rising : (i k : ℕ) (ns : List ℕ) → rising k ns ≡ true → rising k (drop i ns) ≡ true
drop_rising zero k ns h = h
drop_rising (suc i) k [] h = refl
drop_rising (suc i) k (n ∷ ns) h =
    let both = both_true (not (nat_lt n k)) (rising (n + 1) ns) h in
    let higher = not_below k n both.0 in
    rising_lower k (n + 1) (drop i ns) (omega (arith, higher)) (drop_rising i (n + 1) ns both.1)

late_rising : (q : List ℕ) (t : List Entry) → rising 0 (late_numbers q t) ≡ true
late_rising q t = drop_rising FEW 0 (numbers_named 0 q t) (named_rising 0 q t)

-- The first of the numbers that pass one of two tests.

abbrev NotBelow : ℕ → Option ℕ → Type 0
NotBelow k None = Unit {0}
NotBelow k (Some b) = k ≤ b

by_not_below : (p : List ℕ → Bool) (t : List Entry) (k : ℕ) (ns : List ℕ) → rising k ns ≡ true → NotBelow k (number_by p t ns)
by_not_below p t k [] h = tt
by_not_below p t k (n ∷ ns) h =
    let both = both_true (not (nat_lt n k)) (rising (n + 1) ns) h in
    one (slice_get t n) (not_below k n both.0) (by_not_below p t (n + 1) ns both.1)
  where
    lower : (o : Option ℕ) → k ≤ n → NotBelow (n + 1) o → NotBelow k o
    lower None l h = tt
    lower (Some b) l h = omega (arith, l, h)

    two : (b : Bool) (o : Option ℕ) → k ≤ n → NotBelow (n + 1) o → NotBelow k (or_else (cond b (Some n) None) o)
    two true o l h = l
    two false o l h = lower o l h

    one : (o : Option Entry) → k ≤ n → NotBelow (n + 1) (number_by p t ns) → NotBelow k (or_else (number_where p n o) (number_by p t ns))
    one None l h = lower (number_by p t ns) l h
    one (Some e) l h = two (p e.vocab) (number_by p t ns) l h

earlier_here : (n : ℕ) (b c : Bool) (x y z : Option ℕ) → NotBelow (n + 1) x → NotBelow (n + 1) y → z ≡ earlier x y → or_else (cond (b || c) (Some n) None) z ≡ earlier (or_else (cond b (Some n) None) x) (or_else (cond c (Some n) None) y)
earlier_here n true true x y z f g h = one (nat_lt n n)
  where
    one : (b : Bool) → Some n ≡ cond b (Some n) (Some n)
    one true = refl
    one false = refl
earlier_here n true false x None z f g h = refl
earlier_here n true false x (Some b) z f g h = sym (ap (λ (c : Bool). cond c (Some b) (Some n)) (le-ltb b n (omega (arith, g))))
earlier_here n false true None y z f g h = refl
earlier_here n false true (Some a) y z f g h = sym (ap (λ (c : Bool). cond c (Some n) (Some a)) (lt-ltb n a (omega (arith, f))))
earlier_here n false false x y z f g h = h

either_first : (p q : List ℕ → Bool) (t : List Entry) (k : ℕ) (ns : List ℕ) → rising k ns ≡ true → number_by (λ w. p w || q w) t ns ≡ earlier (number_by p t ns) (number_by q t ns)
either_first p q t k [] h = refl
either_first p q t k (n ∷ ns) h =
    let both = both_true (not (nat_lt n k)) (rising (n + 1) ns) h in
    one (slice_get t n) (by_not_below p t (n + 1) ns both.1) (by_not_below q t (n + 1) ns both.1) (either_first p q t (n + 1) ns both.1)
  where
    one : (o : Option Entry) → NotBelow (n + 1) (number_by p t ns) → NotBelow (n + 1) (number_by q t ns) → number_by (λ w. p w || q w) t ns ≡ earlier (number_by p t ns) (number_by q t ns) →
        or_else (number_where (λ w. p w || q w) n o) (number_by (λ w. p w || q w) t ns) ≡ earlier (or_else (number_where p n o) (number_by p t ns)) (or_else (number_where q n o) (number_by q t ns))
    one None f g ih = ih
    one (Some e) f g ih = earlier_here n (p e.vocab) (q e.vocab) (number_by p t ns) (number_by q t ns) (number_by (λ w. p w || q w) t ns) f g ih

first_three : (t : List Entry) (v q : List ℕ) → first_among t v (late_numbers q t) ≡ earlier (earlier (number_by (bytes_eq v) t (late_numbers q t)) (number_by (λ w. bytes_eq v (companion w)) t (late_numbers q t))) (number_by (bytes_eq (companion v)) t (late_numbers q t))
first_three t v q =
    let ns = late_numbers q t in
    let up = late_rising q t in
    first_by t v ns
    ∙ either_first (λ w. bytes_eq v w || bytes_eq v (companion w)) (λ w. bytes_eq w (companion v)) t 0 ns up
    ∙ ap (λ (o : Option ℕ). earlier o (number_by (λ w. bytes_eq w (companion v)) t ns)) (either_first (bytes_eq v) (λ w. bytes_eq v (companion w)) t 0 ns up)
    ∙ ap (earlier (earlier (number_by (bytes_eq v) t ns) (number_by (λ w. bytes_eq v (companion w)) t ns))) (test_alike (λ w. bytes_eq w (companion v)) (bytes_eq (companion v)) (λ w. bytes_eq-swap w (companion v)) t ns)

first_split : (t : List Entry) (v ns : List ℕ) → first_among t v ns ≡ or_else (first_among t v (take FEW ns)) (first_among t v (drop FEW ns))
first_split t v ns = ap (first_among t v) (sym (split_at ns FEW)) ∙ first_append t v (take FEW ns) (drop FEW ns)

pub holder_first : (t : List Entry) (v ns : List ℕ) (n : ℕ) → Some n ≡ first_among t v (take FEW ns) → Some n ≡ first_among t v ns
holder_first t v ns n e = sym (first_split t v ns ∙ ap (λ (o : Option ℕ). or_else o (first_among t v (drop FEW ns))) (sym e))

pub holder_late : (t : List Entry) (v q : List ℕ) (r a b c : Option ℕ) → None ≡ first_among t v (take FEW (numbers_named 0 q t)) → a ≡ number_by (bytes_eq v) t (late_numbers q t) → b ≡ number_by (λ w. bytes_eq v (companion w)) t (late_numbers q t) → c ≡ number_by (bytes_eq (companion v)) t (late_numbers q t) →
    r ≡ earlier (earlier a b) c → r ≡ first_among t v (numbers_named 0 q t)
holder_late t v q r a b c e own stem private is =
    is
    ∙ ap (λ (o : Option ℕ). earlier (earlier o b) c) own
    ∙ ap (λ (o : Option ℕ). earlier (earlier (number_by (bytes_eq v) t (late_numbers q t)) o) c) stem
    ∙ ap (earlier (earlier (number_by (bytes_eq v) t (late_numbers q t)) (number_by (λ w. bytes_eq v (companion w)) t (late_numbers q t)))) private
    ∙ sym (first_split t v (numbers_named 0 q t) ∙ ap (λ (o : Option ℕ). or_else o (first_among t v (late_numbers q t))) (sym e) ∙ first_three t v q)

-- Whether an entry is defined.

abbrev defined_where : (List ℕ → Bool) → Option Entry → Bool
defined_where p None = false
defined_where p (Some e) = p e.vocab && e.is_defined

abbrev defined_by : (List ℕ → Bool) → List Entry → List ℕ → Bool
defined_by p t [] = false
defined_by p t (n ∷ ns) = defined_where p (slice_get t n) || defined_by p t ns

bool_assoc : (a b c : Bool) → (a || (b || c)) ≡ ((a || b) || c)
bool_assoc true b c = refl
bool_assoc false b c = refl

defined_append : (t : List Entry) (v xs ys : List ℕ) → defined_among t v (xs ++ ys) ≡ (defined_among t v xs || defined_among t v ys)
defined_append t v [] ys = refl
defined_append t v (n ∷ xs) ys = ap (λ (b : Bool). defined_if v (slice_get t n) || b) (defined_append t v xs ys) ∙ bool_assoc (defined_if v (slice_get t n)) (defined_among t v xs) (defined_among t v ys)

defined_is : (t : List Entry) (v ns : List ℕ) → defined_among t v ns ≡ defined_by (same_table v) t ns
defined_is t v [] = refl
defined_is t v (n ∷ ns) = one (slice_get t n) (defined_is t v ns)
  where
    one : (o : Option Entry) → defined_among t v ns ≡ defined_by (same_table v) t ns → (defined_if v o || defined_among t v ns) ≡ (defined_where (same_table v) o || defined_by (same_table v) t ns)
    one None ih = ih
    one (Some e) ih = ap (λ (b : Bool). (same_table v e.vocab && e.is_defined) || b) ih

defined_alike : (p q : List ℕ → Bool) → ((w : List ℕ) → p w ≡ q w) → (t : List Entry) (ns : List ℕ) → defined_by p t ns ≡ defined_by q t ns
defined_alike p q h t [] = refl
defined_alike p q h t (n ∷ ns) = one (slice_get t n) (defined_alike p q h t ns)
  where
    one : (o : Option Entry) → defined_by p t ns ≡ defined_by q t ns → (defined_where p o || defined_by p t ns) ≡ (defined_where q o || defined_by q t ns)
    one None ih = ih
    one (Some e) ih = ap (λ (b : Bool). (b && e.is_defined) || defined_by p t ns) (h e.vocab) ∙ ap (λ (b : Bool). (q e.vocab && e.is_defined) || b) ih

either_here : (b c d x y z : Bool) → z ≡ (x || y) → (((b || c) && d) || z) ≡ (((b && d) || x) || ((c && d) || y))
either_here true c true x y z h = refl
either_here true true false x y z h = h
either_here true false false x y z h = h
either_here false true true true y z h = refl
either_here false true true false y z h = refl
either_here false true false x y z h = h
either_here false false d x y z h = h

either_defined : (p q : List ℕ → Bool) (t : List Entry) (ns : List ℕ) → defined_by (λ w. p w || q w) t ns ≡ (defined_by p t ns || defined_by q t ns)
either_defined p q t [] = refl
either_defined p q t (n ∷ ns) = one (slice_get t n) (either_defined p q t ns)
  where
    one : (o : Option Entry) → defined_by (λ w. p w || q w) t ns ≡ (defined_by p t ns || defined_by q t ns) → (defined_where (λ w. p w || q w) o || defined_by (λ w. p w || q w) t ns) ≡ ((defined_where p o || defined_by p t ns) || (defined_where q o || defined_by q t ns))
    one None ih = ih
    one (Some e) ih = either_here (p e.vocab) (q e.vocab) e.is_defined (defined_by p t ns) (defined_by q t ns) (defined_by (λ w. p w || q w) t ns) ih

abbrev OfOne : (List ℕ → Bool) → Type 0
OfOne p = (v w : List ℕ) → p v ≡ true → p w ≡ true → v ≡ w

no_other : (p : List ℕ → Bool) → OfOne p → (v : List ℕ) → p v ≡ true → (t : List Entry) (ns : List ℕ) → none_of v (entries_at t ns) ≡ true → defined_by p t ns ≡ false
no_other p h v g t [] none = refl
no_other p h v g t (n ∷ ns) none = one (slice_get t n) none (no_other p h v g t ns)
  where
    one : (o : Option Entry) → none_of v (with_some o (entries_at t ns)) ≡ true → (none_of v (entries_at t ns) ≡ true → defined_by p t ns ≡ false) → (defined_where p o || defined_by p t ns) ≡ false
    one None k ih = ih k
    one (Some e) k ih =
        let both = both_true (not (bytes_eq v e.vocab)) (none_of v (entries_at t ns)) k in
        let other : p e.vocab ≡ false = false_by (p e.vocab) (λ i. true≢false (sym ((bytes_eq-Decides v e.vocab).1 (h v e.vocab g i)) ∙ not_false (bytes_eq v e.vocab) both.0)) in
        ap (λ (b : Bool). (b && e.is_defined) || defined_by p t ns) other ∙ ih both.1

bool_none : (b : Bool) → (b || false) ≡ b
bool_none true = refl
bool_none false = refl

defined_first : (p : List ℕ → Bool) → OfOne p → (t : List Entry) (ns : List ℕ) → apart (entries_at t ns) ≡ true → defined_by p t ns ≡ numbered_defined t (number_by p t ns)
defined_first p h t [] once = refl
defined_first p h t (n ∷ ns) once = one (slice_get t n) refl once (defined_first p h t ns)
  where
    two : (b : Bool) (e : Entry) → p e.vocab ≡ b → slice_get t n ≡ Some e → none_of e.vocab (entries_at t ns) ≡ true → defined_by p t ns ≡ numbered_defined t (number_by p t ns) →
        ((b && e.is_defined) || defined_by p t ns) ≡ numbered_defined t (or_else (cond b (Some n) None) (number_by p t ns))
    two true e g at none ih = ap (λ (c : Bool). e.is_defined || c) (no_other p h e.vocab g t ns none) ∙ bool_none e.is_defined ∙ sym (ap entry_defined at)
    two false e g at none ih = ih

    one : (o : Option Entry) → slice_get t n ≡ o → apart (with_some o (entries_at t ns)) ≡ true → (apart (entries_at t ns) ≡ true → defined_by p t ns ≡ numbered_defined t (number_by p t ns)) →
        (defined_where p o || defined_by p t ns) ≡ numbered_defined t (or_else (number_where p n o) (number_by p t ns))
    one None at k ih = ih k
    one (Some e) at k ih = let both = both_true (none_of e.vocab (entries_at t ns)) (apart (entries_at t ns)) k in two (p e.vocab) e refl at both.0 (ih both.1)

apart_drop : (i : ℕ) (t : List Entry) (ns : List ℕ) → apart (entries_at t ns) ≡ true → apart (entries_at t (drop i ns)) ≡ true
apart_drop zero t ns h = h
apart_drop (suc i) t [] h = refl
apart_drop (suc i) t (n ∷ ns) h = one (slice_get t n) h (apart_drop i t ns)
  where
    one : (o : Option Entry) → apart (with_some o (entries_at t ns)) ≡ true → (apart (entries_at t ns) ≡ true → apart (entries_at t (drop i ns)) ≡ true) → apart (entries_at t (drop i ns)) ≡ true
    one None k ih = ih k
    one (Some e) k ih = ih (both_true (none_of e.vocab (entries_at t ns)) (apart (entries_at t ns)) k).1

pub late_apart : (t : List Entry) (q : List ℕ) → names_differ t ≡ true → apart (entries_at t (late_numbers q t)) ≡ true
late_apart t q h = apart_drop FEW t (numbers_named 0 q t) (ap apart (rows_named t q) ∙ rows_apart t q h)

own_one : (v : List ℕ) → OfOne (bytes_eq v)
own_one v x y p q = sym ((bytes_eq-Decides v x).0 p) ∙ (bytes_eq-Decides v y).0 q

stem_one : (v : List ℕ) → OfOne (λ w. bytes_eq v (companion w))
stem_one v x y p q = same_end x y (sym ((bytes_eq-Decides v (companion x)).0 p) ∙ (bytes_eq-Decides v (companion y)).0 q)

defined_three : (t : List Entry) (v q : List ℕ) → names_differ t ≡ true → defined_among t v (late_numbers q t) ≡
    ((numbered_defined t (number_by (bytes_eq v) t (late_numbers q t)) || numbered_defined t (number_by (λ w. bytes_eq v (companion w)) t (late_numbers q t))) || numbered_defined t (number_by (bytes_eq (companion v)) t (late_numbers q t)))
defined_three t v q once =
    let ns = late_numbers q t in
    let rows = late_apart t q once in
    defined_is t v ns
    ∙ either_defined (λ w. bytes_eq v w || bytes_eq v (companion w)) (λ w. bytes_eq w (companion v)) t ns
    ∙ ap (λ (b : Bool). b || defined_by (λ w. bytes_eq w (companion v)) t ns) (either_defined (bytes_eq v) (λ w. bytes_eq v (companion w)) t ns)
    ∙ ap (λ (b : Bool). (defined_by (bytes_eq v) t ns || defined_by (λ w. bytes_eq v (companion w)) t ns) || b) (defined_alike (λ w. bytes_eq w (companion v)) (bytes_eq (companion v)) (λ w. bytes_eq-swap w (companion v)) t ns ∙ defined_first (bytes_eq (companion v)) (own_one (companion v)) t ns rows)
    ∙ ap (λ (b : Bool). (b || defined_by (λ w. bytes_eq v (companion w)) t ns) || numbered_defined t (number_by (bytes_eq (companion v)) t ns)) (defined_first (bytes_eq v) (own_one v) t ns rows)
    ∙ ap (λ (b : Bool). (numbered_defined t (number_by (bytes_eq v) t ns) || b) || numbered_defined t (number_by (bytes_eq (companion v)) t ns)) (defined_first (λ w. bytes_eq v (companion w)) (stem_one v) t ns rows)

defined_split : (t : List Entry) (v ns : List ℕ) → defined_among t v ns ≡ (defined_among t v (take FEW ns) || defined_among t v (drop FEW ns))
defined_split t v ns = ap (defined_among t v) (sym (split_at ns FEW)) ∙ defined_append t v (take FEW ns) (drop FEW ns)

pub is_defined_first : (t : List Entry) (v ns : List ℕ) → defined_among t v (take FEW ns) ≡ true → true ≡ defined_among t v ns
is_defined_first t v ns e = sym (defined_split t v ns ∙ ap (λ (b : Bool). b || defined_among t v (drop FEW ns)) e)

pub is_defined_late : (t : List Entry) (v q : List ℕ) (r : Bool) (a b c : Option ℕ) → names_differ t ≡ true → defined_among t v (take FEW (numbers_named 0 q t)) ≡ false → a ≡ number_by (bytes_eq v) t (late_numbers q t) → b ≡ number_by (λ w. bytes_eq v (companion w)) t (late_numbers q t) → c ≡ number_by (bytes_eq (companion v)) t (late_numbers q t) →
    r ≡ ((numbered_defined t a || numbered_defined t b) || numbered_defined t c) → r ≡ defined_among t v (numbers_named 0 q t)
is_defined_late t v q r a b c once e own stem private is =
    is
    ∙ ap (λ (o : Option ℕ). (numbered_defined t o || numbered_defined t b) || numbered_defined t c) own
    ∙ ap (λ (o : Option ℕ). (numbered_defined t (number_by (bytes_eq v) t (late_numbers q t)) || numbered_defined t o) || numbered_defined t c) stem
    ∙ ap (λ (o : Option ℕ). (numbered_defined t (number_by (bytes_eq v) t (late_numbers q t)) || numbered_defined t (number_by (λ w. bytes_eq v (companion w)) t (late_numbers q t))) || numbered_defined t o) private
    ∙ sym (defined_split t v (numbers_named 0 q t) ∙ ap (λ (d : Bool). d || defined_among t v (late_numbers q t)) e ∙ defined_three t v q once)

-- An entry more.

pub get_front : (es : List Entry) (e : Entry) (n : ℕ) → n < length es → slice_get (es ++ e ∷ []) n ≡ slice_get es n
get_front [] e n l = absurd (omega (arith, l))
get_front (x ∷ es) e zero l = refl
get_front (x ∷ es) e (suc n) l = get_front es e n (omega (arith, l))

abbrev pub within : ℕ → List ℕ → Bool
within m [] = true
within m (n ∷ ns) = nat_lt n m && within m ns

named_within : (k m : ℕ) (q : List ℕ) (es : List Entry) → m ≡ k + length es → within m (numbers_named k q es) ≡ true
named_within k m q [] h = refl
named_within k m q (e ∷ es) h = one (bytes_eq q e.name) (named_within (k + 1) m q es (omega (arith, h)))
  where
    one : (b : Bool) → within m (numbers_named (k + 1) q es) ≡ true → within m (cond b (k ∷ numbers_named (k + 1) q es) (numbers_named (k + 1) q es)) ≡ true
    one true ih = ap (λ (b : Bool). b && within m (numbers_named (k + 1) q es)) (lt-ltb k m (omega (arith, h))) ∙ ih
    one false ih = ih

drop_within : (i m : ℕ) (ns : List ℕ) → within m ns ≡ true → within m (drop i ns) ≡ true
drop_within zero m ns h = h
drop_within (suc i) m [] h = refl
drop_within (suc i) m (n ∷ ns) h = drop_within i m ns (both_true (nat_lt n m) (within m ns) h).1

pub late_within : (q : List ℕ) (es : List Entry) → within (length es) (late_numbers q es) ≡ true
late_within q es = drop_within FEW (length es) (numbers_named 0 q es) (named_within 0 (length es) q es (let none : length es ≡ 0 + length es = omega arith in none))

older : (p : List ℕ → Bool) (es : List Entry) (e : Entry) (ns : List ℕ) → within (length es) ns ≡ true → number_by p (es ++ e ∷ []) ns ≡ number_by p es ns
older p es e [] h = refl
older p es e (n ∷ ns) h =
    let both = both_true (nat_lt n (length es)) (within (length es) ns) h in
    ap (λ (o : Option Entry). or_else (number_where p n o) (number_by p (es ++ e ∷ []) ns)) (get_front es e n (ltb-true n (length es) both.0)) ∙ ap (or_else (number_where p n (slice_get es n))) (older p es e ns both.1)

by_push : (p : List ℕ → Bool) (t : List Entry) (ns : List ℕ) (n : ℕ) → number_by p t (ns ++ n ∷ []) ≡ or_else (number_by p t ns) (number_where p n (slice_get t n))
by_push p t [] n = or_none (number_where p n (slice_get t n))
by_push p t (m ∷ ns) n = ap (or_else (number_where p m (slice_get t m))) (by_push p t ns n) ∙ or_assoc (number_where p m (slice_get t m)) (number_by p t ns) (number_where p n (slice_get t n))

pub drop_short : (i : ℕ) (ns : List ℕ) (n : ℕ) → length ns < i → drop i (ns ++ n ∷ []) ≡ drop i ns
drop_short zero ns n l = absurd (omega (arith, l))
drop_short (suc zero) [] n l = refl
drop_short (suc (suc i)) [] n l = refl
drop_short (suc i) (m ∷ ns) n l = drop_short i ns n (omega (arith, l))

pub drop_push : (i : ℕ) (ns : List ℕ) (n : ℕ) → i ≤ length ns → drop i (ns ++ n ∷ []) ≡ drop i ns ++ n ∷ []
drop_push zero ns n l = refl
drop_push (suc i) [] n l = absurd (omega (arith, l))
drop_push (suc i) (m ∷ ns) n l = drop_push i ns n (omega (arith, l))

-- the late numbers with an entry more
pub late_push : (es : List Entry) (e : Entry) (q : List ℕ) → late_numbers q (es ++ e ∷ []) ≡ (if bytes_eq e.name q then drop FEW (numbers_named 0 q es ++ (0 + length es) ∷ []) else late_numbers q es)
late_push es e q = ap (drop FEW) (numbers_push 0 q es e) ∙ one (bytes_eq e.name q)
  where
    one : (b : Bool) → drop FEW (cond b (numbers_named 0 q es ++ (0 + length es) ∷ []) (numbers_named 0 q es)) ≡ cond b (drop FEW (numbers_named 0 q es ++ (0 + length es) ∷ [])) (late_numbers q es)
    one true = refl
    one false = refl

-- where the name has few entries none is late
pub late_same : (p : List ℕ → Bool) (es : List Entry) (e : Entry) (q : List ℕ) (old : Option ℕ) → length (numbers_named 0 e.name es) < FEW → old ≡ number_by p es (late_numbers q es) → old ≡ number_by p (es ++ e ∷ []) (late_numbers q (es ++ e ∷ []))
late_same p es e q old few is =
    is
    ∙ sym (older p es e (late_numbers q es) (late_within q es))
    ∙ ap (number_by p (es ++ e ∷ [])) (one (bytes_eq e.name q) refl ∙ sym (late_push es e q))
  where
    one : (b : Bool) → bytes_eq e.name q ≡ b → late_numbers q es ≡ cond b (drop FEW (numbers_named 0 q es ++ (0 + length es) ∷ [])) (late_numbers q es)
    one true h =
        let same = (bytes_eq-Decides e.name q).0 h in
        sym (drop_short FEW (numbers_named 0 q es) (0 + length es) (subst (λ (n : List ℕ). length (numbers_named 0 n es) < FEW) same few))
    one false h = refl

word_none : (t : List Entry) (v ns : List ℕ) → word_among t v ns ≡ None → number_by (bytes_eq v) t ns ≡ None
word_none t v [] h = refl
word_none t v (n ∷ ns) h = one (slice_get t n) h (word_none t v ns)
  where
    two : (b : Bool) (e : Entry) → or_else (cond b (Some e.word) None) (word_among t v ns) ≡ None → (word_among t v ns ≡ None → number_by (bytes_eq v) t ns ≡ None) → or_else (cond b (Some n) None) (number_by (bytes_eq v) t ns) ≡ None
    two true e g ih = absurd (none_some (sym g))
    two false e g ih = ih g

    one : (o : Option Entry) → or_else (word_if v o) (word_among t v ns) ≡ None → (word_among t v ns ≡ None → number_by (bytes_eq v) t ns ≡ None) → or_else (number_where (bytes_eq v) n o) (number_by (bytes_eq v) t ns) ≡ None
    one None g ih = ih g
    one (Some e) g ih = two (bytes_eq v e.vocab) e g ih

second_none : (a b : Option ℕ) → or_else a b ≡ None → b ≡ None
second_none None b h = h
second_none (Some n) b h = absurd (none_some (sym h))

-- what isn't held isn't late
none_late : (es : List Entry) (v q : List ℕ) → held es v q ≡ None → number_by (bytes_eq v) es (late_numbers q es) ≡ None
none_late es v q h =
    word_none es v (late_numbers q es)
    (second_none (word_among es v (take FEW (numbers_named 0 q es))) (word_among es v (late_numbers q es))
    (sym (ap (word_among es v) (sym (split_at (numbers_named 0 q es) FEW)) ∙ word_append es v (take FEW (numbers_named 0 q es)) (late_numbers q es)) ∙ word_of_name es v q ∙ ap (option_map (λ (e : Entry). e.word)) h))

-- where it has more, the new one is late
pub late_more : (es : List Entry) (e : Entry) (w q : List ℕ) (n : ℕ) (old new : Option ℕ) → FEW ≤ length (numbers_named 0 e.name es) → n ≡ length es → held es e.vocab e.name ≡ None → old ≡ number_by (bytes_eq w) es (late_numbers q es) →
    new ≡ (if bytes_eq e.vocab w && bytes_eq e.name q then Some n else old) → new ≡ number_by (bytes_eq w) (es ++ e ∷ []) (late_numbers q (es ++ e ∷ []))
late_more es e w q n old new many counted none is put =
    put ∙ one (bytes_eq e.vocab w) (bytes_eq e.name q) refl refl ∙ sym (ap (number_by (bytes_eq w) (es ++ e ∷ [])) (late_push es e q))
  where
    all : List Entry
    all = es ++ e ∷ []

    no_more : old ≡ number_by (bytes_eq w) all (late_numbers q es)
    no_more = is ∙ sym (older (bytes_eq w) es e (late_numbers q es) (late_within q es))

    last : 0 + length es ≡ length es → slice_get all (0 + length es) ≡ Some e
    last h = ap (slice_get all) h ∙ entry_behind es [] e

    pushed : bytes_eq e.name q ≡ true → 0 + length es ≡ length es → number_by (bytes_eq w) all (drop FEW (numbers_named 0 q es ++ (0 + length es) ∷ [])) ≡ or_else old (cond (bytes_eq w e.vocab) (Some (0 + length es)) None)
    pushed h z =
        ap (number_by (bytes_eq w) all) (drop_push FEW (numbers_named 0 q es) (0 + length es) (subst (λ (m : List ℕ). FEW ≤ length (numbers_named 0 m es)) ((bytes_eq-Decides e.name q).0 h) many))
        ∙ by_push (bytes_eq w) all (late_numbers q es) (0 + length es)
        ∙ ap (λ (o : Option ℕ). or_else o (number_where (bytes_eq w) (0 + length es) (slice_get all (0 + length es)))) (sym no_more)
        ∙ ap (λ (o : Option Entry). or_else old (number_where (bytes_eq w) (0 + length es) o)) (last z)

    was_none : bytes_eq e.vocab w ≡ true → bytes_eq e.name q ≡ true → old ≡ None
    was_none f h = is ∙ ap (λ (v : List ℕ). number_by (bytes_eq v) es (late_numbers q es)) (sym ((bytes_eq-Decides e.vocab w).0 f)) ∙ ap (λ (m : List ℕ). number_by (bytes_eq e.vocab) es (late_numbers m es)) (sym ((bytes_eq-Decides e.name q).0 h)) ∙ none_late es e.vocab e.name none

    zero_more : 0 + length es ≡ length es
    zero_more = omega arith

    one : (b c : Bool) → bytes_eq e.vocab w ≡ b → bytes_eq e.name q ≡ c → cond (b && c) (Some n) old ≡ number_by (bytes_eq w) all (cond c (drop FEW (numbers_named 0 q es ++ (0 + length es) ∷ [])) (late_numbers q es))
    one true true f h =
        ap (λ (m : ℕ). Some m) (counted ∙ sym zero_more)
        ∙ ap (λ (o : Option ℕ). or_else o (Some (0 + length es))) (sym (was_none f h))
        ∙ ap (λ (b : Bool). or_else old (cond b (Some (0 + length es)) None)) (sym (bytes_eq-swap w e.vocab ∙ f))
        ∙ sym (pushed h zero_more)
    one false true f h = sym (or_none old) ∙ ap (λ (b : Bool). or_else old (cond b (Some (0 + length es)) None)) (sym (bytes_eq-swap w e.vocab ∙ f)) ∙ sym (pushed h zero_more)
    one true false f h = no_more
    one false false f h = no_more

-- An entry that is defined now.

where_defined : (p : List ℕ → Bool) (k n m : ℕ) (es : List Entry) → number_where p m (slice_get (defined_at k es) n) ≡ number_where p m (slice_get es n)
where_defined p k n m [] = refl
where_defined p zero zero m (e ∷ es) = refl
where_defined p zero (suc n) m (e ∷ es) = refl
where_defined p (suc k) zero m (e ∷ es) = refl
where_defined p (suc k) (suc n) m (e ∷ es) = where_defined p k n m es

by_defined : (p : List ℕ → Bool) (k : ℕ) (es : List Entry) (ns : List ℕ) → number_by p (defined_at k es) ns ≡ number_by p es ns
by_defined p k es [] = refl
by_defined p k es (n ∷ ns) = ap (λ (o : Option ℕ). or_else o (number_by p (defined_at k es) ns)) (where_defined p k n n es) ∙ ap (or_else (number_where p n (slice_get es n))) (by_defined p k es ns)

pub late_defined : (p : List ℕ → Bool) (k : ℕ) (es : List Entry) (q : List ℕ) → number_by p es (late_numbers q es) ≡ number_by p (defined_at k es) (late_numbers q (defined_at k es))
late_defined p k es q = sym (by_defined p k es (late_numbers q es)) ∙ ap (λ (ns : List ℕ). number_by p (defined_at k es) (drop FEW ns)) (sym (numbers_defined k 0 q es))

pub late_settled : {Y S T : Type 0} (b : Bool) (own private : IndexMap (String Y) (IndexMap (String Y) ℕ S) T) (es after : List Entry) (k : ℕ) → after ≡ defined_at k es → LateWhere b own private es → LateWhere b own private after
late_settled true own private es after k e h =
    record {
      owned = λ v q. h.owned v q ∙ late_defined (bytes_eq v) k es q ∙ ap (λ (t : List Entry). number_by (bytes_eq v) t (late_numbers q t)) (sym e);
      companions = λ v q. h.companions v q ∙ late_defined (bytes_eq (companion v)) k es q ∙ ap (λ (t : List Entry). number_by (bytes_eq (companion v)) t (late_numbers q t)) (sym e);
    }
late_settled false own private es after k e h = tt
