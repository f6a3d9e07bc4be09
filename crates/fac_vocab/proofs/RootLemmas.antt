-- Vocabularies by their roots.
use Rattle.std.proofs.Common.{◌≡◌, ℕ, zero, suc, ◌+◌, ◌<◌, ◌≤◌, Bool, true, false, cond, not, ◌||◌, List, [], ◌∷◌, ◌++◌, length, Option, Some, None, refl, sym, ap, ◌∙◌, subst, arith, length-append, true≢false, String}
use Rattle.std.specs.Prelude.{nat_eq, nat_lt, codes, if◌then◌else◌}
use Rattle.std.specs.Cmp.{unsigned_Decides}
use Rattle.std.specs.List.{list_any}
use Rattle.std.specs.Str.{bytes_eq}
use Rattle.std.proofs.lemmas.Bool.{ltb-false, ltb-true}
use Rattle.std.proofs.lemmas.Slice.Eq.{bytes_eq-Decides}
use Rattle.indexmap.specs.IndexMap.{IndexMap, get_by_text}
use Rattle.fac_vocab.specs.Scopes.{companion, is_companion_of, with_vocab}
use Rattle.fac_vocab.specs.inner.Roots.{root, reaches, least_length, AreRooted}
use Rattle.fac_vocab.proofs.TextLemmas.{false_by, same_by, both_true, Stem, itself, of_one, stem, stem_there, stem_longer, stem_shorter}

long : (s : List ℕ) → length (companion s) ≡ length s + 8
long s = length-append s (codes ".private")

not_empty : (s : List ℕ) → bytes_eq (companion s) [] ≡ false
not_empty [] = refl
not_empty (c ∷ s) = refl

nil_cons : (c : ℕ) (t : List ℕ) → c ∷ t ≡ [] → ⊥
nil_cons c t e = cc

-- Roots.

private_more : (s : List ℕ) → is_companion_of [] (companion s) ≡ is_companion_of [] s
private_more s = same_by (is_companion_of [] (companion s)) (is_companion_of [] s) (λ h. stem_shorter [] s (companion s) refl (not_empty s) (stem [] (companion s) h)) (λ h. stem_longer [] s h)

pub root_companion : (s : List ℕ) → root (companion s) ≡ root s
root_companion [] = refl
root_companion (c ∷ s) =
    ap (λ (b : Bool). cond b [] (c ∷ root (companion s))) (private_more (c ∷ s)) ∙ ap (λ (r : List ℕ). cond (is_companion_of [] (c ∷ s)) [] (c ∷ r)) (root_companion s)

pub root_bare : (t : List ℕ) → ((s : List ℕ) → t ≡ companion s → ⊥) → root t ≡ t
root_bare [] h = refl
root_bare (c ∷ t) h =
    ap (λ (b : Bool). cond b [] (c ∷ root t)) (false_by (is_companion_of [] (c ∷ t)) (λ g. by (stem [] (c ∷ t) g)))
    ∙ ap (λ (r : List ℕ). c ∷ r) (root_bare t (λ s e. h (c ∷ s) (ap (λ (xs : List ℕ). c ∷ xs) e)))
  where
    by : Stem [] (c ∷ t) → ⊥
    by (itself f) = nil_cons c t f
    by (of_one s f g) = h s f

root_reaches : (t : List ℕ) → is_companion_of (root t) t ≡ true
root_reaches [] = refl
root_reaches (c ∷ t) = one (is_companion_of [] (c ∷ t)) refl (root_reaches t)
  where
    one : (b : Bool) → is_companion_of [] (c ∷ t) ≡ b → is_companion_of (root t) t ≡ true → is_companion_of (cond b [] (c ∷ root t)) (c ∷ t) ≡ true
    one true p h = p
    one false p h = rw ((unsigned_Decides c c).1 refl) h

-- A companion has the root of its vocabulary, and isn't shorter.

by_stem : (n : ℕ) (v t : List ℕ) → length t ≤ n → Stem v t → ((s : List ℕ) → length s < n → is_companion_of v s ≡ true → (root v ≡ root s) × (length v ≤ length s)) → (root v ≡ root t) × (length v ≤ length t)
by_stem n v t l (itself f) ih = let same = ap length f in (sym (ap root f), omega (arith, same))
by_stem n v t l (of_one s f g) ih =
    let more = ap length f ∙ long s in
    let rest = ih s (omega (arith, l, more)) g in
    let shorter = rest.1 in
    (rest.0 ∙ sym (ap root f ∙ root_companion s), omega (arith, more, shorter))

companion_root : (n : ℕ) (v t : List ℕ) → length t ≤ n → is_companion_of v t ≡ true → (root v ≡ root t) × (length v ≤ length t)
companion_root zero v t l h = by_stem zero v t l (stem v t h) (λ s k g. absurd (omega (arith, k)))
companion_root (suc n) v t l h = by_stem (suc n) v t l (stem v t h) (λ s k g. companion_root n v s (omega (arith, k)) g)

pub has_root : (v t : List ℕ) → is_companion_of v t ≡ true → (root v ≡ root t) × (length v ≤ length t)
has_root v t h = companion_root (length t) v t (omega arith) h

-- Of two texts with one root the longer is a companion of the other.

abbrev Longer : ℕ → Type 0
Longer n = (v t : List ℕ) → length t ≤ n → is_companion_of [] v ≡ true → is_companion_of [] t ≡ true → length v ≤ length t → is_companion_of v t ≡ true

both_shorter : (v t u s : List ℕ) → t ≡ companion s → v ≡ companion u → length s < length v → Stem u s → is_companion_of v t ≡ true
both_shorter v t u s e f l (itself g) = stem_there v t ((bytes_eq-Decides t v).1 (e ∙ ap companion g ∙ sym f))
both_shorter v t u s e f l (of_one w g h) =
    let shorter = (has_root u w h).1 in
    let one = ap length f ∙ long u in
    let other = ap length g ∙ long w in
    absurd (omega (arith, l, shorter, one, other))

longer_step : (n x : ℕ) (xs t : List ℕ) → length t ≤ n → is_companion_of [] (x ∷ xs) ≡ true → length (x ∷ xs) ≤ length t → ((v s : List ℕ) → length s < n → is_companion_of [] v ≡ true → is_companion_of [] s ≡ true → length v ≤ length s → is_companion_of v s ≡ true) → Stem [] t → is_companion_of (x ∷ xs) t ≡ true
longer_step n x xs t l h k ih (itself f) = let none = ap length f in absurd (omega (arith, k, none))
longer_step n x xs t l h k ih (of_one s f g) = one (nat_lt (length s) (length (x ∷ xs))) refl
  where
    more : length t ≡ length s + 8
    more = ap length f ∙ long s

    two : length s < length (x ∷ xs) → Stem [] (x ∷ xs) → is_companion_of (x ∷ xs) t ≡ true
    two o (itself e) = absurd (nil_cons x xs e)
    two o (of_one u e i) =
        let other = ap length e ∙ long u in
        let shorter : length u ≤ length s = (let m = more in omega (arith, k, m, other)) in
        both_shorter (x ∷ xs) t u s f e o (stem u s (ih u s (let m = more in omega (arith, l, m)) i g shorter))

    one : (b : Bool) → nat_lt (length s) (length (x ∷ xs)) ≡ b → is_companion_of (x ∷ xs) t ≡ true
    one true o = two (ltb-true (length s) (length (x ∷ xs)) o) (stem [] (x ∷ xs) h)
    one false o = subst (λ (r : List ℕ). is_companion_of (x ∷ xs) r ≡ true) (sym f) (stem_longer (x ∷ xs) s (ih (x ∷ xs) s (let m = more in omega (arith, l, m)) h g (ltb-false (length s) (length (x ∷ xs)) o)))

longer : (n : ℕ) → Longer n
longer n [] t l h g k = g
longer zero (x ∷ xs) t l h g k = longer_step zero x xs t l h k (λ v s m a b c. absurd (omega (arith, m))) (stem [] t g)
longer (suc n) (x ∷ xs) t l h g k = longer_step (suc n) x xs t l h k (λ v s m a b c. longer n v s (omega (arith, m)) a b c) (stem [] t g)

root_both : (b v t : List ℕ) → is_companion_of b v ≡ true → is_companion_of b t ≡ true → length v ≤ length t → is_companion_of v t ≡ true
root_both [] v t h g k = longer (length t) v t (omega arith) h g k
root_both (p ∷ b) [] t h g k = absurd (true≢false (sym h))
root_both (p ∷ b) (x ∷ v) [] h g k = absurd (true≢false (sym g))
root_both (p ∷ b) (x ∷ v) (y ∷ t) h g k =
    let one = both_true (nat_eq x p) (is_companion_of b v) h in
    let other = both_true (nat_eq y p) (is_companion_of b t) g in
    let same : nat_eq y x ≡ true = (unsigned_Decides y x).1 ((unsigned_Decides y p).0 other.0 ∙ sym ((unsigned_Decides x p).0 one.0)) in
    rw same (root_both b v t one.1 other.1 (omega (arith, k)))

one_root : (v t : List ℕ) → bytes_eq (root v) (root t) ≡ true → is_companion_of v t ≡ not (nat_lt (length t) (length v))
one_root v t e = one (nat_lt (length t) (length v)) refl
  where
    same : root v ≡ root t
    same = (bytes_eq-Decides (root v) (root t)).0 e

    one : (b : Bool) → nat_lt (length t) (length v) ≡ b → is_companion_of v t ≡ not b
    one true o = false_by (is_companion_of v t) (λ h. let l = ltb-true (length t) (length v) o in let m = (has_root v t h).1 in omega (arith, l, m))
    one false o = root_both (root v) v t (root_reaches v) (subst (λ (r : List ℕ). is_companion_of r t ≡ true) (sym same) (root_reaches t)) (ltb-false (length t) (length v) o)

other_root : (v t : List ℕ) → bytes_eq (root v) (root t) ≡ false → is_companion_of v t ≡ false
other_root v t e = false_by (is_companion_of v t) (λ h. true≢false (sym ((bytes_eq-Decides (root v) (root t)).1 (has_root v t h).0) ∙ e))

-- A vocabulary more.

any_push : (t v : List ℕ) (vs : List (List ℕ)) → list_any (λ w. is_companion_of w t) (vs ++ v ∷ []) ≡ (list_any (λ w. is_companion_of w t) vs || is_companion_of v t)
any_push t v [] = or_false (is_companion_of v t)
  where
    or_false : (b : Bool) → (b || false) ≡ b
    or_false true = refl
    or_false false = refl
any_push t v (w ∷ vs) = ap (λ (b : Bool). is_companion_of w t || b) (any_push t v vs) ∙ or_assoc (is_companion_of w t) (list_any (λ w. is_companion_of w t) vs) (is_companion_of v t)
  where
    or_assoc : (a b c : Bool) → (a || (b || c)) ≡ ((a || b) || c)
    or_assoc true b c = refl
    or_assoc false b c = refl

least_reaches : (o : Option ℕ) (m n : ℕ) → (reaches o n || not (nat_lt n m)) ≡ reaches (Some (least_length o m)) n
least_reaches None m n = refl
least_reaches (Some k) m n = one (nat_lt m k) (nat_lt n k) (nat_lt n m) refl refl refl
  where
    one : (a b c : Bool) → nat_lt m k ≡ a → nat_lt n k ≡ b → nat_lt n m ≡ c → (not b || not c) ≡ not (nat_lt n (cond a m k))
    one true true true p q r = ap not (sym r)
    one true true false p q r = ap not (sym r)
    one true false true p q r = let l = ltb-true m k p in let s = ltb-false n k q in let u = ltb-true n m r in absurd (omega (arith, l, s, u))
    one true false false p q r = ap not (sym r)
    one false true true p q r = ap not (sym q)
    one false true false p q r = let l = ltb-false m k p in let s = ltb-true n k q in let u = ltb-false n m r in absurd (omega (arith, l, s, u))
    one false false c p q r = ap not (sym q)

pub rooted_after : {Y S : Type 0} (before after : IndexMap (String Y) ℕ S) (vs : List (List ℕ)) (v : List ℕ) → list_any (bytes_eq v) vs ≡ false →
    ((q : List ℕ) → get_by_text after q ≡ (if bytes_eq (root v) q then Some (least_length (get_by_text before (root v)) (length v)) else get_by_text before q)) → AreRooted before vs → AreRooted after (with_vocab vs v)
rooted_after before after vs v new put h = λ t.
    ap (λ (b : Bool). list_any (λ w. is_companion_of w t) (cond b vs (vs ++ v ∷ []))) new
    ∙ any_push t v vs
    ∙ ap (λ (b : Bool). b || is_companion_of v t) (h t)
    ∙ one t (bytes_eq (root v) (root t)) refl
    ∙ sym (ap (λ (o : Option ℕ). reaches o (length t)) (put (root t)))
  where
    or_none : (b : Bool) → (b || false) ≡ b
    or_none true = refl
    or_none false = refl

    one : (t : List ℕ) (b : Bool) → bytes_eq (root v) (root t) ≡ b → (reaches (get_by_text before (root t)) (length t) || is_companion_of v t) ≡ reaches (cond b (Some (least_length (get_by_text before (root v)) (length v))) (get_by_text before (root t))) (length t)
    one t true e = ap (λ (b : Bool). reaches (get_by_text before (root t)) (length t) || b) (one_root v t e) ∙ least_reaches (get_by_text before (root t)) (length v) (length t) ∙ ap (λ (r : List ℕ). reaches (Some (least_length (get_by_text before r) (length v))) (length t)) (sym ((bytes_eq-Decides (root v) (root t)).0 e))
    one t false e = ap (λ (b : Bool). reaches (get_by_text before (root t)) (length t) || b) (other_root v t e) ∙ or_none (reaches (get_by_text before (root t)) (length t))
