-- Words so far.
use Rattle.std.proofs.Common.{◌≡◌, ◌<◌, ◌≤◌, ℕ, zero, suc, List, [], ◌∷◌, ◌++◌, length, set, get_or, slice_get, Some, Result, Ok, Err, Bool, true, false, ◌&&◌, refl, ap, sym, ◌∙◌, subst, arith}
use Rattle.std.specs.Prelude.{IfOk, nat_lt}
use Rattle.fac_base.specs.declared.memory.Memory.{Memory}
use Rattle.fac_endings.specs.declared.draft.Draft.{Draft}
use Rattle.fac_lang.specs.declared.program.Sort.{Sort}
use Rattle.fac_lang.specs.declared.program.Sort.TheVariants.{Prim as prim, Core as core, Body as body, Past as past, Itself as itself, Class as class, Isa as isa, Getter as getter, Setter as setter, Putter as putter, Generic as generic, Method as method}
use Rattle.fac_names.specs.Forms.{changed, counted, is_class_sort, is_counted, one_more_if}
use Rattle.fac_lang.specs.LongerPrograms.{as_earlier as past_sort}
use Rattle.fac_names.specs.Resolved.{as_earlier}
use Rattle.fac_names.specs.inner.Counts.{Recounts}

-- A word that is changed.

pub changed_at : (f : Draft → Draft) (ds : List Draft) (n : ℕ) (d e : Draft) → n < length ds → ((x : Draft) → d ≡ get_or ds n x) → e ≡ f d → set ds n e ≡ changed f n ds
changed_at f [] n d e h is same = absurd (omega (arith, h))
changed_at f (x ∷ ds) zero d e h is same = ap (λ (y : Draft). y ∷ ds) (same ∙ ap f (is x))
changed_at f (x ∷ ds) (suc n) d e h is same = ap (λ (ys : List Draft). x ∷ ys) (changed_at f ds n d e (omega (arith, h)) is same)

pub unchanged : (f : Draft → Draft) (ds : List Draft) (n : ℕ) → length ds ≤ n → ds ≡ changed f n ds
unchanged f [] n h = refl
unchanged f (x ∷ ds) zero h = absurd (omega (arith, h))
unchanged f (x ∷ ds) (suc n) h = ap (λ (ys : List Draft). x ∷ ys) (unchanged f ds n (omega (arith, h)))

-- Classes that count.

pub counted_push : (ds : List Draft) (d : Draft) → counted (ds ++ d ∷ []) ≡ one_more_if (is_counted d.word) (counted ds)
counted_push [] d = refl
counted_push (x ∷ ds) d = ap (one_more_if (is_counted x.word)) (counted_push ds d) ∙ turned (is_counted x.word) (is_counted d.word) (counted ds)
  where
    turned : (a b : Bool) (n : ℕ) → one_more_if a (one_more_if b n) ≡ one_more_if b (one_more_if a n)
    turned true true n = refl
    turned true false n = refl
    turned false true n = refl
    turned false false n = refl

recount : (a : Bool) (k n next : ℕ) (before after : Bool) → Recounts n before after next → (before ≡ true → (m : ℕ) × (n ≡ suc m)) → Recounts (one_more_if a n) before after (one_more_if a next)
recount true k n next true true h some = ap suc h
recount true k n next true false h some = let one = some refl in let is = one.1 in omega (arith, h, is)
recount true k n next false true h some = ap suc h
recount true k n next false false h some = ap suc h
recount false k n next true true h some = h
recount false k n next true false h some = h
recount false k n next false true h some = h
recount false k n next false false h some = h

one_recounts : (before after : Bool) (n : ℕ) → Recounts (one_more_if before n) before after (one_more_if after n)
one_recounts true true n = refl
one_recounts true false n = omega arith
one_recounts false true n = refl
one_recounts false false n = refl

some_counted : (b : Bool) (n : ℕ) → b ≡ true → (m : ℕ) × (one_more_if b n ≡ suc m)
some_counted true n h = (n, refl)
some_counted false n h = absurd (cc)

some_more : (a : Bool) (n : ℕ) → ((m : ℕ) × (n ≡ suc m)) → (m : ℕ) × (one_more_if a n ≡ suc m)
some_more true n h = (n, refl)
some_more false n h = h

counts_one : (ds : List Draft) (n : ℕ) (d : Draft) → slice_get ds n ≡ Some d → is_counted d.word ≡ true → (m : ℕ) × (counted ds ≡ suc m)
counts_one [] n d h is = absurd (cc)
counts_one (x ∷ ds) zero d h is = let same : x ≡ d = cc in some_counted (is_counted x.word) (counted ds) (ap (λ (y : Draft). is_counted y.word) same ∙ is)
counts_one (x ∷ ds) (suc n) d h is = some_more (is_counted x.word) (counted ds) (counts_one ds n d h is)

changed_count : (f : Draft → Draft) (ds : List Draft) (n : ℕ) (d : Draft) → slice_get ds n ≡ Some d → Recounts (counted ds) (is_counted d.word) (is_counted (f d).word) (counted (changed f n ds))
changed_count f [] n d h = absurd (cc)
changed_count f (x ∷ ds) zero d h = let same : x ≡ d = cc in subst (λ (y : Draft). Recounts (one_more_if (is_counted x.word) (counted ds)) (is_counted y.word) (is_counted (f y).word) (one_more_if (is_counted (f x).word) (counted ds))) same (one_recounts (is_counted x.word) (is_counted (f x).word) (counted ds))
changed_count f (x ∷ ds) (suc n) d h =
    recount (is_counted x.word) n (counted ds) (counted (changed f n ds)) (is_counted d.word) (is_counted (f d).word) (changed_count f ds n d h) (λ is. counts_one ds n d h is)

one_recount : (before after : Bool) (n a b : ℕ) → Recounts n before after a → Recounts n before after b → a ≡ b
one_recount true true n a b h k = h ∙ sym k
one_recount true false n a b h k = h ∙ sym k
one_recount false after n a b h k = h ∙ sym k

pub recounted : (f : Draft → Draft) (ds : List Draft) (n : ℕ) (d : Draft) (classes next : ℕ) (after : Bool) → slice_get ds n ≡ Some d → classes ≡ counted ds → after ≡ is_counted (f d).word → Recounts classes (is_counted d.word) after next → next ≡ counted (changed f n ds)
recounted f ds n d classes next after at count is h =
    one_recount (is_counted d.word) (is_counted (f d).word) (counted ds) next (counted (changed f n ds)) (subst (λ (k : ℕ). Recounts k (is_counted d.word) (is_counted (f d).word) next) count (subst (λ (b : Bool). Recounts classes (is_counted d.word) b next) is h)) (changed_count f ds n d at)

pub recounted_ok : (f : Draft → Draft) (ds : List Draft) (n : ℕ) (d : Draft) (classes : ℕ) (after before : Bool) (r : Result ℕ Memory) → slice_get ds n ≡ Some d → classes ≡ counted ds → after ≡ is_counted (f d).word → before ≡ is_counted d.word →
    IfOk r (λ (next : ℕ). Recounts classes before after next) → IfOk r (λ (next : ℕ). next ≡ counted (changed f n ds))
recounted_ok f ds n d classes after before (Ok next) at count is was h = recounted f ds n d classes next after at count is (subst (λ (b : Bool). Recounts classes b after next) was h)
recounted_ok f ds n d classes after before (Err Memory) at count is was h = tt

pub uncounted : (f : Draft → Draft) (ds : List Draft) (n : ℕ) (classes : ℕ) → length ds ≤ n → classes ≡ counted ds → classes ≡ counted (changed f n ds)
uncounted f ds n classes h count = count ∙ ap counted (unchanged f ds n h)

-- An earlier top-level phrase is no class.

past_class : (s : Sort) → is_class_sort (past_sort s) ≡ is_class_sort s
past_class (prim k) = refl
past_class (core c) = refl
past_class (body t) = refl
past_class (past t) = refl
past_class itself = refl
past_class (class c) = refl
past_class (isa c) = refl
past_class (getter s) = refl
past_class (setter s) = refl
past_class (putter s) = refl
past_class generic = refl
past_class (method c g t) = refl

pub earlier_count : (n : ℕ) (ds : List Draft) → counted (changed as_earlier n ds) ≡ counted ds
earlier_count n [] = refl
earlier_count zero (d ∷ ds) = ap (λ (b : Bool). one_more_if (nat_lt 0 d.word.place.file && b) (counted ds)) (past_class d.word.sort)
earlier_count (suc n) (d ∷ ds) = ap (one_more_if (is_counted d.word)) (earlier_count n ds)
