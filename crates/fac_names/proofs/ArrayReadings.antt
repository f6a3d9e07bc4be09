-- Each literal array of what was read is named at one place: no word is told twice.
use Rattle.std.proofs.Common.{◌≡◌, ◌≤◌, ◌<◌, ◌+◌, ℕ, zero, suc, List, [], ◌∷◌, ◌++◌, length, Option, Some, Bool, true, false, cond, refl, ap, sym, ◌∙◌, subst, arith}
use Rattle.std.specs.Prelude.{◌&&◌, ◌||◌, slice_get}
use Rattle.std.specs.List.{find, list_any}
use Rattle.std.specs.Str.{bytes_eq}
use Rattle.std.proofs.lemmas.List.{length_push}
use Rattle.fac_lang.specs.Phrases.{Phrase, end, then as placed}
use Rattle.fac_lang.specs.RunningLaws.{append}
use Rattle.fac_base.specs.Signatures.{Signature}
use Rattle.fac_lang.specs.Whole.{arrays_named, arrays_named_by, each_numbered, names_earlier, times_in}
use Rattle.fac_base.specs.declared.place.Place.{Place}
use Rattle.fac_lang.specs.declared.program.Lit.{Lit}
use Rattle.fac_lang.specs.declared.program.Sort.{Sort}
use Rattle.fac_lang.specs.declared.program.Sort.TheVariants.{Body as body, Past as past, Itself as itself, Method as method}
use Rattle.fac_lang.specs.declared.program.WordDef.{WordDef}
use Rattle.fac_vocab.specs.declared.entry.Entry.{Entry}
use Rattle.fac_vocab.specs.Scopes.{Scope, entries_from, holders, home, now_defined}
use Rattle.fac_source.specs.declared.refusal.NameFault.{NameFault}
use Rattle.fac_source.specs.declared.refusal.NameKind.TheVariants.{Twice}
use Rattle.fac_items.specs.Written.{Tok}
use Rattle.fac_source.specs.Refusals.{fault}
use Rattle.fac_endings.specs.declared.draft.Draft.{Draft}
use Rattle.fac_names.specs.Forms.{Numbered, Reading, added, at_place, changed, defined, defining, deferring, draft_of, own, refused, told, with_told}
use Rattle.fac_endings.specs.declared.draft.Late.{Late}
use Rattle.fac_endings.specs.declared.draft.Late.TheVariants.{Deferred as deferred}
use Rattle.fac_items.proofs.ArrayNumbers.{Adds, below, held_times, times_both}
use Rattle.fac_names.proofs.BuiltScopes.{EntriesBelow}
use Rattle.fac_names.proofs.EntryLemmas.{Ascending, all_spare, spares, both_are, first_and, second_and, none_of, backward, entry_spares, out_spared, greater_other, now_spared, exactly, first_found, found_spares, ascending_with, ascending_defined, known_spare}

-- What a word names.

abbrev pub names_by : Sort → List ℕ
names_by (body t) = arrays_named t
names_by (past t) = arrays_named t
names_by (method c g t) = arrays_named t
names_by _ = []

abbrev pub named_in : List Draft → List ℕ
named_in [] = []
named_in (d ∷ ds) = names_by d.word.sort ++ named_in ds

-- what no form told
abbrev pub IsUntold : Draft → Type 0
IsUntold d = (d.word.sort ≡ itself) × (d.late ≡ deferred)

-- a word of which an entry is only deferred isn't told; the first word has number k
abbrev pub Spared : ℕ → List Draft → List Entry → Type 0
Spared k [] table = Unit {0}
Spared k (d ∷ ds) table = (all_spare k table ≡ false → IsUntold d) × Spared (suc k) ds table

pub record Counted (r : Reading) : Type 0 where
  pub ascending : Ascending 0 r.scope.table
  pub spared : Spared 0 r.words r.scope.table
  pub once : (a : ℕ) → times_in a (named_in r.words) + times_in a (arrays_named r.top) + held_times a r.arrays ≡ below (length r.arrays) a
  pub earlier : each_numbered names_earlier 0 r.arrays ≡ true
  pub main_none : arrays_named r.main ≡ []

-- a word that isn't told yet
pub record Fresh (n : Numbered) : Type 0 where
  pub within : n.word < length n.reading.words
  pub untold : (d : Draft) → slice_get n.reading.words n.word ≡ Some d → IsUntold d
  pub spared : all_spare n.word n.reading.scope.table ≡ true

-- Words that are known.

pub known_spared : (k : ℕ) (ds : List Draft) (table : List WordDef) → Spared k ds (entries_from 0 table)
known_spared k [] table = tt
known_spared k (d ∷ ds) table = (λ h. none_of (sym (known_spare k 0 table) ∙ h), known_spared (suc k) ds table)

-- Words of which entries are only deferred.

more_spare : (w : ℕ) (es : List Entry) (e : Entry) → all_spare w es ≡ true → spares w e ≡ true → all_spare w (es ++ e ∷ []) ≡ true
more_spare w [] e h k = both_are (spares w e) true k refl
more_spare w (x ∷ xs) e h k = both_are (spares w x) (all_spare w (xs ++ e ∷ [])) (first_and (spares w x) (all_spare w xs) h) (more_spare w xs e (second_and (spares w x) (all_spare w xs) h) k)

-- an entry of a word that comes behind
spared_entry : (k : ℕ) (ds : List Draft) (table : List Entry) (e : Entry) → Spared k ds table → k + length ds ≤ e.word → Spared k ds (table ++ e ∷ [])
spared_entry k [] table e h few = tt
spared_entry k (d ∷ ds) table e h few =
    (λ out. h.0 (backward (all_spare k table) (all_spare k (table ++ e ∷ [])) (λ held_is. more_spare k table e held_is (entry_spares k e (greater_other e.word k (omega (arith, few))))) out), spared_entry (suc k) ds table e h.1 (omega (arith, few)))

-- a word that isn't told
spared_word : (k : ℕ) (ds : List Draft) (d : Draft) (table : List Entry) → IsUntold d → Spared k ds table → Spared k (ds ++ d ∷ []) table
spared_word k [] d table none h = (λ out. none, tt)
spared_word k (x ∷ ds) d table none h = (h.0, spared_word (suc k) ds d table none h.1)

-- a table in which the same words are spared
spared_table : (k : ℕ) (ds : List Draft) (table other : List Entry) → ((w : ℕ) → all_spare w table ≡ true → all_spare w other ≡ true) → Spared k ds table → Spared k ds other
spared_table k [] table other f h = tt
spared_table k (d ∷ ds) table other f h = (λ out. h.0 (backward (all_spare k table) (all_spare k other) (f k) out), spared_table (suc k) ds table other f h.1)

now_if : (w : ℕ) (b : Bool) (e : Entry) (es fs : List Entry) → all_spare w (e ∷ es) ≡ true → all_spare w fs ≡ true → all_spare w (cond b (record e { is_defined = true } ∷ es) (e ∷ fs)) ≡ true
now_if w true e es fs h k = second_and (spares w e) (all_spare w es) h
now_if w false e es fs h k = both_are (spares w e) (all_spare w fs) (first_and (spares w e) (all_spare w es) h) k

now_spare : (w : ℕ) (vocab name : List ℕ) (es : List Entry) → all_spare w es ≡ true → all_spare w (now_defined vocab name es) ≡ true
now_spare w vocab name [] h = refl
now_spare w vocab name (e ∷ es) h = now_if w (bytes_eq name e.name && bytes_eq vocab e.vocab) e es (now_defined vocab name es) h (now_spare w vocab name es (second_and (spares w e) (all_spare w es) h))

-- a word that is placed
spared_placed : (k n : ℕ) (p : Place) (ds : List Draft) (table : List Entry) → Spared k ds table → Spared k (changed (at_place p) n ds) table
spared_placed k n p [] table h = tt
spared_placed k zero p (d ∷ ds) table h = h
spared_placed k (suc n) p (d ∷ ds) table h = (h.0, spared_placed (suc k) n p ds table h.1)

-- a word that is told
spared_told : (k n : ℕ) (f : Draft → Draft) (ds : List Draft) (table : List Entry) → ((d : Draft) → all_spare (n + k) table ≡ false → IsUntold (f d)) → Spared k ds table → Spared k (changed f n ds) table
spared_told k n f [] table none h = tt
spared_told k zero f (d ∷ ds) table none h = (λ out. none d (ap (λ (m : ℕ). all_spare m table) (let e : 0 + k ≡ k = omega arith in e) ∙ out), h.1)
spared_told k (suc n) f (d ∷ ds) table none h = (h.0, spared_told (suc k) n f ds table (λ e out. none e (ap (λ (m : ℕ). all_spare m table) (let e : suc n + k ≡ n + suc k = omega arith in e) ∙ out)) h.1)

-- what is known of one word
spared_at : (k n : ℕ) (ds : List Draft) (table : List Entry) (d : Draft) → Spared k ds table → slice_get ds n ≡ Some d → all_spare (n + k) table ≡ false → IsUntold d
spared_at k n [] table d h is out = absurd (cc)
spared_at k zero (x ∷ ds) table d h is out = let same : x ≡ d = cc in subst IsUntold same (h.0 (ap (λ (m : ℕ). all_spare m table) (let e : k ≡ 0 + k = omega arith in e) ∙ out))
spared_at k (suc n) (x ∷ ds) table d h is out = spared_at (suc k) n ds table d h.1 is (ap (λ (m : ℕ). all_spare m table) (let e : n + suc k ≡ suc n + k = omega arith in e) ∙ out)

-- Numbers of arrays in words.

named_word : (ds : List Draft) (vocab : List ℕ) (t : Tok) → named_in (ds ++ draft_of vocab t ∷ []) ≡ named_in ds
named_word [] vocab t = refl
named_word (d ∷ ds) vocab t = ap (λ (xs : List ℕ). names_by d.word.sort ++ xs) (named_word ds vocab t)

named_placed : (p : Place) (n : ℕ) (ds : List Draft) → named_in (changed (at_place p) n ds) ≡ named_in ds
named_placed p n [] = refl
named_placed p zero (d ∷ ds) = refl
named_placed p (suc n) (d ∷ ds) = ap (λ (xs : List ℕ). names_by d.word.sort ++ xs) (named_placed p n ds)

named_told : (a n : ℕ) (sort : Sort) (e : Signature) (inline recursive : Bool) (late : Late) (ds : List Draft) → n < length ds → ((d : Draft) → slice_get ds n ≡ Some d → IsUntold d) →
    times_in a (named_in (changed (with_told sort e inline recursive late) n ds)) ≡ times_in a (names_by sort) + times_in a (named_in ds)
named_told a n sort e inline recursive late [] lt none = absurd (omega (arith, lt))
named_told a zero sort e inline recursive late (d ∷ ds) lt none =
    times_both a (names_by sort) (named_in ds) ∙ ap (λ (xs : List ℕ). times_in a (names_by sort) + times_in a (xs ++ named_in ds)) (sym (ap names_by (none d refl).0))
named_told a (suc n) sort e inline recursive late (d ∷ ds) lt none =
    let rest = named_told a n sort e inline recursive late ds (omega (arith, lt)) (λ x is. none x is) in
    let one = times_both a (names_by d.word.sort) (named_in (changed (with_told sort e inline recursive late) n ds)) in
    let two = times_both a (names_by d.word.sort) (named_in ds) in
    omega (arith, rest, one, two)

pub named_append : (t u : Phrase) (a : ℕ) → times_in a (arrays_named (append t u)) ≡ times_in a (arrays_named t) + times_in a (arrays_named u)
named_append end u a = omega arith
named_append (placed i p t) u a =
    let rest = named_append t u a in
    let one = times_both a (arrays_named_by i) (arrays_named (append t u)) in
    let two = times_both a (arrays_named_by i) (arrays_named t) in
    omega (arith, rest, one, two)

-- Readings.

pub refused_counted : (r : Reading) (first : Option NameFault) → Counted r → Counted (record r { first = first })
refused_counted r first c = record { ascending = c.ascending; spared = c.spared; once = c.once; earlier = c.earlier; main_none = c.main_none }

pub scoped_counted : (r : Reading) (s : Scope) → s.table ≡ r.scope.table → Counted r → Counted (record r { scope = s })
scoped_counted r s same c =
    record { ascending = subst (Ascending 0) (sym same) c.ascending; spared = subst (Spared 0 r.words) (sym same) c.spared; once = c.once; earlier = c.earlier; main_none = c.main_none }

-- a new word without an entry, and one with an entry
pub added_counted : (vocab : List ℕ) (t : Tok) (r : Reading) → Counted r → Counted (added vocab t r).reading
added_counted vocab t r c =
    record {
      ascending = c.ascending;
      spared = spared_word 0 r.words (draft_of vocab t) r.scope.table (refl, refl) c.spared;
      once = λ a. ap (λ (xs : List ℕ). times_in a xs + times_in a (arrays_named r.top) + held_times a r.arrays) (named_word r.words vocab t) ∙ c.once a;
      earlier = c.earlier;
      main_none = c.main_none;
    }

pub entered_counted : (vocab : List ℕ) (t : Tok) (b : Bool) (r : Reading) → EntriesBelow (length r.words) r.scope.table → Counted r →
    Counted (record r { scope = record r.scope { table = r.scope.table ++ (record { vocab = vocab; name = t.text; word = length r.words; is_defined = b }) ∷ [] }; words = r.words ++ draft_of vocab t ∷ [] })
entered_counted vocab t b r few c =
    let e : Entry = record { vocab = vocab; name = t.text; word = length r.words; is_defined = b } in
    record {
      ascending = ascending_with 0 (length r.words) r.scope.table e c.ascending few (omega arith) refl;
      spared = spared_word 0 r.words (draft_of vocab t) (r.scope.table ++ e ∷ []) (refl, refl) (spared_entry 0 r.words r.scope.table e c.spared (omega arith));
      once = (added_counted vocab t r c).once;
      earlier = c.earlier;
      main_none = c.main_none;
    }

last_draft : (ds : List Draft) (x d : Draft) → slice_get (ds ++ x ∷ []) (length ds) ≡ Some d → d ≡ x
last_draft [] x d h = cc
last_draft (y ∷ ds) x d h = last_draft ds x d h

untold_draft : (vocab : List ℕ) (t : Tok) (ds : List Draft) (d : Draft) → slice_get (ds ++ draft_of vocab t ∷ []) (length ds) ≡ Some d → IsUntold d
untold_draft vocab t ds d h = subst IsUntold (sym (last_draft ds (draft_of vocab t) d h)) (refl, refl)

one_more : (vocab : List ℕ) (t : Tok) (ds : List Draft) → length ds < length (ds ++ draft_of vocab t ∷ [])
one_more vocab t ds = let pushed = length_push ds (draft_of vocab t) in omega (arith, pushed)

-- what a definition begins with: a word that isn't told yet
pub record Begins (n : Numbered) : Type 0 where
  pub counted : Counted n.reading
  pub fresh : Fresh n

begins_if : (b : Bool) (n m : Numbered) → (b ≡ true → Begins n) → (b ≡ false → Begins m) → Begins (cond b n m)
begins_if true n m f g = f refl
begins_if false n m f g = g refl

length_placed : (p : Place) (n : ℕ) (ds : List Draft) → length (changed (at_place p) n ds) ≡ length ds
length_placed p n [] = refl
length_placed p zero (d ∷ ds) = refl
length_placed p (suc n) (d ∷ ds) = ap suc (length_placed p n ds)

below_if : (n : ℕ) (b : Bool) (x e : Entry) (o : Option Entry) → x.word < n → (o ≡ Some e → e.word < n) → cond b (Some x) o ≡ Some e → e.word < n
below_if n true x e o h f is = let same : x ≡ e = cc in subst (λ (y : Entry). y.word < n) same h
below_if n false x e o h f is = f is

found_below : (n : ℕ) (p : Entry → Bool) (es : List Entry) (e : Entry) → EntriesBelow n es → find p es ≡ Some e → e.word < n
found_below n p [] e h is = absurd (cc)
found_below n p (x ∷ xs) e h is = below_if n (p x) x e (find p xs) h.0 (λ there. found_below n p xs e h.1 there) is

-- an entry that is only deferred
deferred_begins : (vocab : List ℕ) (t : Tok) (r : Reading) (e : Entry) (others : List Entry) → holders r.scope.table vocab t.text ≡ e ∷ others → e.is_defined ≡ false → EntriesBelow (length r.words) r.scope.table → Counted r →
    Begins (record { word = e.word; reading = record r { scope = record r.scope { table = now_defined e.vocab e.name r.scope.table }; words = changed (at_place t.place) e.word r.words } })
deferred_begins vocab t r e others held late few c =
    let there = first_found vocab t.text r.scope.table e others held in
    record {
      counted = record {
        ascending = ascending_defined e.vocab e.name 0 r.scope.table c.ascending;
        spared = spared_placed 0 e.word t.place r.words (now_defined e.vocab e.name r.scope.table) (spared_table 0 r.words r.scope.table (now_defined e.vocab e.name r.scope.table) (λ w h. now_spare w e.vocab e.name r.scope.table h) c.spared);
        once = λ a. ap (λ (xs : List ℕ). times_in a xs + times_in a (arrays_named r.top) + held_times a r.arrays) (named_placed t.place e.word r.words) ∙ c.once a;
        earlier = c.earlier;
        main_none = c.main_none;
      };
      fresh = record {
        within = let inside = found_below (length r.words) (exactly e) r.scope.table e few there in let same = length_placed t.place e.word r.words in omega (arith, inside, same);
        untold = λ d is. spared_at 0 e.word (changed (at_place t.place) e.word r.words) r.scope.table d (spared_placed 0 e.word t.place r.words r.scope.table c.spared) is (ap (λ (w : ℕ). all_spare w r.scope.table) (let e : e.word + 0 ≡ e.word = omega arith in e) ∙ found_spares (exactly e) r.scope.table e there late);
        spared = now_spared e.vocab e.name 0 r.scope.table e c.ascending there;
      };
    }

first_or : (b c : Bool) → (b || c) ≡ false → b ≡ false
first_or true c h = h
first_or false c h = refl

pub defining_begins : (vocab : List ℕ) (t : Tok) (r : Reading) (es : List Entry) → holders r.scope.table vocab t.text ≡ es → EntriesBelow (length r.words) r.scope.table → Counted r → Begins (defining vocab t r es)
defining_begins vocab t r [] held few c =
    record {
      counted = entered_counted vocab t true r few c;
      fresh = record {
        within = one_more vocab t r.words;
        untold = untold_draft vocab t r.words;
        spared = more_spare (length r.words) r.scope.table _ (out_spared (length r.words) (length r.words) r.scope.table few (omega arith)) refl;
      };
    }
defining_begins vocab t r (e ∷ es) held few c =
    begins_if (list_any (λ (f : Entry). f.is_defined) (e ∷ es)) _ _
    (λ held_is. record {
      counted = added_counted vocab t (refused (fault Twice t ∷ []) r) (refused_counted r _ c);
      fresh = record { within = one_more vocab t r.words; untold = untold_draft vocab t r.words; spared = out_spared (length r.words) (length r.words) r.scope.table few (omega arith) };
    })
    (λ out. deferred_begins vocab t r e es held (first_or e.is_defined (list_any (λ (f : Entry). f.is_defined) es) out) few c)

-- a name in any vocabulary
pub defined_begins : (vocab : List ℕ) (t : Tok) (r : Reading) → EntriesBelow (length r.words) r.scope.table → Counted r → Begins (defined vocab t r)
defined_begins vocab t r few c = defining_begins vocab t r (holders r.scope.table vocab t.text) refl few c

-- a word that no table has
pub added_begins : (vocab : List ℕ) (t : Tok) (r : Reading) → EntriesBelow (length r.words) r.scope.table → Counted r → Begins (added vocab t r)
added_begins vocab t r few c =
    record {
      counted = added_counted vocab t r c;
      fresh = record { within = one_more vocab t r.words; untold = untold_draft vocab t r.words; spared = out_spared (length r.words) (length r.words) r.scope.table few (omega arith) };
    }

pub own_begins : (t : Tok) (r : Reading) → EntriesBelow (length r.words) r.scope.table → Counted r → Begins (own t r)
own_begins t r few c = defined_begins (home r.scope) t r few c

pub deferring_counted : (t : Tok) (r : Reading) (es : List Entry) → EntriesBelow (length r.words) r.scope.table → Counted r → Counted (deferring t r es)
deferring_counted t r [] few c = entered_counted (home r.scope) t false r few c
deferring_counted t r (e ∷ es) few c = refused_counted r _ c

-- a word is told, and its phrase names these arrays, of which some are new
pub told_counted : (n : Numbered) (sort : Sort) (e : Signature) (inline recursive : Bool) (late : Late) (arrays : List (List Lit)) (first : Option NameFault) → Adds n.reading.arrays arrays (names_by sort) → Begins n →
    Counted (told sort e inline recursive late (record { word = n.word; reading = record n.reading { arrays = arrays; first = first } }))
told_counted n sort e inline recursive late arrays first adds b =
    let r = n.reading in
    let c = b.counted in
    record {
      ascending = c.ascending;
      spared = spared_told 0 n.word (with_told sort e inline recursive late) r.words r.scope.table (λ d out. none_of (sym (ap (λ (w : ℕ). all_spare w r.scope.table) (let e : n.word + 0 ≡ n.word = omega arith in e) ∙ b.fresh.spared) ∙ out)) c.spared;
      once = λ a. (
          let words = named_told a n.word sort e inline recursive late r.words b.fresh.within b.fresh.untold in
          let more = adds.once a in
          let before = c.once a in
          omega (arith, words, more, before));
      earlier = adds.earlier c.earlier;
      main_none = c.main_none;
    }

-- items at the top level
pub items_counted : (r : Reading) (t : Phrase) (arrays : List (List Lit)) (first : Option NameFault) → Adds r.arrays arrays (arrays_named t) → Counted r → Counted (record r { top = append r.top t; arrays = arrays; first = first })
items_counted r t arrays first adds c =
    record {
      ascending = c.ascending;
      spared = c.spared;
      once = λ a. (
          let both = named_append r.top t a in
          let more = adds.once a in
          let before = c.once a in
          omega (arith, both, more, before));
      earlier = adds.earlier c.earlier;
      main_none = c.main_none;
    }

pub main_counted : (r : Reading) (t : Phrase) (first : Option NameFault) → arrays_named t ≡ [] → Counted r → Counted (record r { main = t; first = first })
main_counted r t first none c = record { ascending = c.ascending; spared = c.spared; once = c.once; earlier = c.earlier; main_none = none }
