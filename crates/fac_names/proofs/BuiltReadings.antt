-- What forms come to is made of what sources have.
use Rattle.std.proofs.Common.{◌≡◌, ◌<◌, ◌≤◌, ◌+◌, ℕ, zero, suc, List, [], ◌∷◌, ◌++◌, length, Option, Some, None, Bool, true, false, refl, ap, sym, ◌∙◌, subst, arith}
use Rattle.std.specs.Prelude.{◌&&◌, nat_le, codes, slice_get}
use Rattle.std.specs.List.{list_all}
use Rattle.std.proofs.lemmas.List.{length_push}
use Rattle.std.proofs.lemmas.List.Folds.{list_all-append}
use Rattle.fac_lang.proofs.SourcePrograms.{AreArraysOf, IsPhraseOf, IsSortOf}
use Rattle.fac_names.proofs.PrimitiveNumbers.{has_no_repeats, numbers_before, numbers_in, numbers_with, numbers_placed, told_distinct}
use Rattle.fac_lang.specs.Phrases.{Phrase}
use Rattle.fac_lang.specs.RunningLaws.{append}
use Rattle.fac_base.specs.Signatures.{Signature}
use Rattle.fac_lang.specs.Whole.{arrays_named, name_count}
use Rattle.fac_base.specs.declared.place.Place.{Place}
use Rattle.fac_lang.specs.declared.program.Lit.{Lit}
use Rattle.fac_lang.specs.declared.program.Sort.{Sort}
use Rattle.fac_lang.specs.declared.program.Sort.TheVariants.{Body as body, Itself as itself, Prim as prim, Core as core, Past as past, Class as class, Isa as isa, Getter as getter, Setter as setter, Putter as putter, Generic as generic, Method as method}
use Rattle.fac_lang.specs.declared.program.WordDef.{WordDef}
use Rattle.fac_source.specs.declared.refusal.NameFault.{NameFault}
use Rattle.fac_vocab.specs.declared.entry.Entry.{Entry}
use Rattle.fac_vocab.specs.Scopes.{Scope, now_defined, with_entry, word_held}
use Rattle.fac_items.specs.Written.{Tok}
use Rattle.fac_items.proofs.ArrayNumbers.{Adds}
use Rattle.fac_endings.specs.declared.draft.Draft.{Draft}
use Rattle.fac_endings.specs.declared.draft.Late.{Late}
use Rattle.fac_endings.specs.declared.draft.Late.TheVariants.{Settled as settled, Deferred as deferred, Maker as maker, Method as method_of}
use Rattle.fac_endings.specs.declared.draft.NewClass.{NewClass}
use Rattle.fac_endings.proofs.Apart.{and_true, true_both}
use Rattle.fac_endings.proofs.EarlierClasses.{AreSettled}
use Rattle.fac_endings.proofs.EndedClasses.{class_in, draft_fits, is_new_sort, late_in, own_few}
use Rattle.fac_names.specs.Forms.{Numbered, Reading, at_place, changed, draft_of, told, with_told}
use Rattle.fac_names.proofs.ArrayReadings.{Begins, Counted, items_counted, main_counted, names_by, refused_counted, scoped_counted, told_counted}
use Rattle.fac_names.proofs.BuiltScopes.{EntriesBelow, ScopeIn, entries_below, entries_defined, entries_with, scope_more}
use Rattle.fac_names.proofs.Fronts.{Covers, Fronted, covers_fewer, found_by, found_low, found_more, fronted_changed, fronted_push, is_found, spares_past}
use Rattle.fac_names.proofs.HeldNames.{AccessorAt, AccessorsHeld, AreNamed, KeepsHeld, KeepsNames, KeepsTold, NewHeld, OldHeld, WordHeld, accessors_kept, accessors_placed, accessors_push, accessors_told, held_defined, held_same, named_defined, named_kept, names_changed, names_push, new_kept, new_with, old_kept, told_other, told_placed, told_push}

-- Words.

-- a word whose phrase has an effect that the end gives it
pub record IsLateBody (may : ℕ → Bool) (d : WordDef) : Type 0 where
  pub built : IsSortOf may d d.sort
  pub not_inline : d.inline ≡ false
  pub not_recursive : d.recursive ≡ false

-- a word is one that a source can have, where it isn't only deferred
abbrev pub IsBuiltLate : (ℕ → Bool) → WordDef → Late → Type 0
IsBuiltLate may d settled = IsSortOf may d d.sort
IsBuiltLate may d deferred = Unit {0}
IsBuiltLate may d (maker r) = IsLateBody may d
IsBuiltLate may d (method_of c g) = IsLateBody may d

abbrev pub DraftsBuilt : (ℕ → Bool) → List Draft → Type 0
DraftsBuilt may [] = Unit {0}
DraftsBuilt may (d ∷ ds) = IsBuiltLate may d.word d.late × DraftsBuilt may ds

-- the numbers of classes in a word are below k, and its effect has few names
abbrev pub draft_ok : ℕ → Draft → Bool
draft_ok k d = draft_fits k d && nat_le (name_count d.word.effect) 65

-- the words of classes are held under their names
abbrev pub AreHeld : Reading → Type 0
AreHeld r = OldHeld r.words r.scope.table 0 r.old_classes × NewHeld r.words r.scope.table (length r.old_classes) r.classes

-- Words name classes below k, and there are c of them.
pub record Built (k c : ℕ) (r : Reading) : Type 0 where
  pub some : 0 < length r.words
  pub front : List WordDef
  pub fronted : Fronted front r.words
  pub scope : ScopeIn (is_found front (length r.words)) r.scope
  pub words : (may : ℕ → Bool) → Covers front (length r.words) may → DraftsBuilt may r.words
  pub ok : list_all (draft_ok k) r.words ≡ true
  pub top : (may : ℕ → Bool) → Covers front (length r.words) may → IsPhraseOf may r.top
  pub main : (may : ℕ → Bool) → Covers front (length r.words) may → IsPhraseOf may r.main
  pub distinct : has_no_repeats (numbers_in r.words) ≡ true
  pub old : AreSettled r.old_classes
  pub own : list_all (λ (d : NewClass). own_few d.names) r.classes ≡ true
  pub count : length r.old_classes + length r.classes ≡ c
  pub named : AreNamed r.words r.scope.table
  pub accessors : AccessorsHeld r.scope.table 0 r.words
  pub held : r.first ≡ None → AreHeld r
  pub arrays : (may : ℕ → Bool) → Covers front (length r.words) may → AreArraysOf may r.arrays
  pub counted : Counted r

-- What names find.

pub table_below : (k c : ℕ) (r : Reading) → Built k c r → EntriesBelow (length r.words) r.scope.table
table_below k c r b = entries_below (is_found b.front (length r.words)) (length r.words) r.scope.table (found_low b.front (length r.words)) b.scope.table

-- the word that a name finds which is refused
pub first_found : (k c : ℕ) (r : Reading) (b : Built k c r) (may : ℕ → Bool) → Covers b.front (length r.words) may → may 0 ≡ true
first_found k c r b may covers = covers 0 (found_by b.front (length r.words) 0 b.some b.fronted.first)

pub scope_covered : (k c : ℕ) (r : Reading) (b : Built k c r) (may : ℕ → Bool) → Covers b.front (length r.words) may → ScopeIn may r.scope
scope_covered k c r b may covers = scope_more (is_found b.front (length r.words)) may r.scope covers b.scope

-- the same but for the first refusal
pub refused_built : (k c : ℕ) (r : Reading) (first : Option NameFault) → (first ≡ None → r.first ≡ None) → Built k c r → Built k c (record r { first = first })
refused_built k c r first before b =
    record { some = b.some; front = b.front; fronted = b.fronted; scope = b.scope; words = b.words; ok = b.ok; top = b.top; main = b.main; distinct = b.distinct; old = b.old; own = b.own; count = b.count; named = b.named; accessors = b.accessors; held = λ none. b.held (before none); arrays = b.arrays; counted = refused_counted r first b.counted }

-- another scope with words that there are, and the same table
pub scoped_built : (k c : ℕ) (r : Reading) (s : Scope) (b : Built k c r) → ScopeIn (is_found b.front (length r.words)) s → s.table ≡ r.scope.table → Built k c (record r { scope = s })
scoped_built k c r s b h same =
    record {
      some = b.some;
      front = b.front;
      fronted = b.fronted;
      scope = h;
      words = b.words;
      ok = b.ok;
      top = b.top;
      main = b.main;
      distinct = b.distinct;
      old = b.old;
      own = b.own;
      count = b.count;
      named = subst (AreNamed r.words) (sym same) b.named;
      accessors = subst (λ (es : List Entry). AccessorsHeld es 0 r.words) (sym same) b.accessors;
      held = λ none. subst (λ (es : List Entry). OldHeld r.words es 0 r.old_classes × NewHeld r.words es (length r.old_classes) r.classes) (sym same) (b.held none);
      arrays = b.arrays;
      counted = scoped_counted r s same b.counted;
    }

-- words may name classes up to a larger number
class_more : (k : ℕ) (s : Sort) → class_in k s ≡ true → class_in (suc k) s ≡ true
class_more k (class c) h = grind arith
class_more k (isa c) h = grind arith
class_more k (past t) h = refl
class_more k (method c g t) h = grind arith
class_more k (prim j) h = refl
class_more k (core j) h = refl
class_more k (body t) h = refl
class_more k itself h = refl
class_more k (getter s) h = refl
class_more k (setter s) h = refl
class_more k (putter s) h = refl
class_more k generic h = refl

draft_more : (k : ℕ) (d : Draft) → draft_ok k d ≡ true → draft_ok (suc k) d ≡ true
draft_more k d h =
    let both = true_both (draft_fits k d) (nat_le (name_count d.word.effect) 65) h in
    let parts = true_both (class_in k d.word.sort) (late_in d.word.sort d.late) both.0 in
    and_true (draft_fits (suc k) d) (nat_le (name_count d.word.effect) 65) (and_true (class_in (suc k) d.word.sort) (late_in d.word.sort d.late) (class_more k d.word.sort parts.0) parts.1) both.1

drafts_more : (k : ℕ) (ds : List Draft) → list_all (draft_ok k) ds ≡ true → list_all (draft_ok (suc k)) ds ≡ true
drafts_more k [] h = refl
drafts_more k (d ∷ ds) h = let both = true_both (draft_ok k d) (list_all (draft_ok k) ds) h in and_true (draft_ok (suc k) d) (list_all (draft_ok (suc k)) ds) (draft_more k d both.0) (drafts_more k ds both.1)

pub one_class_more : (k c : ℕ) (r : Reading) → Built k c r → Built (suc k) c r
one_class_more k c r b =
    record { some = b.some; front = b.front; fronted = b.fronted; scope = b.scope; words = b.words; ok = drafts_more k r.words b.ok; top = b.top; main = b.main; distinct = b.distinct; old = b.old; own = b.own; count = b.count; named = b.named; accessors = b.accessors; held = b.held; arrays = b.arrays; counted = b.counted }

-- What stays of words and tables.

pub record Keeps (r q : Reading) : Type 0 where
  pub names : KeepsNames r.words q.words
  pub words : KeepsTold r.words q.words
  pub table : KeepsHeld r.scope.table q.scope.table
  pub first : q.first ≡ None → r.first ≡ None

held_through : (r q : Reading) → Keeps r q → AreHeld r → OldHeld q.words q.scope.table 0 r.old_classes × NewHeld q.words q.scope.table (length r.old_classes) r.classes
held_through r q k h =
    (old_kept r.words q.words r.scope.table q.scope.table 0 r.old_classes k.names k.words k.table h.0, new_kept r.words q.words r.scope.table q.scope.table (length r.old_classes) r.classes k.words k.table h.1)

-- A word more.

drafts_with : (may : ℕ → Bool) (ds : List Draft) (d : Draft) → DraftsBuilt may ds → IsBuiltLate may d.word d.late → DraftsBuilt may (ds ++ d ∷ [])
drafts_with may [] d h k = (k, tt)
drafts_with may (e ∷ ds) d h k = (h.0, drafts_with may ds d h.1 k)

-- the table is the same, or has an entry of the new word more
pub record Adds_word (front : List WordDef) (r : Reading) (s : Scope) (vocab : List ℕ) (t : Tok) (first : Option NameFault) : Type 0 where
  pub below : ScopeIn (is_found front (length r.words + 1)) s
  pub table : KeepsHeld r.scope.table s.table
  pub named : AreNamed (r.words ++ draft_of vocab t ∷ []) s.table
  pub first_before : first ≡ None → r.first ≡ None

pub word_keeps : (front : List WordDef) (r : Reading) (s : Scope) (vocab : List ℕ) (t : Tok) (first : Option NameFault) → Adds_word front r s vocab t first → Keeps r (record r { scope = s; words = r.words ++ draft_of vocab t ∷ []; first = first })
word_keeps front r s vocab t first a = record { names = names_push r.words (draft_of vocab t); words = told_push r.words (draft_of vocab t); table = a.table; first = a.first_before }

pub with_word : (k c : ℕ) (r : Reading) (s : Scope) (vocab : List ℕ) (t : Tok) (first : Option NameFault) (b : Built k c r) → Adds_word b.front r s vocab t first → Counted (record r { scope = s; words = r.words ++ draft_of vocab t ∷ []; first = first }) → Built k c (record r { scope = s; words = r.words ++ draft_of vocab t ∷ []; first = first })
with_word k c r s vocab t first b a counted =
    let front = b.front in
    let longer = length_push r.words (draft_of vocab t) in
    let keeps = word_keeps front r s vocab t first a in
    record {
      some = omega (arith, longer);
      front = front;
      fronted = fronted_push front r.words (draft_of vocab t) refl b.fronted;
      scope = subst (λ (n : ℕ). ScopeIn (is_found front n) s) (sym longer) a.below;
      words = λ may covers. drafts_with may r.words (draft_of vocab t) (b.words may (covers_fewer front (length r.words) (length (r.words ++ draft_of vocab t ∷ [])) may (omega (arith, longer)) covers)) tt;
      ok = list_all-append (draft_ok k) r.words (draft_of vocab t ∷ []) ∙ and_true (list_all (draft_ok k) r.words) true b.ok refl;
      top = λ may covers. b.top may (covers_fewer front (length r.words) (length (r.words ++ draft_of vocab t ∷ [])) may (omega (arith, longer)) covers);
      main = λ may covers. b.main may (covers_fewer front (length r.words) (length (r.words ++ draft_of vocab t ∷ [])) may (omega (arith, longer)) covers);
      distinct = ap has_no_repeats (numbers_with r.words vocab t) ∙ b.distinct;
      old = b.old;
      own = b.own;
      count = b.count;
      named = a.named;
      accessors = accessors_kept r.scope.table s.table 0 (r.words ++ draft_of vocab t ∷ []) a.table (accessors_push r.scope.table 0 r.words (draft_of vocab t) refl b.accessors);
      held = λ none. held_through r (record r { scope = s; words = r.words ++ draft_of vocab t ∷ []; first = first }) keeps (b.held (a.first_before none));
      arrays = λ may covers. b.arrays may (covers_fewer front (length r.words) (length (r.words ++ draft_of vocab t ∷ [])) may (omega (arith, longer)) covers);
      counted = counted;
    }

pub wider : (front : List WordDef) (n : ℕ) (s : Scope) → ScopeIn (is_found front n) s → ScopeIn (is_found front (n + 1)) s
wider front n s h = scope_more (is_found front n) (is_found front (n + 1)) s (found_more front n (n + 1) (omega arith)) h

pub entered_word : (front : List WordDef) (n : ℕ) (s : Scope) (vocab name : List ℕ) (b : Bool) → spares_past front n ≡ true → ScopeIn (is_found front n) s → ScopeIn (is_found front (n + 1)) (with_entry vocab name n b s)
entered_word front n s vocab name b spared h =
    let more = wider front n s h in
    record { table = entries_with (is_found front (n + 1)) s.table (record { vocab = vocab; name = name; word = n; is_defined = b }) more.table (found_by front (n + 1) n (omega arith) spared); brought = more.brought }

-- A word that is changed.

pub length_changed : (f : Draft → Draft) (n : ℕ) (ds : List Draft) → length (changed f n ds) ≡ length ds
length_changed f n [] = refl
length_changed f zero (d ∷ ds) = refl
length_changed f (suc n) (d ∷ ds) = ap suc (length_changed f n ds)

drafts_changed : (may : ℕ → Bool) (f : Draft → Draft) (n : ℕ) (ds : List Draft) → ((d : Draft) → IsBuiltLate may d.word d.late → IsBuiltLate may (f d).word (f d).late) → DraftsBuilt may ds → DraftsBuilt may (changed f n ds)
drafts_changed may f n [] keeps h = tt
drafts_changed may f zero (d ∷ ds) keeps h = (keeps d h.0, h.1)
drafts_changed may f (suc n) (d ∷ ds) keeps h = (h.0, drafts_changed may f n ds keeps h.1)

-- the place of a word is no part of what is built
placed_sort : (may : ℕ → Bool) (d : WordDef) (p : Place) (s : Sort) → IsSortOf may d s → IsSortOf may (record d { place = p }) s
placed_sort may d p (prim k) h = record { row = h.row; row_is = h.row_is; is_built = h.is_built; effect_is = h.effect_is; not_inline = h.not_inline; not_recursive = h.not_recursive }
placed_sort may d p (core k) h = record { row = h.row; row_is = h.row_is; effect_is = h.effect_is; not_inline = h.not_inline; not_recursive = h.not_recursive }
placed_sort may d p (body t) h = h
placed_sort may d p (past t) h = (record { not_inline = h.0.not_inline; not_recursive = h.0.not_recursive }, h.1)
placed_sort may d p itself h = record { effect_is = h.effect_is; not_inline = h.not_inline; not_recursive = h.not_recursive }
placed_sort may d p (class c) h = record { effect_is = h.effect_is; not_inline = h.not_inline; not_recursive = h.not_recursive }
placed_sort may d p (isa c) h = record { effect_is = h.effect_is; not_inline = h.not_inline; not_recursive = h.not_recursive }
placed_sort may d p (getter s) h = record { effect_is = h.effect_is; not_inline = h.not_inline; not_recursive = h.not_recursive }
placed_sort may d p (setter s) h = record { effect_is = h.effect_is; not_inline = h.not_inline; not_recursive = h.not_recursive }
placed_sort may d p (putter s) h = record { effect_is = h.effect_is; not_inline = h.not_inline; not_recursive = h.not_recursive }
placed_sort may d p generic h = record { not_inline = h.not_inline; not_recursive = h.not_recursive }
placed_sort may d p (method c g t) h = (record { not_inline = h.0.not_inline; not_recursive = h.0.not_recursive }, h.1)

placed_body : (may : ℕ → Bool) (d : WordDef) (p : Place) → IsLateBody may d → IsLateBody may (record d { place = p })
placed_body may d p h = record { built = placed_sort may d p d.sort h.built; not_inline = h.not_inline; not_recursive = h.not_recursive }

placed_late : (may : ℕ → Bool) (d : WordDef) (p : Place) (l : Late) → IsBuiltLate may d l → IsBuiltLate may (record d { place = p }) l
placed_late may d p settled h = placed_sort may d p d.sort h
placed_late may d p deferred h = tt
placed_late may d p (maker r) h = placed_body may d p h
placed_late may d p (method_of c g) h = placed_body may d p h

pub ok_changed : (k : ℕ) (f : Draft → Draft) (n : ℕ) (ds : List Draft) → ((d : Draft) → draft_ok k d ≡ true → draft_ok k (f d) ≡ true) → list_all (draft_ok k) ds ≡ true → list_all (draft_ok k) (changed f n ds) ≡ true
ok_changed k f n [] keeps h = refl
ok_changed k f zero (d ∷ ds) keeps h = let both = true_both (draft_ok k d) (list_all (draft_ok k) ds) h in and_true (draft_ok k (f d)) (list_all (draft_ok k) ds) (keeps d both.0) both.1
ok_changed k f (suc n) (d ∷ ds) keeps h = let both = true_both (draft_ok k d) (list_all (draft_ok k) ds) h in and_true (draft_ok k d) (list_all (draft_ok k) (changed f n ds)) both.0 (ok_changed k f n ds keeps both.1)

-- a reading in which a name is no more only deferred
abbrev moved : Reading → List ℕ → List ℕ → Place → ℕ → Reading
moved r vocab name p n = record r { scope = record r.scope { table = now_defined vocab name r.scope.table }; words = changed (at_place p) n r.words }

pub moved_keeps : (r : Reading) (vocab name : List ℕ) (p : Place) (n : ℕ) → Keeps r (moved r vocab name p n)
moved_keeps r vocab name p n = record { names = names_changed (at_place p) (λ d. refl) n r.words; words = told_placed p n r.words; table = held_defined r.scope.table vocab name; first = λ none. none }

pub moved_built : (k c : ℕ) (r : Reading) (vocab name : List ℕ) (p : Place) (n : ℕ) → ((d : Draft) → slice_get r.words n ≡ Some d → d.late ≡ deferred) → Counted (moved r vocab name p n) → Built k c r → Built k c (moved r vocab name p n)
moved_built k c r vocab name p n untold counted b =
    let front = b.front in
    let same = length_changed (at_place p) n r.words in
    let below = b.some in
    let keeps = moved_keeps r vocab name p n in
    let table = now_defined vocab name r.scope.table in
    record {
      some = omega (arith, same, below);
      front = front;
      fronted = fronted_changed front (at_place p) n r.words (λ d h. h) untold b.fronted;
      scope = subst (λ (m : ℕ). ScopeIn (is_found front m) (record r.scope { table = table })) (sym same) (record { table = entries_defined (is_found front (length r.words)) vocab name r.scope.table b.scope.table; brought = b.scope.brought });
      words = λ may covers. drafts_changed may (at_place p) n r.words (λ d h. placed_late may d.word p d.late h) (b.words may (covers_fewer front (length r.words) (length (changed (at_place p) n r.words)) may (omega (arith, same)) covers));
      ok = ok_changed k (at_place p) n r.words (λ d h. h) b.ok;
      top = λ may covers. b.top may (covers_fewer front (length r.words) (length (changed (at_place p) n r.words)) may (omega (arith, same)) covers);
      main = λ may covers. b.main may (covers_fewer front (length r.words) (length (changed (at_place p) n r.words)) may (omega (arith, same)) covers);
      distinct = ap has_no_repeats (numbers_placed p n r.words) ∙ b.distinct;
      old = b.old;
      own = b.own;
      count = b.count;
      named = named_kept r.words (changed (at_place p) n r.words) table keeps.names (named_defined r.words vocab name r.scope.table b.named);
      accessors = accessors_kept r.scope.table table 0 (changed (at_place p) n r.words) keeps.table (accessors_placed r.scope.table 0 p n r.words b.accessors);
      held = λ none. held_through r (moved r vocab name p n) keeps (b.held none);
      arrays = λ may covers. b.arrays may (covers_fewer front (length r.words) (length (changed (at_place p) n r.words)) may (omega (arith, same)) covers);
      counted = counted;
    }

-- What a word is told to be.
pub record IsTold (front : List WordDef) (k : ℕ) (n : Numbered) (s : Sort) (e : Signature) (inline recursive : Bool) (late : Late) : Type 0 where
  pub no_primitive : (ks : List ℕ) → numbers_before s ks ≡ ks
  pub new : is_new_sort s ≡ true
  pub built : (may : ℕ → Bool) → Covers front (length n.reading.words) may → (d : WordDef) → IsBuiltLate may (record d { sort = s; effect = e; inline = inline; recursive = recursive }) late
  pub ok : ((class_in k s && late_in s late) && nat_le (name_count e) 65) ≡ true
  pub accessor : AccessorAt n.reading.scope.table n.word s

pub told_keeps : (n : Numbered) (s : Sort) (e : Signature) (inline recursive : Bool) (late : Late) (arrays : List (List Lit)) (first : Option NameFault) → (first ≡ None → n.reading.first ≡ None) → Begins n →
    Keeps n.reading (told s e inline recursive late (record { word = n.word; reading = record n.reading { arrays = arrays; first = first } }))
told_keeps n s e inline recursive late arrays first before begins =
    record { names = names_changed (with_told s e inline recursive late) (λ d. refl) n.word n.reading.words; words = told_other (with_told s e inline recursive late) n.word n.reading.words (λ d at. (begins.fresh.untold d at).1); table = held_same n.reading.scope.table; first = before }

pub told_built : (k c : ℕ) (n : Numbered) (s : Sort) (e : Signature) (inline recursive : Bool) (late : Late) (arrays : List (List Lit)) (first : Option NameFault) (b : Built k c n.reading) → IsTold b.front k n s e inline recursive late → (first ≡ None → n.reading.first ≡ None) →
    ((may : ℕ → Bool) → Covers b.front (length n.reading.words) may → AreArraysOf may arrays) → Adds n.reading.arrays arrays (names_by s) → Begins n → Built k c (told s e inline recursive late (record { word = n.word; reading = record n.reading { arrays = arrays; first = first } }))
told_built k c n s e inline recursive late arrays first b t before is_built adds begins =
    let r = n.reading in
    let w = n.word in
    let f = with_told s e inline recursive late in
    let front = b.front in
    let same = length_changed f w r.words in
    let below = b.some in
    let keeps = told_keeps n s e inline recursive late arrays first before begins in
    record {
      some = omega (arith, same, below);
      front = front;
      fronted = fronted_changed front f w r.words (λ d h. t.new) (λ d at. (begins.fresh.untold d at).1) b.fronted;
      scope = subst (λ (m : ℕ). ScopeIn (is_found front m) r.scope) (sym same) b.scope;
      words = λ may covers. (let fewer = covers_fewer front (length r.words) (length (changed f w r.words)) may (omega (arith, same)) covers in drafts_changed may f w r.words (λ d is. t.built may fewer d.word) (b.words may fewer));
      ok = ok_changed k f w r.words (λ d h. t.ok) b.ok;
      top = λ may covers. b.top may (covers_fewer front (length r.words) (length (changed f w r.words)) may (omega (arith, same)) covers);
      main = λ may covers. b.main may (covers_fewer front (length r.words) (length (changed f w r.words)) may (omega (arith, same)) covers);
      distinct = told_distinct f w r.words (λ d. t.no_primitive) b.distinct;
      old = b.old;
      own = b.own;
      count = b.count;
      named = named_kept r.words (changed f w r.words) r.scope.table keeps.names b.named;
      accessors = accessors_told r.scope.table 0 w s f r.words (λ d. refl) (λ name is. subst (λ (m : ℕ). word_held r.scope.table (codes "accessors") name ≡ Some m) (let e : w ≡ w + 0 = omega arith in e) (t.accessor name is)) b.accessors;
      held = λ none. held_through r (told s e inline recursive late (record { word = n.word; reading = record n.reading { arrays = arrays; first = first } })) keeps (b.held (before none));
      arrays = λ may covers. is_built may (covers_fewer front (length r.words) (length (changed f w r.words)) may (omega (arith, same)) covers);
      counted = told_counted n s e inline recursive late arrays first adds begins;
    }

-- The top-level phrase.

pub with_top : (k c : ℕ) (r : Reading) (t : Phrase) (arrays : List (List Lit)) (first : Option NameFault) (b : Built k c r) → (first ≡ None → r.first ≡ None) → ((may : ℕ → Bool) → Covers b.front (length r.words) may → IsPhraseOf may (append r.top t)) → ((may : ℕ → Bool) → Covers b.front (length r.words) may → AreArraysOf may arrays) → Adds r.arrays arrays (arrays_named t) →
    Built k c (record r { top = append r.top t; arrays = arrays; first = first })
with_top k c r t arrays first b before h is_built adds =
    record { some = b.some; front = b.front; fronted = b.fronted; scope = b.scope; words = b.words; ok = b.ok; top = h; main = b.main; distinct = b.distinct; old = b.old; own = b.own; count = b.count; named = b.named; accessors = b.accessors; held = λ none. b.held (before none); arrays = is_built; counted = items_counted r t arrays first adds b.counted }

pub with_main : (k c : ℕ) (r : Reading) (t : Phrase) (first : Option NameFault) (b : Built k c r) → (first ≡ None → r.first ≡ None) → ((may : ℕ → Bool) → Covers b.front (length r.words) may → IsPhraseOf may t) → arrays_named t ≡ [] → Built k c (record r { main = t; first = first })
with_main k c r t first b before h none =
    record { some = b.some; front = b.front; fronted = b.fronted; scope = b.scope; words = b.words; ok = b.ok; top = b.top; main = h; distinct = b.distinct; old = b.old; own = b.own; count = b.count; named = b.named; accessors = b.accessors; held = λ is_none. b.held (before is_none); arrays = b.arrays; counted = main_counted r t first none b.counted }

-- A class more.

pub with_class : (k c : ℕ) (r : Reading) (d : NewClass) (first : Option NameFault) → (first ≡ None → r.first ≡ None) → own_few d.names ≡ true → (r.first ≡ None → WordHeld r.words r.scope.table d.word c) → Built k c r → Built k (suc c) (record r { classes = r.classes ++ d ∷ []; first = first })
with_class k c r d first before few is_held b =
    let longer = length_push r.classes d in
    let count = b.count in
    record {
      some = b.some;
      front = b.front;
      fronted = b.fronted;
      scope = b.scope;
      words = b.words;
      ok = b.ok;
      top = b.top;
      main = b.main;
      distinct = b.distinct;
      old = b.old;
      own = list_all-append (λ (x : NewClass). own_few x.names) r.classes (d ∷ []) ∙ and_true (list_all (λ (x : NewClass). own_few x.names) r.classes) (own_few d.names && true) b.own (and_true (own_few d.names) true few refl);
      count = omega (arith, longer, count);
      named = b.named;
      accessors = b.accessors;
      held = λ none. ((b.held (before none)).0, new_with r.words r.scope.table (length r.old_classes) r.classes d (b.held (before none)).1 (subst (WordHeld r.words r.scope.table d.word) (sym count) (is_held (before none))));
      arrays = b.arrays;
      counted = record { ascending = b.counted.ascending; spared = b.counted.spared; once = b.counted.once; earlier = b.counted.earlier; main_none = b.counted.main_none };
    }
