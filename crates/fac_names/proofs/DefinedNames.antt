-- The word of a name that is defined.
use Rattle.std.proofs.Common.{◌≡◌, ℕ, zero, suc, List, [], ◌∷◌, ◌++◌, length, fold, Option, Some, None, Bool, true, false, refl, ap, ◌∙◌}
use Rattle.std.specs.Prelude.{if◌then◌else◌, slice_get}
use Rattle.std.specs.List.{list_any}
use Rattle.std.specs.Option.{option_map}
use Rattle.fac_base.specs.declared.name.Name.{Name as FullName}
use Rattle.fac_vocab.specs.declared.entry.Entry.{Entry}
use Rattle.fac_vocab.specs.Scopes.{holders, home, now_defined, with_entry, word_held}
use Rattle.fac_source.specs.declared.refusal.NameFault.{NameFault}
use Rattle.fac_source.specs.declared.refusal.NameKind.TheVariants.{Twice}
use Rattle.fac_source.specs.Refusals.{fault, sooner}
use Rattle.fac_items.specs.Written.{Tok}
use Rattle.fac_items.specs.Items.{entry_name}
use Rattle.fac_endings.specs.declared.draft.Draft.{Draft}
use Rattle.fac_names.specs.Forms.{Numbered, Reading, added, at_place, changed, defined, defining, deferring, draft_of, in_table, own, refused}
use Rattle.fac_names.proofs.ArrayReadings.{Begins, defining_begins, deferring_counted}
use Rattle.fac_names.proofs.EntryLemmas.{exactly, first_found}
use Rattle.fac_names.proofs.BuiltReadings.{Adds_word, Built, Keeps, entered_word, moved_built, moved_keeps, refused_built, table_below, wider, with_word, word_keeps}
use Rattle.fac_names.proofs.Fronts.{new_spared}
use Rattle.fac_names.proofs.HeldNames.{held_defined, held_new, held_same, held_with, kept_then, named_found, named_kept, named_with, names_push, told_same}

-- First refusals.

no_more : (o : Option NameFault) (f : NameFault) → sooner o f ≡ None → ⊥
no_more None f h = cc
no_more (Some g) f h = cc

-- where there is none, there was none before
pub none_before : (o : Option NameFault) (fs : List NameFault) → fold sooner o fs ≡ None → o ≡ None
none_before o [] h = h
none_before None (f ∷ fs) h = refl
none_before (Some g) (f ∷ fs) h = absurd (no_more (Some g) f (none_before (sooner (Some g) f) fs h))

-- What stays.

pub stays_then : (p q r : Reading) → Keeps p q → Keeps q r → Keeps p r
stays_then p q r h k =
    record {
      names = λ w name is. k.names w name (h.names w name is);
      words = λ w d at late. kept_then q.words r.words w d late k.words (h.words w d at late);
      table = λ v n w is. k.table v n w (h.table v n w is);
      first = λ none. h.first (k.first none);
    }

pub keeps_refused : (r : Reading) (fs : List NameFault) → Keeps r (refused fs r)
keeps_refused r fs = record { names = λ w name is. is; words = told_same r.words; table = held_same r.scope.table; first = none_before r.first fs }

-- The word of a definition.

-- where nothing is refused, a word's name is held
pub record NameHeld (n : Numbered) : Type 0 where
  pub draft : Draft
  pub at : slice_get n.reading.words n.word ≡ Some draft
  pub held : word_held n.reading.scope.table draft.word.name.vocab draft.word.name.name ≡ Some n.word

-- what a name comes to that is defined
pub record IsDefined (k c : ℕ) (r : Reading) (n : Numbered) : Type 0 where
  pub built : Built k c n.reading
  pub keeps : Keeps r n.reading
  pub begins : Begins n
  pub name_held : n.reading.first ≡ None → NameHeld n

last_at : {A : Type 0} (xs : List A) (x : A) → slice_get (xs ++ x ∷ []) (length xs) ≡ Some x
last_at [] x = refl
last_at (y ∷ xs) x = last_at xs x

pub changed_here : (f : Draft → Draft) (n : ℕ) (ds : List Draft) (d : Draft) → slice_get ds n ≡ Some d → slice_get (changed f n ds) n ≡ Some (f d)
changed_here f n [] d h = absurd (cc)
changed_here f zero (x ∷ ds) d h = let same : x ≡ d = cc in ap (λ (y : Draft). Some (f y)) same
changed_here f (suc n) (x ∷ ds) d h = changed_here f n ds d h

name_there : (ds : List Draft) (w : ℕ) (name : FullName) (o : Option Draft) → slice_get ds w ≡ o → option_map (λ (d : Draft). d.word.name) o ≡ Some name → (d : Draft) × (slice_get ds w ≡ Some d) × (d.word.name ≡ name)
name_there ds w name None at h = absurd (cc)
name_there ds w name (Some d) at h = (d, at, (let same : d.word.name ≡ name = cc in same))

-- a new word, with an entry or with none
with_entry_word : (r : Reading) (vocab : List ℕ) (t : Tok) (b : Bool) (k c : ℕ) (built : Built k c r) → Adds_word built.front r (with_entry vocab t.text (length r.words) b r.scope) vocab t r.first
with_entry_word r vocab t b k c built =
    let e : Entry = record { vocab = vocab; name = t.text; word = length r.words; is_defined = b } in
    record {
      below = entered_word built.front (length r.words) r.scope vocab t.text b (new_spared built.front r.words built.fronted) built.scope;
      table = held_with r.scope.table e;
      named = named_with (r.words ++ draft_of vocab t ∷ []) r.scope.table e (named_kept r.words (r.words ++ draft_of vocab t ∷ []) r.scope.table (names_push r.words (draft_of vocab t)) built.named) (ap (option_map (λ (d : Draft). d.word.name)) (last_at r.words (draft_of vocab t)));
      first_before = λ none. none;
    }

pub with_no_entry : (r : Reading) (vocab : List ℕ) (t : Tok) (first : Option NameFault) (k c : ℕ) → (first ≡ None → r.first ≡ None) → (built : Built k c r) → Adds_word built.front r r.scope vocab t first
with_no_entry r vocab t first k c before built =
    record {
      below = wider built.front (length r.words) r.scope built.scope;
      table = held_same r.scope.table;
      named = named_kept r.words (r.words ++ draft_of vocab t ∷ []) r.scope.table (names_push r.words (draft_of vocab t)) built.named;
      first_before = before;
    }

pub new_defined : (k c : ℕ) (vocab : List ℕ) (t : Tok) (r : Reading) → holders r.scope.table vocab t.text ≡ [] → Built k c r → IsDefined k c r (in_table vocab t true (added vocab t r))
new_defined k c vocab t r none b =
    let adds = with_entry_word r vocab t true k c b in
    let begins = defining_begins vocab t r [] none (table_below k c r b) b.counted in
    record {
      built = with_word k c r _ vocab t r.first b adds begins.counted;
      keeps = word_keeps b.front r _ vocab t r.first adds;
      begins = begins;
      name_held = λ is_none. record { draft = draft_of vocab t; at = last_at r.words (draft_of vocab t); held = held_new r.scope.table _ none };
    }

refused_defined : (k c : ℕ) (vocab : List ℕ) (t : Tok) (r : Reading) → Built k c r → Begins (added vocab t (refused (fault Twice t ∷ []) r)) → IsDefined k c r (added vocab t (refused (fault Twice t ∷ []) r))
refused_defined k c vocab t r b begins =
    let first = sooner r.first (fault Twice t) in
    let adds = with_no_entry r vocab t first k c (none_before r.first (fault Twice t ∷ [])) b in
    record {
      built = with_word k c r r.scope vocab t first b adds begins.counted;
      keeps = word_keeps b.front r r.scope vocab t first adds;
      begins = begins;
      name_held = λ none. absurd (no_more r.first (fault Twice t) none);
    }

abbrev settled_name : Tok → Reading → Entry → Numbered
settled_name t r e = record { word = e.word; reading = record r { scope = record r.scope { table = now_defined e.vocab e.name r.scope.table }; words = changed (at_place t.place) e.word r.words } }

moved_defined : (k c : ℕ) (vocab : List ℕ) (t : Tok) (r : Reading) (e : Entry) (others : List Entry) → holders r.scope.table vocab t.text ≡ e ∷ others → Built k c r → Begins (settled_name t r e) → IsDefined k c r (settled_name t r e)
moved_defined k c vocab t r e others held b begins =
    let there = first_found vocab t.text r.scope.table e others held in
    let d = name_there r.words e.word (entry_name e) (slice_get r.words e.word) refl (named_found r.words (exactly e) r.scope.table e b.named there) in
    record {
      built = moved_built k c r e.vocab e.name t.place e.word (λ x at. (begins.fresh.untold (at_place t.place x) (changed_here (at_place t.place) e.word r.words x at)).1) begins.counted b;
      keeps = moved_keeps r e.vocab e.name t.place e.word;
      begins = begins;
      name_held = λ none. record {
        draft = at_place t.place d.0;
        at = changed_here (at_place t.place) e.word r.words d.0 d.1;
        held =
            ap (λ (n : FullName). word_held (now_defined e.vocab e.name r.scope.table) n.vocab n.name) d.2
            ∙ held_defined r.scope.table e.vocab e.name e.vocab e.name e.word (ap (option_map (λ (x : Entry). x.word)) there);
      };
    }

defining_built : (k c : ℕ) (vocab : List ℕ) (t : Tok) (r : Reading) (es : List Entry) → holders r.scope.table vocab t.text ≡ es → Built k c r → IsDefined k c r (defining vocab t r es)
defining_built k c vocab t r [] held b = new_defined k c vocab t r held b
defining_built k c vocab t r (e ∷ es) held b = one (list_any (λ (f : Entry). f.is_defined) (e ∷ es)) (defining_begins vocab t r (e ∷ es) held (table_below k c r b) b.counted)
  where
    one : (defined_is : Bool) → Begins (if defined_is then added vocab t (refused (fault Twice t ∷ []) r) else settled_name t r e) → IsDefined k c r (if defined_is then added vocab t (refused (fault Twice t ∷ []) r) else settled_name t r e)
    one true begins = refused_defined k c vocab t r b begins
    one false begins = moved_defined k c vocab t r e es held b begins

defined_built : (k c : ℕ) (vocab : List ℕ) (t : Tok) (r : Reading) → Built k c r → IsDefined k c r (defined vocab t r)
defined_built k c vocab t r b = defining_built k c vocab t r (holders r.scope.table vocab t.text) refl b

pub own_built : (k c : ℕ) (t : Tok) (r : Reading) → Built k c r → IsDefined k c r (own t r)
own_built k c t r b = defined_built k c (home r.scope) t r b

pub deferring_built : (k c : ℕ) (t : Tok) (r : Reading) (es : List Entry) → Built k c r → Built k c (deferring t r es)
deferring_built k c t r [] b = with_word k c r _ (home r.scope) t r.first b (with_entry_word r (home r.scope) t false k c b) (deferring_counted t r [] (table_below k c r b) b.counted)
deferring_built k c t r (e ∷ es) b = refused_built k c r (sooner r.first (fault Twice t)) (none_before r.first (fault Twice t ∷ [])) b
