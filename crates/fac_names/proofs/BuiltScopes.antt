-- What names find are words that pass a test, where those of the scope do.
use Rattle.std.proofs.Common.{◌≡◌, ◌<◌, ◌+◌, ℕ, List, [], ◌∷◌, ◌++◌, length, drop, Option, Some, None, Bool, true, false}
use Rattle.std.specs.Prelude.{nat_eq, if◌then◌else◌, ◌&&◌, codes}
use Rattle.std.specs.List.{find, starts_with}
use Rattle.std.specs.Str.{bytes_eq}
use Rattle.fac_lang.specs.Classes.{bytes_before}
use Rattle.fac_vocab.specs.declared.brought.Brought.{Brought}
use Rattle.fac_vocab.specs.declared.brought.Brought.TheVariants.{Named as named, Prefixed as prefixed}
use Rattle.fac_vocab.specs.declared.entry.Entry.{Entry}
use Rattle.fac_vocab.specs.Scopes.{Scope, Found, the, unknown, ambiguous, all_used, companion, found, full_text, given_by, held, latest, now_defined, only_one, or_else, put_in_order, word_held}
use Rattle.fac_items.specs.Written.{Tok}
use Rattle.fac_source.specs.Toks.{number}
use Rattle.fac_items.specs.Items.{word_of}

abbrev pub EntriesIn : (ℕ → Bool) → List Entry → Type 0
EntriesIn good [] = Unit {0}
EntriesIn good (e ∷ es) = (good e.word ≡ true) × EntriesIn good es

abbrev pub BroughtIn : (ℕ → Bool) → List Brought → Type 0
BroughtIn good [] = Unit {0}
BroughtIn good (named name w ∷ bs) = (good w ≡ true) × BroughtIn good bs
BroughtIn good (prefixed vocab p ∷ bs) = BroughtIn good bs

-- the words of a scope pass a test
pub record ScopeIn (good : ℕ → Bool) (s : Scope) : Type 0 where
  pub table : EntriesIn good s.table
  pub brought : BroughtIn good s.brought

abbrev pub WordIn : (ℕ → Bool) → Option ℕ → Type 0
WordIn good None = Unit {0}
WordIn good (Some w) = good w ≡ true

abbrev EntryIn : (ℕ → Bool) → Option Entry → Type 0
EntryIn good None = Unit {0}
EntryIn good (Some e) = good e.word ≡ true

-- More words.

pub entries_more : (good other : ℕ → Bool) (es : List Entry) → ((w : ℕ) → good w ≡ true → other w ≡ true) → EntriesIn good es → EntriesIn other es
entries_more good other [] more_words h = tt
entries_more good other (e ∷ es) more_words h = (more_words e.word h.0, entries_more good other es more_words h.1)

pub brought_more : (good other : ℕ → Bool) (bs : List Brought) → ((w : ℕ) → good w ≡ true → other w ≡ true) → BroughtIn good bs → BroughtIn other bs
brought_more good other [] more_words h = tt
brought_more good other (named name w ∷ bs) more_words h = (more_words w h.0, brought_more good other bs more_words h.1)
brought_more good other (prefixed vocab p ∷ bs) more_words h = brought_more good other bs more_words h

pub scope_more : (good other : ℕ → Bool) (s : Scope) → ((w : ℕ) → good w ≡ true → other w ≡ true) → ScopeIn good s → ScopeIn other s
scope_more good other s more_words h = record { table = entries_more good other s.table more_words h.table; brought = brought_more good other s.brought more_words h.brought }

-- the words of entries are below a number
abbrev pub EntriesBelow : ℕ → List Entry → Type 0
EntriesBelow n [] = Unit {0}
EntriesBelow n (e ∷ es) = (e.word < n) × EntriesBelow n es

pub entries_below : (good : ℕ → Bool) (n : ℕ) (es : List Entry) → ((w : ℕ) → good w ≡ true → w < n) → EntriesIn good es → EntriesBelow n es
entries_below good n [] below h = tt
entries_below good n (e ∷ es) below h = (below e.word h.0, entries_below good n es below h.1)

pub entries_with : (good : ℕ → Bool) (es : List Entry) (e : Entry) → EntriesIn good es → good e.word ≡ true → EntriesIn good (es ++ e ∷ [])
entries_with good [] e h k = (k, tt)
entries_with good (f ∷ es) e h k = (h.0, entries_with good es e h.1 k)

defined_now : (good : ℕ → Bool) (b : Bool) (e : Entry) (es fs : List Entry) → EntriesIn good (e ∷ es) → EntriesIn good fs → EntriesIn good (if b then record e { is_defined = true } ∷ es else e ∷ fs)
defined_now good true e es fs h k = h
defined_now good false e es fs h k = (h.0, k)

pub entries_defined : (good : ℕ → Bool) (vocab name : List ℕ) (es : List Entry) → EntriesIn good es → EntriesIn good (now_defined vocab name es)
entries_defined good vocab name [] h = tt
entries_defined good vocab name (e ∷ es) h = defined_now good (bytes_eq name e.name && bytes_eq vocab e.vocab) e es (now_defined vocab name es) h (entries_defined good vocab name es h.1)

-- The search.

entry_if : (good : ℕ → Bool) (b : Bool) (e : Entry) (o : Option Entry) → good e.word ≡ true → EntryIn good o → EntryIn good (if b then Some e else o)
entry_if good true e o h k = h
entry_if good false e o h k = k

found_entry : (good : ℕ → Bool) (p : Entry → Bool) (es : List Entry) → EntriesIn good es → EntryIn good (find p es)
found_entry good p [] h = tt
found_entry good p (e ∷ es) h = entry_if good (p e) e (find p es) h.0 (found_entry good p es h.1)

entry_held : (good : ℕ → Bool) (table : List Entry) (vocab name : List ℕ) → EntriesIn good table → EntryIn good (held table vocab name)
entry_held good table vocab name h = found_entry good (λ e. bytes_eq name e.name && bytes_eq vocab e.vocab) table h

its_word : (good : ℕ → Bool) (o : Option Entry) → EntryIn good o → WordIn good (elim o [ Some e ↦ Some e.word | None ↦ None ])
its_word good (Some e) h = h
its_word good None h = tt

pub word_in_held : (good : ℕ → Bool) (table : List Entry) (vocab name : List ℕ) → EntriesIn good table → WordIn good (word_held table vocab name)
word_in_held good table vocab name h = its_word good (held table vocab name) (entry_held good table vocab name h)

either_in : (good : ℕ → Bool) (o p : Option ℕ) → WordIn good o → WordIn good p → WordIn good (or_else o p)
either_in good (Some w) p h k = h
either_in good None p h k = k

word_if : (good : ℕ → Bool) (b : Bool) (o : Option ℕ) → WordIn good o → WordIn good (if b then o else None)
word_if good true o h = h
word_if good false o h = tt

latest_in : (good : ℕ → Bool) (table : List Entry) (name : List ℕ) (bs : List Brought) → EntriesIn good table → BroughtIn good bs → WordIn good (latest table name bs)
latest_in good table name [] h k = tt
latest_in good table name (named x w ∷ bs) h k = either_in good (given_by table name (named x w)) (latest table name bs) (word_if good (bytes_eq name x) (Some w) k.0) (latest_in good table name bs h k.1)
latest_in good table name (prefixed vocab p ∷ bs) h k =
    either_in good (given_by table name (prefixed vocab p)) (latest table name bs)
    (word_if good (starts_with nat_eq name (p ++ codes ":")) (word_held table vocab (drop (length p + 1) name)) (word_in_held good table vocab (drop (length p + 1) name) h))
    (latest_in good table name bs h k)

ordered_if : (good : ℕ → Bool) (b : Bool) (e f : Entry) (es fs : List Entry) → good e.word ≡ true → good f.word ≡ true → EntriesIn good es → EntriesIn good fs → EntriesIn good (if b then f ∷ es else e ∷ f ∷ fs)
ordered_if good true e f es fs h k l m = (k, l)
ordered_if good false e f es fs h k l m = (h, (k, m))

ordered_in : (good : ℕ → Bool) (e : Entry) (es : List Entry) → good e.word ≡ true → EntriesIn good es → EntriesIn good (put_in_order e es)
ordered_in good e [] h k = (h, tt)
ordered_in good e (f ∷ fs) h k = ordered_if good (bytes_before (full_text f) (full_text e)) e f (put_in_order e fs) fs h k.0 (ordered_in good e fs h k.1) k.1

with_used : (good : ℕ → Bool) (o : Option Entry) (es : List Entry) → EntryIn good o → EntriesIn good es → EntriesIn good (elim o [ Some e ↦ put_in_order e es | None ↦ es ])
with_used good (Some e) es h k = ordered_in good e es h k
with_used good None es h k = k

used_in : (good : ℕ → Bool) (table : List Entry) (name : List ℕ) (vs : List (List ℕ)) → EntriesIn good table → EntriesIn good (all_used table name vs)
used_in good table name [] h = tt
used_in good table name (v ∷ vs) h = with_used good (held table v name) (all_used table name vs) (entry_held good table v name h) (used_in good table name vs h)

abbrev FoundIn : (ℕ → Bool) → Found → Type 0
FoundIn good (the w) = good w ≡ true
FoundIn good unknown = Unit {0}
FoundIn good (ambiguous e f) = Unit {0}

one_in : (good : ℕ → Bool) (es : List Entry) → EntriesIn good es → FoundIn good (only_one es)
one_in good [] h = tt
one_in good (e ∷ []) h = h.0
one_in good (e ∷ f ∷ es) h = tt

search_in : (good : ℕ → Bool) (o : Option ℕ) (es : List Entry) → WordIn good o → EntriesIn good es → FoundIn good (elim o [ Some w ↦ the w | None ↦ only_one es ])
search_in good (Some w) es h k = h
search_in good None es h k = one_in good es k

found_in : (good : ℕ → Bool) (s : Scope) (name : List ℕ) → ScopeIn good s → FoundIn good (found s name)
unfolding found
found_in good s name h =
    let near = or_else (word_held s.table s.current name) (or_else (word_held s.table (companion s.current) name) (latest s.table name s.brought)) in
    search_in good near (all_used s.table name s.used)
    (either_in good (word_held s.table s.current name) (or_else (word_held s.table (companion s.current) name) (latest s.table name s.brought)) (word_in_held good s.table s.current name h.table)
    (either_in good (word_held s.table (companion s.current) name) (latest s.table name s.brought) (word_in_held good s.table (companion s.current) name h.table) (latest_in good s.table name s.brought h.table h.brought)))
    (used_in good s.table name s.used h.table)

number_in : (good : ℕ → Bool) (f : Found) → good 0 ≡ true → FoundIn good f → good (number (elim f [ the w ↦ Some w | _ ↦ None ])) ≡ true
number_in good (the w) some h = h
number_in good unknown some h = some
number_in good (ambiguous e f) some h = some

-- a name's word, or the first one where the name is refused
pub word_of_in : (good : ℕ → Bool) (s : Scope) (t : Tok) → good 0 ≡ true → ScopeIn good s → good (word_of s t) ≡ true
word_of_in good s t some h = number_in good (found s t.text) some (found_in good s t.text h)
