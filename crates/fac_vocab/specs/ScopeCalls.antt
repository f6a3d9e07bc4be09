-- What the calls of a scope promise, by cases on their answers.
use Rattle.std.specs.Prelude.{ℕ, ◌≡◌, List, [], ◌∷◌, Option, Some, None, Result, Ok, Err, Bool, true, false}
use Rattle.std.specs.List.{list_any}
use Rattle.fac_lang.specs.Whole.{no_two, same_name}
use Rattle.fac_base.specs.declared.name.Name.{Name as FullName}
use Rattle.fac_vocab.specs.declared.answers.ScopeFault.{ScopeFault}
use Rattle.fac_vocab.specs.declared.answers.ScopeFault.TheVariants.{Twice, NoVocab, Unknown as Missing, Memory}
use Rattle.fac_vocab.specs.declared.answers.Found.{Found as Answer}
use Rattle.fac_vocab.specs.declared.answers.Found.TheVariants.{Word, Unknown, Ambiguous}
use Rattle.fac_vocab.specs.declared.answers.NameState.{NameState}
use Rattle.fac_vocab.specs.declared.answers.NameState.TheVariants.{New, Deferred, Defined}
use Rattle.fac_vocab.specs.Scopes.{Entry, named, prefixed, Scope, word_held, Found, the, unknown, ambiguous, found, exists, using_vocab, bringing, holders, with_entry, now_defined}

-- the full name of an entry
abbrev pub name_of : Entry → FullName
name_of e = record { vocab = e.vocab; name = e.name }

-- whether no vocabulary has a name twice
abbrev pub names_differ : List Entry → Bool
names_differ table = no_two (λ e f. same_name (name_of e) (name_of f)) table

-- The search.

-- what a search answers: numbers of words
abbrev pub answer_of : Found → Answer
answer_of (the w) = Word w
answer_of unknown = Unknown
answer_of (ambiguous e f) = Ambiguous e.word f.word

abbrev pub Finds : Scope → List ℕ → Answer → Type 0
Finds s name answer = answer_of (found s name) ≡ answer

-- the full names between which a search is ambiguous
abbrev pub names_between : Found → Option (FullName × FullName)
names_between (ambiguous e f) = Some (name_of e, name_of f)
names_between _ = None

-- Definitions.

abbrev pub standing_with : Bool → ℕ → NameState
standing_with true w = Defined
standing_with false w = Deferred w

-- how a name stands that has these holders
abbrev pub standing_of : List Entry → NameState
standing_of [] = New
standing_of (e ∷ es) = standing_with (list_any (λ (f : Entry). f.is_defined) (e ∷ es)) e.word

abbrev pub Stands : Scope → FullName → NameState → Type 0
Stands s name standing = standing_of (holders s.table name.vocab name.name) ≡ standing

-- A call that changes a scope: an answer comes with the next scope alone, and after a refusal all is as before.
abbrev pub Changes : Scope → Scope → Result Unit ScopeFault → Option Scope → ScopeFault → Type 0
Changes old new (Ok done) (Some next) why = new ≡ next
Changes old new (Ok done) None why = ⊥
Changes old new (Err Memory) next why = new ≡ old
Changes old new (Err other) next why = (new ≡ old) × (next ≡ None) × (other ≡ why)

-- of names that are only deferred the first is defined now, and keeps its word
abbrev pub defining_deferred : Scope → Entry → Bool → Option Scope
defining_deferred s e true = None
defining_deferred s e false = Some (record s { table = now_defined e.vocab e.name s.table })

-- A name without holders is new. Where all of them are only deferred the first is defined now, and keeps its word.
abbrev pub scope_defining : Scope → FullName → ℕ → List Entry → Option Scope
scope_defining s name w [] = Some (with_entry name.vocab name.name w true s)
scope_defining s name w (e ∷ es) = defining_deferred s e (list_any (λ (f : Entry). f.is_defined) (e ∷ es))

abbrev pub Defines : Scope → FullName → ℕ → Scope → Result Unit ScopeFault → Type 0
Defines old name w new result = Changes old new result (scope_defining old name w (holders old.table name.vocab name.name)) Twice

abbrev pub scope_deferring : Scope → FullName → ℕ → List Entry → Option Scope
scope_deferring s name w [] = Some (with_entry name.vocab name.name w false s)
scope_deferring s name w (e ∷ es) = None

abbrev pub Defers : Scope → FullName → ℕ → Scope → Result Unit ScopeFault → Type 0
Defers old name w new result = Changes old new result (scope_deferring old name w (holders old.table name.vocab name.name)) Twice

-- What a file uses.

abbrev pub where_exists : Bool → Scope → Option Scope
where_exists true next = Some next
where_exists false next = None

abbrev pub Uses : Scope → List ℕ → Scope → Result Unit ScopeFault → Type 0
Uses old vocab new result = Changes old new result (where_exists (exists old vocab) (using_vocab vocab old)) NoVocab

abbrev pub Qualifies : Scope → List ℕ → List ℕ → Scope → Result Unit ScopeFault → Type 0
Qualifies old vocab p new result = Changes old new result (where_exists (exists old vocab) (bringing (prefixed vocab p) old)) NoVocab

-- one name, where its vocabulary holds it
abbrev pub bringing_word : Scope → List ℕ → Option ℕ → Option Scope
bringing_word s name (Some w) = Some (bringing (named name w) s)
bringing_word s name None = None

abbrev pub BringsOne : Scope → List ℕ → List ℕ → Scope → Result Unit ScopeFault → Type 0
BringsOne old vocab name new result = Changes old new result (bringing_word old name (word_held old.table vocab name)) Missing
