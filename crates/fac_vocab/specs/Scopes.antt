-- Vocabularies, what a file uses of them, and the search order.
use Rattle.std.specs.Prelude.{ℕ, ◌+◌, nat_eq, List, [], ◌∷◌, ◌++◌, length, drop, fold, map, Option, Some, None, Bool, true, false, ◌&&◌, ◌||◌, not, codes, if◌then◌else◌}
use Rattle.std.specs.List.{list_any, filter, find, starts_with}
use Rattle.std.specs.Option.{option_map}
use Rattle.std.specs.Str.{bytes_eq}
use Rattle.fac_lang.specs.Classes.{bytes_before}
use Rattle.fac_lang.specs.declared.program.WordDef.{WordDef}
use Rattle.fac_vocab.specs.declared.vocabularies.TheConstants.{VOCABULARIES}
-- One name of a vocabulary: its word, and whether it is defined or only deferred.
pub use Rattle.fac_vocab.specs.declared.entry.Entry.{Entry}
-- What `FROM:` or `QUALIFIED-WITH:` brought: a name with its word, or the names of a vocabulary behind a prefix.
pub use Rattle.fac_vocab.specs.declared.brought.Brought.{Brought}
pub use Rattle.fac_vocab.specs.declared.brought.Brought.TheVariants.{Named as named, Prefixed as prefixed}

pub record Scope : Type 0 where
  -- the names of all vocabularies, in the order of their first forms
  pub table : List Entry
  -- the vocabularies that there are, but for companions of these
  pub vocabs : List (List ℕ)
  pub current : List ℕ
  pub in_private : Bool
  pub used : List (List ℕ)
  -- the latest first
  pub brought : List Brought

-- the vocabulary of the names that are private to one
abbrev pub companion : List ℕ → List ℕ
companion vocab = vocab ++ codes ".private"

-- The search.

-- what a vocabulary holds under a name
abbrev pub held : List Entry → List ℕ → List ℕ → Option Entry
held table vocab name = find (λ e. bytes_eq name e.name && bytes_eq vocab e.vocab) table

abbrev pub word_held : List Entry → List ℕ → List ℕ → Option ℕ
word_held table vocab name = option_map (λ e. e.word) (held table vocab name)

abbrev pub or_else : Option ℕ → Option ℕ → Option ℕ
or_else (Some w) other = Some w
or_else None other = other

abbrev pub given_by : List Entry → List ℕ → Brought → Option ℕ
given_by table name (named n w) = (if bytes_eq name n then Some w else None)
given_by table name (prefixed vocab p) = (if starts_with nat_eq name (p ++ codes ":") then word_held table vocab (drop (length p + 1) name) else None)

abbrev pub latest : List Entry → List ℕ → List Brought → Option ℕ
latest table name [] = None
latest table name (b ∷ bs) = or_else (given_by table name b) (latest table name bs)

abbrev pub full_text : Entry → List ℕ
full_text e = e.vocab ++ 58 ∷ e.name

-- an entry put into a list by the byte order of full names
abbrev pub put_in_order : Entry → List Entry → List Entry
put_in_order e [] = e ∷ []
put_in_order e (f ∷ fs) = (if bytes_before (full_text f) (full_text e) then f ∷ put_in_order e fs else e ∷ f ∷ fs)

-- what the used vocabularies hold under a name
abbrev pub all_used : List Entry → List ℕ → List (List ℕ) → List Entry
all_used table name [] = []
all_used table name (v ∷ vs) = elim (held table v name) [ Some e ↦ put_in_order e (all_used table name vs) | None ↦ all_used table name vs ]

pub data Found : Type 0 where
  the : ℕ → Found
  unknown : Found
  ambiguous : Entry → Entry → Found

abbrev pub only_one : List Entry → Found
only_one [] = unknown
only_one (e ∷ []) = the e.word
only_one (e ∷ f ∷ es) = ambiguous e f

-- The word of a name: of the current vocabulary or its companion; or else of what was brought, the latest first; or else the one word
-- that the used vocabularies have.
unfoldable pub found : Scope → List ℕ → Found
found s name =
    elim (or_else (word_held s.table s.current name) (or_else (word_held s.table (companion s.current) name) (latest s.table name s.brought))) [
      | Some w ↦ the w
      | None ↦ only_one (all_used s.table name s.used)
    ]

-- Vocabularies.

-- these bytes, and then any number of times `.private`
abbrev pub is_companion_of : List ℕ → List ℕ → Bool
is_companion_of [] [] = true
is_companion_of [] (c ∷ cs) = nat_eq c 46 && is_companion_of (codes "private") cs
is_companion_of (p ∷ ps) [] = false
is_companion_of (p ∷ ps) (c ∷ cs) = nat_eq c p && is_companion_of ps cs

-- A vocabulary that was named, or a companion: `v.private` exists where `v` does.
abbrev pub exists : Scope → List ℕ → Bool
exists s vocab = list_any (λ v. is_companion_of v vocab) s.vocabs

abbrev pub with_vocab : List (List ℕ) → List ℕ → List (List ℕ)
with_vocab vocabs vocab = (if list_any (bytes_eq vocab) vocabs then vocabs else vocabs ++ vocab ∷ [])

-- whether a name ends in `.private`
abbrev pub is_private : List ℕ → Bool
is_private [] = false
is_private (c ∷ cs) = bytes_eq (c ∷ cs) (codes ".private") || is_private cs

-- Changes of a scope.

-- a file begins
abbrev pub begun : Scope → Scope
begun s = record s { current = codes "scratchpad"; in_private = false; used = codes "syntax" ∷ []; brought = [] }

abbrev pub entered : List ℕ → Scope → Scope
entered vocab s = record s { vocabs = with_vocab s.vocabs vocab; current = vocab; in_private = false }

abbrev pub using_vocab : List ℕ → Scope → Scope
using_vocab vocab s = record s { used = with_vocab s.used vocab }

-- what a session begins with
abbrev pub using_all : Scope → Scope
using_all s = record s { used = fold with_vocab s.used (filter (λ v. not (is_private v)) s.vocabs) }

abbrev pub bringing : Brought → Scope → Scope
bringing b s = record s { brought = b ∷ s.brought }

-- the private part begins or ends
abbrev pub with_private : Bool → Scope → Scope
with_private in_private s = record s { in_private = in_private }

-- the vocabulary to which definitions go
abbrev pub home : Scope → List ℕ
home s = (if s.in_private then companion s.current else s.current)

-- A vocabulary and its companion are one table.
abbrev pub same_table : List ℕ → List ℕ → Bool
same_table v w = bytes_eq v w || bytes_eq v (companion w) || bytes_eq w (companion v)

-- the entries of a name in the tables to which a vocabulary belongs
abbrev pub holders : List Entry → List ℕ → List ℕ → List Entry
holders table vocab name = filter (λ e. bytes_eq name e.name && same_table vocab e.vocab) table

-- a table with a new name
abbrev pub with_entry : List ℕ → List ℕ → ℕ → Bool → Scope → Scope
with_entry vocab name w is_defined s = record s { table = s.table ++ record { vocab = vocab; name = name; word = w; is_defined = is_defined } ∷ [] }

-- a table in which a name of a vocabulary is defined, and no more only deferred
abbrev pub now_defined : List ℕ → List ℕ → List Entry → List Entry
now_defined vocab name [] = []
now_defined vocab name (e ∷ es) = (if bytes_eq name e.name && bytes_eq vocab e.vocab then record e { is_defined = true } ∷ es else e ∷ now_defined vocab name es)

-- Before any file.

-- the vocabularies that exist from the start, but for their companions
abbrev pub first_vocabularies : List (List ℕ)
first_vocabularies = map (λ text. text.now) VOCABULARIES

-- the names of words, which are numbered from k on
abbrev pub entries_from : ℕ → List WordDef → List Entry
entries_from k [] = []
entries_from k (d ∷ ds) = record { vocab = d.name.vocab; name = d.name.name; word = k; is_defined = true } ∷ entries_from (k + 1) ds

-- the scope in which these words are known, and a file has begun
abbrev pub first_scope : List WordDef → Scope
first_scope ds = record { table = entries_from 0 ds; vocabs = first_vocabularies; current = codes "scratchpad"; in_private = false; used = codes "syntax" ∷ []; brought = [] }
