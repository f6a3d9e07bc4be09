-- How a table is searched: by the numbers of the entries that have a name.
use Rattle.std.specs.Prelude.{ℕ, zero, suc, ◌≡◌, ◌+◌, List, [], ◌∷◌, Bool, true, false, ◌&&◌, ◌||◌, nat_eq, nat_lt, map, take, slice_get, Option, Some, None, if◌then◌else◌}
use Rattle.std.specs.List.{list_any, filter}
use Rattle.std.specs.Str.{bytes_eq}
use Rattle.fac_vocab.specs.declared.least.Least.{Least}
use Rattle.fac_vocab.specs.declared.least.Least.TheVariants.{Nothing, One, Two}
use Rattle.fac_vocab.specs.declared.answers.NameState.{NameState}
use Rattle.fac_vocab.specs.declared.answers.NameState.TheVariants.{New, Deferred}
use Rattle.fac_vocab.specs.Scopes.{Entry, or_else, same_table, put_in_order, all_used, holders, now_defined, with_vocab}
use Rattle.fac_base.specs.declared.name.Name.{Name as FullName}

-- the numbers of the entries of a name, where the first entry has number k
abbrev pub numbers_named : ℕ → List ℕ → List Entry → List ℕ
numbers_named k name [] = []
numbers_named k name (e ∷ es) = (if bytes_eq name e.name then k ∷ numbers_named (k + 1) name es else numbers_named (k + 1) name es)

abbrev pub with_some : Option Entry → List Entry → List Entry
with_some (Some e) es = e ∷ es
with_some None es = es

-- the entries of these numbers
abbrev pub entries_at : List Entry → List ℕ → List Entry
entries_at table [] = []
entries_at table (n ∷ ns) = with_some (slice_get table n) (entries_at table ns)

-- the entries of a name
abbrev pub entries_named : List Entry → List ℕ → List Entry
entries_named table name = filter (λ e. bytes_eq name e.name) table

-- the word of an entry, where it is one of a vocabulary
abbrev pub word_if : List ℕ → Option Entry → Option ℕ
word_if vocab None = None
word_if vocab (Some e) = (if bytes_eq vocab e.vocab then Some e.word else None)

-- the word of a vocabulary among the entries of these numbers
abbrev pub word_among : List Entry → List ℕ → List ℕ → Option ℕ
word_among table vocab [] = None
word_among table vocab (n ∷ ns) = or_else (word_if vocab (slice_get table n)) (word_among table vocab ns)

-- whether an entry defines its name in a table to which a vocabulary belongs
abbrev pub defined_if : List ℕ → Option Entry → Bool
defined_if vocab None = false
defined_if vocab (Some e) = same_table vocab e.vocab && e.is_defined

abbrev pub defined_among : List Entry → List ℕ → List ℕ → Bool
defined_among table vocab [] = false
defined_among table vocab (n ∷ ns) = defined_if vocab (slice_get table n) || defined_among table vocab ns

-- the number of an entry, where it stands in a table to which a vocabulary belongs
abbrev pub number_if : List ℕ → ℕ → Option Entry → Option ℕ
number_if vocab n None = None
number_if vocab n (Some e) = (if same_table vocab e.vocab then Some n else None)

-- the first of these numbers whose entry stands there
abbrev pub first_among : List Entry → List ℕ → List ℕ → Option ℕ
first_among table vocab [] = None
first_among table vocab (n ∷ ns) = or_else (number_if vocab n (slice_get table n)) (first_among table vocab ns)

-- the entries of one name that stand in the tables to which a vocabulary belongs
abbrev pub in_table : List ℕ → List Entry → List Entry
in_table vocab rows = filter (λ e. same_table vocab e.vocab) rows

-- the order of two bytes of texts that are alike before them, where it decides
abbrev pub byte_order : Option ℕ → Option ℕ → Option Bool
byte_order None None = Some false
byte_order None (Some y) = Some true
byte_order (Some x) None = Some false
byte_order (Some x) (Some y) = (if nat_eq x y then None else Some (nat_lt x y))

-- the entries of one name that stand in used vocabularies, by the byte order of their full names
abbrev pub used_among : List (List ℕ) → List Entry → List Entry
used_among used [] = []
used_among used (e ∷ es) = (if list_any (bytes_eq e.vocab) used then put_in_order e (used_among used es) else used_among used es)

-- the numbers that were kept
abbrev pub kept_numbers : Least → List ℕ
kept_numbers Nothing = []
kept_numbers (One n) = n ∷ []
kept_numbers (Two n m) = n ∷ m ∷ []

-- the first two entries with one more, where its vocabulary is used
abbrev pub with_used_entry : List (List ℕ) → Option Entry → List Entry → List Entry
with_used_entry used None least = least
with_used_entry used (Some e) least = (if list_any (bytes_eq e.vocab) used then take 2 (put_in_order e least) else least)

-- the first two of used vocabularies among the entries of these numbers and some that are kept
abbrev pub least_with : List (List ℕ) → List Entry → List ℕ → List Entry → List Entry
least_with used table [] least = least
least_with used table (n ∷ ns) least = with_used_entry used (slice_get table n) (least_with used table ns least)

abbrev pub deferred_word : Option Entry → NameState
deferred_word (Some e) = Deferred e.word
deferred_word None = New

-- a name whose first entry has this number, and that is only deferred
abbrev pub deferred_at : List Entry → Option ℕ → NameState
deferred_at table (Some n) = deferred_word (slice_get table n)
deferred_at table None = New

-- an entry and a table, but for what is defined
abbrev pub bare : Entry → Entry
bare e = record e { is_defined = false }

abbrev pub bares : List Entry → List Entry
bares table = map bare table

-- the kept numbers are those of the first two that the used vocabularies hold under a name, but for whether these are defined
abbrev pub LeastUsed : List Entry → List ℕ → List (List ℕ) → Least → Type 0
LeastUsed table name used least = bares (entries_at table (kept_numbers least)) ≡ bares (take 2 (all_used table name used))

-- a table in which the first of these entries is defined
abbrev pub first_defined : List Entry → List Entry → List Entry
first_defined table [] = table
first_defined table (e ∷ es) = now_defined e.vocab e.name table

-- a table in which the first holder of a name is defined
abbrev pub settled : FullName → List Entry → List Entry
settled name table = first_defined table (holders table name.vocab name.name)

-- a table in which the entry of a number is defined
abbrev pub defined_at : ℕ → List Entry → List Entry
defined_at n [] = []
defined_at zero (e ∷ es) = record e { is_defined = true } ∷ es
defined_at (suc n) (e ∷ es) = e ∷ defined_at n es

-- texts without repeats, with more behind them
abbrev pub with_vocabs : List (List ℕ) → List (List ℕ) → List (List ℕ)
with_vocabs texts [] = texts
with_vocabs texts (t ∷ ts) = with_vocabs (with_vocab texts t) ts
