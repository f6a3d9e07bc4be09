-- How what forms brought is searched: by the names and by the prefixes.
use Rattle.std.specs.Prelude.{ℕ, ◌≡◌, ◌≤◌, ◌+◌, nat_eq, nat_lt, List, [], ◌∷◌, ◌++◌, Bool, true, false, ◌&&◌, Option, Some, None, is_some, length, slice_get, String, if◌then◌else◌}
use Rattle.std.specs.List.{list_any}
use Rattle.std.specs.Global.{Vec}
use Rattle.std.specs.Str.{bytes_eq}
use Rattle.indexmap.specs.IndexMap.{IndexMap, get_by_text}
use Rattle.fac_vocab.specs.Scopes.{Entry, Brought, named, prefixed, or_else, given_by}
use Rattle.fac_vocab.specs.inner.Index.{numbers_in}
use Rattle.fac_vocab.specs.inner.Pairs.{number_in}

-- the word that a name has by a form, where there is one
abbrev pub word_by : List Entry → List ℕ → Option Brought → Option ℕ
word_by table name None = None
word_by table name (Some form) = given_by table name form

-- the word that a name has by the form of a number
abbrev pub word_at : List Entry → List Brought → List ℕ → Option ℕ → Option ℕ
word_at table forms name None = None
word_at table forms name (Some n) = word_by table name (slice_get forms n)

-- whether a name has a word by the form of a number
abbrev pub gives : List Entry → List Brought → List ℕ → ℕ → Bool
gives table forms name n = is_some (word_by table name (slice_get forms n))

-- the last of these numbers whose form gives a word
abbrev pub last_giving : List Entry → List Brought → List ℕ → List ℕ → Option ℕ
last_giving table forms name [] = None
last_giving table forms name (n ∷ ns) = or_else (last_giving table forms name ns) (if gives table forms name n then Some n else None)

-- the greater of two numbers
abbrev pub later : Option ℕ → Option ℕ → Option ℕ
later None b = b
later (Some a) None = Some a
later (Some a) (Some b) = (if nat_lt a b then Some b else Some a)

-- whether a form brings a name
abbrev pub is_name : List ℕ → Brought → Bool
is_name q (named n w) = bytes_eq n q
is_name q (prefixed v p) = false

-- whether it brings a vocabulary behind a prefix
abbrev pub is_pair : List ℕ → List ℕ → Brought → Bool
is_pair p v (named n w) = false
is_pair p v (prefixed u q) = bytes_eq q p && bytes_eq u v

-- whether it brings a prefix
abbrev pub has_prefix : List ℕ → Brought → Bool
has_prefix p (named n w) = false
has_prefix p (prefixed v q) = bytes_eq q p

-- whether it brings a prefix of this length
abbrev pub is_length : ℕ → Brought → Bool
is_length n (named m w) = false
is_length n (prefixed v p) = nat_eq n (length p)

-- the numbers of the forms that pass a test, where the first form has number k
abbrev pub numbers_where : ℕ → (Brought → Bool) → List Brought → List ℕ
numbers_where k test [] = []
numbers_where k test (f ∷ fs) = (if test f then k ∷ numbers_where (k + 1) test fs else numbers_where (k + 1) test fs)

-- the number of the last form that brings a vocabulary behind a prefix
abbrev pub last_pair : ℕ → List ℕ → List ℕ → List Brought → Option ℕ
last_pair k p v [] = None
last_pair k p v (f ∷ fs) = or_else (last_pair (k + 1) p v fs) (if is_pair p v f then Some k else None)

-- the lengths of all prefixes are among these
abbrev pub HasLengths : List ℕ → List Brought → Type 0
HasLengths lengths forms = (m : ℕ) (v p : List ℕ) → slice_get forms m ≡ Some (prefixed v p) → list_any (nat_eq (length p)) lengths ≡ true

-- The numbers of the forms are kept under each name and each prefix, and the last under each prefix with its vocabulary.
pub record AreIndexed {Y S T R : Type 0} (names numbers : IndexMap (String Y) (Vec ℕ) S) (prefixes : IndexMap (String Y) (IndexMap (String Y) ℕ T) R) (lengths : List ℕ) (forms : List Brought) : Type 0 where
  pub named : (q : List ℕ) → numbers_in names q ≡ numbers_where 0 (is_name q) forms
  pub behind : (q : List ℕ) → numbers_in numbers q ≡ numbers_where 0 (has_prefix q) forms
  pub prefixed : (p v : List ℕ) → number_in prefixes p v ≡ last_pair 0 p v forms
  pub long : HasLengths lengths forms

abbrev pub IndexedWhere : {Y S T R : Type 0} → Bool → IndexMap (String Y) (Vec ℕ) S → IndexMap (String Y) (Vec ℕ) S → IndexMap (String Y) (IndexMap (String Y) ℕ T) R → List ℕ → List Brought → Type 0
IndexedWhere true names numbers prefixes lengths forms = AreIndexed names numbers prefixes lengths forms
IndexedWhere false names numbers prefixes lengths forms = Unit {0}

-- Of two numbers of forms, where there are both, the first is at most the second.
abbrev pub AtMost : ℕ → Option ℕ → Type 0
AtMost m None = ⊥
AtMost m (Some b) = m ≤ b

abbrev pub GivesBest : List Entry → List Brought → List ℕ → Option ℕ → Type 0
GivesBest table forms name None = Unit {0}
GivesBest table forms name (Some b) = gives table forms name b ≡ true

-- The next best number is at least the best so far, and at least that of each form with a prefix that gives the name a word.
pub record IsNext (table : List Entry) (forms : List Brought) (name prefix : List ℕ) (best next : Option ℕ) : Type 0 where
  pub gives_word : GivesBest table forms name best → GivesBest table forms name next
  pub keeps : (m : ℕ) → AtMost m best → AtMost m next
  pub covers : (m : ℕ) (v : List ℕ) → slice_get forms m ≡ Some (prefixed v prefix) → gives table forms name m ≡ true → AtMost m next

-- the best number so far, or the number of an entry, where its form gives a name a word and it is greater
abbrev pub with_vocab_number : {K : Type 0} → List Entry → List Brought → List ℕ → Option (K × ℕ) → Option ℕ → Option ℕ
with_vocab_number {K = K} table forms name None best = best
with_vocab_number {K = K} table forms name (Some x) best = (if gives table forms name x.1 then later best (Some x.1) else best)

-- the number that the vocabulary of an entry has
abbrev pub entry_last : {Y S : Type 0} → IndexMap (String Y) ℕ S → Option Entry → Option ℕ
entry_last vocabs None = None
entry_last vocabs (Some e) = get_by_text vocabs e.vocab

abbrev pub numbered_last : {Y S : Type 0} → IndexMap (String Y) ℕ S → List Entry → Option ℕ → Option ℕ
numbered_last vocabs table None = None
numbered_last vocabs table (Some k) = entry_last vocabs (slice_get table k)

abbrev pub twice : Option ℕ → Option (ℕ × ℕ)
twice None = None
twice (Some n) = Some (n, n)

abbrev pub entry_number : {Y S : Type 0} → IndexMap (String Y) ℕ S → List Entry → Option ℕ → Option (ℕ × ℕ)
entry_number vocabs table o = twice (numbered_last vocabs table o)

-- a list ends in another
abbrev pub EndsIn : List ℕ → List ℕ → Type 0
EndsIn all last = (front : List ℕ) × (all ≡ front ++ last)
