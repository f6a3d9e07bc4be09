-- How the entries of a name that many vocabularies have are found: the first few one by one, and the late ones by their vocabularies.
use Rattle.std.specs.Prelude.{ℕ, ◌≡◌, nat_lt, List, [], ◌∷◌, Bool, true, false, drop, slice_get, String, Option, Some, None, if◌then◌else◌}
use Rattle.std.specs.Str.{bytes_eq}
use Rattle.indexmap.specs.IndexMap.{IndexMap}
use Rattle.fac_vocab.specs.declared.few.TheConstants.{FEW}
use Rattle.fac_vocab.specs.Scopes.{Entry, or_else, companion}
use Rattle.fac_vocab.specs.inner.Pairs.{number_in}
use Rattle.fac_vocab.specs.inner.Rows.{numbers_named}

-- the numbers of the entries of a name behind the first few
abbrev pub late_numbers : List ℕ → List Entry → List ℕ
late_numbers name table = drop FEW (numbers_named 0 name table)

-- the number of an entry whose vocabulary passes a test
abbrev pub number_where : (List ℕ → Bool) → ℕ → Option Entry → Option ℕ
number_where test n None = None
number_where test n (Some e) = (if test e.vocab then Some n else None)

-- the first of these numbers whose entry's vocabulary passes a test
abbrev pub number_by : (List ℕ → Bool) → List Entry → List ℕ → Option ℕ
number_by test table [] = None
number_by test table (n ∷ ns) = or_else (number_where test n (slice_get table n)) (number_by test table ns)

-- the word of a number
abbrev pub entry_word : Option Entry → Option ℕ
entry_word None = None
entry_word (Some e) = Some e.word

abbrev pub numbered_word : List Entry → Option ℕ → Option ℕ
numbered_word table None = None
numbered_word table (Some n) = entry_word (slice_get table n)

-- whether the entry of a number is defined
abbrev pub entry_defined : Option Entry → Bool
entry_defined None = false
entry_defined (Some e) = e.is_defined

abbrev pub numbered_defined : List Entry → Option ℕ → Bool
numbered_defined table None = false
numbered_defined table (Some n) = entry_defined (slice_get table n)

-- the lesser of two numbers
abbrev pub earlier : Option ℕ → Option ℕ → Option ℕ
earlier None b = b
earlier (Some a) None = Some a
earlier (Some a) (Some b) = (if nat_lt b a then Some b else Some a)

-- The numbers of late entries are kept under their vocabularies, and those of companions under what they are companions of.
pub record AreLate {Y S T : Type 0} (own private : IndexMap (String Y) (IndexMap (String Y) ℕ S) T) (table : List Entry) : Type 0 where
  pub owned : (v name : List ℕ) → number_in own v name ≡ number_by (bytes_eq v) table (late_numbers name table)
  pub companions : (v name : List ℕ) → number_in private v name ≡ number_by (bytes_eq (companion v)) table (late_numbers name table)

abbrev pub LateWhere : {Y S T : Type 0} → Bool → IndexMap (String Y) (IndexMap (String Y) ℕ S) T → IndexMap (String Y) (IndexMap (String Y) ℕ S) T → List Entry → Type 0
LateWhere true own private table = AreLate own private table
LateWhere false own private table = Unit {0}
