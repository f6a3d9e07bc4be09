-- How the least two late entries of used vocabularies are kept for each name.
use Rattle.std.specs.Prelude.{ℕ, ◌≡◌, ◌<◌, List, [], Bool, true, false, length, take, String, Option, Some, None, slice_get}
use Rattle.std.specs.Option.{option_map_or}
use Rattle.indexmap.specs.IndexMap.{IndexMap, get_by_text}
use Rattle.fac_vocab.specs.declared.least.Least.{Least}
use Rattle.fac_vocab.specs.declared.least.Least.TheVariants.{Nothing, One, Two}
use Rattle.fac_vocab.specs.Scopes.{Entry, put_in_order}
use Rattle.fac_vocab.specs.inner.Rows.{entries_at, kept_numbers, least_with, bares}
use Rattle.fac_vocab.specs.inner.Late.{late_numbers}

-- what is kept under a name
abbrev pub least_in : {Y S : Type 0} → IndexMap (String Y) Least S → List ℕ → Least
least_in kept name = option_map_or (λ l. l) (get_by_text kept name) Nothing

-- the kept numbers are less than another
abbrev pub KeptWithin : ℕ → Least → Type 0
KeptWithin m Nothing = Unit {0}
KeptWithin m (One a) = a < m
KeptWithin m (Two a b) = (a < m) × (b < m)

-- the first two entries with one more
abbrev pub with_row : Option Entry → List Entry → List Entry
with_row None least = least
with_row (Some e) least = take 2 (put_in_order e least)

-- what is kept with the entry of a number more
pub record WithNumber (table : List Entry) (n : ℕ) (old new : Least) : Type 0 where
  pub first_two : entries_at table (kept_numbers new) ≡ with_row (slice_get table n) (entries_at table (kept_numbers old))
  pub kept_within : (m : ℕ) → n < m → KeptWithin m old → KeptWithin m new

abbrev pub MoreLeast : List Entry → ℕ → Bool → Least → Least → Type 0
MoreLeast table n true old new = WithNumber table n old new
MoreLeast table n false old new = new ≡ old

-- the kept numbers are those of the least two late entries of a name, but for whether these are defined
pub record IsLeast (table : List Entry) (used : List (List ℕ)) (name : List ℕ) (least : Least) : Type 0 where
  pub first_two : entries_at (bares table) (kept_numbers least) ≡ least_with used (bares table) (late_numbers name table) []
  pub kept_within : KeptWithin (length table) least

abbrev pub AreLeast : {Y S : Type 0} → IndexMap (String Y) Least S → List Entry → List (List ℕ) → Type 0
AreLeast kept table used = (name : List ℕ) → IsLeast table used name (least_in kept name)

abbrev pub LeastWhere : {Y S : Type 0} → Bool → IndexMap (String Y) Least S → List Entry → List (List ℕ) → Type 0
LeastWhere true kept table used = AreLeast kept table used
LeastWhere false kept table used = Unit {0}
