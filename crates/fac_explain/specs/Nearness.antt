-- Names that are nearly another one.
use Rattle.std.specs.Prelude.{ℕ, suc, ◌+◌, ◌==◌, List, [], ◌∷◌, length, drop, None, Some, Bool, true, false, ◌&&◌, ◌||◌, nat_le, if◌then◌else◌}
use Rattle.std.specs.declared.option.Option.{Option}
use Rattle.std.specs.List.{list_any, list_all}
use Rattle.std.specs.Str.{bytes_eq}
use Rattle.fac_explain.specs.declared.nearness.TheConstants.{FEWEST}

-- how many bytes two texts begin with alike
abbrev pub alike : List ℕ → List ℕ → ℕ
alike [] right = 0
alike (a ∷ left) [] = 0
alike (a ∷ left) (b ∷ right) = (if a == b then suc (alike left right) else 0)

-- whether two neighbours are exchanged, and the rest is the same
abbrev pub exchanged : ℕ → List ℕ → ℕ → List ℕ → Bool
exchanged a [] b others = false
exchanged a (c ∷ rest) b [] = false
exchanged a (c ∷ rest) b (d ∷ others) = a == d && c == b && bytes_eq rest others

-- whether two texts that differ at their first byte are one text but for one edit there: another byte, one byte less, one more, or two exchanged
abbrev pub edited : List ℕ → List ℕ → Bool
edited [] [] = false
edited [] (b ∷ others) = length others == 0
edited (a ∷ rest) [] = length rest == 0
edited (a ∷ rest) (b ∷ others) = bytes_eq rest others || bytes_eq (a ∷ rest) others || bytes_eq rest (b ∷ others) || exchanged a rest b others

-- whether one text comes from another one by one edit
abbrev pub one_edit : List ℕ → List ℕ → Bool
one_edit text other = edited (drop (alike text other) text) (drop (alike text other) other)

-- whether a name is near to another one. A name of one byte or two is near to none.
abbrev pub is_near : List ℕ → List ℕ → Bool
is_near name other = nat_le FEWEST (length name) && one_edit name other

-- the first of names that is near
abbrev pub first_near : List ℕ → List (List ℕ) → Option (List ℕ)
first_near name [] = None
first_near name (other ∷ others) = (if is_near name other then Some other else first_near name others)

-- whether a name is no other than this one, or isn't near
abbrev pub may_stand_beside : List ℕ → List ℕ → List ℕ → Bool
may_stand_beside name near other = (if is_near name other then bytes_eq other near else true)

-- whether no other name is near than this one
abbrev pub is_alone : List ℕ → List ℕ → List (List ℕ) → Bool
is_alone name near names = list_all (may_stand_beside name near) names

abbrev pub alone : List ℕ → List (List ℕ) → Option (List ℕ) → Option (List ℕ)
alone name names None = None
alone name names (Some near) = (if is_alone name near names then Some near else None)

-- which of these names was meant by one that isn't found: the name itself where it is one of them, else that one that is near, where there is one and no other
abbrev pub closest : List ℕ → List (List ℕ) → Option (List ℕ)
closest name names = (if list_any (bytes_eq name) names then Some name else alone name names (first_near name names))
