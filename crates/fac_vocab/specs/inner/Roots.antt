-- How vocabularies are kept by their roots.
use Rattle.std.specs.Prelude.{ℕ, ◌≡◌, nat_lt, List, [], ◌∷◌, length, Bool, true, false, not, Option, Some, None, String, if◌then◌else◌}
use Rattle.std.specs.List.{list_any}
use Rattle.indexmap.specs.IndexMap.{IndexMap, get_by_text}
use Rattle.fac_vocab.specs.Scopes.{is_companion_of}

-- a text without each `.private` at its end
abbrev pub root : List ℕ → List ℕ
root [] = []
root (c ∷ cs) = (if is_companion_of [] (c ∷ cs) then [] else c ∷ root cs)

-- whether the least length is at most another
abbrev pub reaches : Option ℕ → ℕ → Bool
reaches None n = false
reaches (Some m) n = not (nat_lt n m)

-- the least length, with one more
abbrev pub least_length : Option ℕ → ℕ → ℕ
least_length None n = n
least_length (Some m) n = (if nat_lt n m then n else m)

-- Under each root the least length of the vocabularies that have it is kept.
abbrev pub AreRooted : {Y S : Type 0} → IndexMap (String Y) ℕ S → List (List ℕ) → Type 0
AreRooted roots vocabs = (t : List ℕ) → list_any (λ v. is_companion_of v t) vocabs ≡ reaches (get_by_text roots (root t)) (length t)

abbrev pub RootedWhere : {Y S : Type 0} → Bool → IndexMap (String Y) ℕ S → List (List ℕ) → Type 0
RootedWhere true roots vocabs = AreRooted roots vocabs
RootedWhere false roots vocabs = Unit {0}
