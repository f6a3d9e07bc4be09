-- How the vocabularies that aren't private come to be used, one after another.
use Rattle.std.specs.Prelude.{◌≡◌, ℕ, List, ◌++◌, if◌then◌else◌}
use Rattle.fac_vocab.specs.Scopes.{is_private, with_vocab}

-- those that are used, and one more, unless its name ends in `.private`
abbrev pub with_public : List (List ℕ) → List ℕ → List (List ℕ)
with_public used vocab = (if is_private vocab then used else with_vocab used vocab)

-- texts that stand behind others
abbrev pub BeginsWith : List (List ℕ) → List (List ℕ) → Type 0
BeginsWith all front = (rest : List (List ℕ)) × (all ≡ front ++ rest)
