-- Texts as files that are called by their numbers, so that no two have one name.
use Rattle.std.specs.Prelude.{◌≡◌, ◌≤◌, ◌<◌, ◌+◌, ◌^◌, ℕ, List, [], ◌∷◌, ◌++◌, length, codes, decimal}
use Rattle.std.specs.List.{concat}
use Rattle.fac_tool.specs.Answer.{limit}

-- the name of the text with this number
abbrev pub number_name : ℕ → List ℕ
number_name n = codes "f" ++ decimal n

-- texts with their names, numbered from n on
abbrev pub numbered_texts : ℕ → List (List ℕ) → List (List ℕ × List ℕ)
numbered_texts n [] = []
numbered_texts n (text ∷ texts) = (number_name n, text) ∷ numbered_texts (n + 1) texts

-- the names alone
abbrev pub names_from : ℕ → List (List ℕ) → List (List ℕ)
names_from n [] = []
names_from n (text ∷ texts) = number_name n ∷ names_from (n + 1) texts

-- texts that are numbered so, as many bytes as are read and no more
pub record AreNumbered (given : List (List ℕ × List ℕ)) (texts : List (List ℕ)) : Type 0 where
  pub are : given ≡ numbered_texts 1 texts
  pub few : length texts < 2 ^ 32
  pub within : length (concat texts) ≤ limit
