-- Examples of where the walk has places of a program with nine words, where the phrase is walked by itself whose first item is item 5 of word 3.
use Rattle.std.proofs.Common.{◌≡◌, ℕ, List, [], ◌∷◌, refl}
use Rattle.fac_lang.specs.Phrases.{Literal}
use Rattle.fac_check.specs.inner.Alone.{in_one_phrase, placed_by}

abbrev place : ℕ → List ℕ → ℕ → Literal
place w arrays i = record { word = w; around = arrays; index = i }

abbrev walked_at : Literal → Literal
walked_at at = placed_by (in_one_phrase (place 3 [] 5) at) 9 (place 3 [] 5) at

-- the item two behind the first
pub in_phrase : walked_at (place 3 [] 7) ≡ place 9 [] 2
in_phrase = refl

-- an item of another word
pub in_other_word : walked_at (place 4 [] 0) ≡ place 14 [] 0
in_other_word = refl

-- one of an array in the phrase
pub in_array : walked_at (place 3 (6 ∷ []) 1) ≡ place 13 (6 ∷ []) 1
in_array = refl
