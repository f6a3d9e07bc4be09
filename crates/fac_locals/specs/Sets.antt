-- Sets of numbers as lists.
use Rattle.std.specs.Prelude.{◌<◌, ℕ, List, length, slice_index_or}

-- each number is below those behind it
abbrev pub Rises : List ℕ → Type 0
Rises ns = (i j : ℕ) → i < j → j < length ns → slice_index_or ns i 0 < slice_index_or ns j 0
