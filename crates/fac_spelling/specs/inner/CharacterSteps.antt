-- Reading characters with no list of their bytes.
use Rattle.std.specs.Prelude.{ℕ, List, length, Result, Ok, Err}

-- how many bytes were read, in their place
abbrev pub sized : Result (List ℕ × List ℕ) ℕ → Result (ℕ × List ℕ) ℕ
sized (Ok p) = Ok (length p.0, p.1)
sized (Err left) = Err left

-- the bytes after what was read
abbrev pub rest_of : Result (List ℕ × List ℕ) ℕ → Result (List ℕ) ℕ
rest_of (Ok p) = Ok p.1
rest_of (Err left) = Err left
