-- How many words count as classes, where one word is changed.
use Rattle.std.specs.Prelude.{◌≡◌, ℕ, ◌-◌, Bool, true, false}
use Rattle.fac_names.specs.Forms.{one_more_if}

-- a count, where one word counted before or didn't, and counts behind the change or doesn't
abbrev pub Recounts : ℕ → Bool → Bool → ℕ → Type 0
Recounts count true true next = next ≡ count
Recounts count true false next = next ≡ count - 1
Recounts count false after next = next ≡ one_more_if after count
