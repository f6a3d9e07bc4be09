-- Inner contracts: the names of the words of a closed program.
use Rattle.std.specs.Prelude.{◌≡◌, ℕ}
use Rattle.fac_lang.specs.declared.program.Program.{Program}
use Rattle.fac_notes.specs.WordNames.{word_name}

-- the words of two programs have the same names
abbrev pub SameNames : Program → Program → Type 0
SameNames P C = (w : ℕ) → word_name C w ≡ word_name P w
