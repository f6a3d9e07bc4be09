-- The program of words, literal arrays, classes and a top-level phrase.
use Rattle.std.specs.Prelude.{List, [], ◌∷◌, ◌++◌, length}
use Rattle.fac_lang.specs.Phrases.{Phrase}
use Rattle.fac_lang.specs.declared.program.ClassDef.{ClassDef}
use Rattle.fac_lang.specs.declared.program.Lit.{Lit}
use Rattle.fac_lang.specs.declared.program.Program.{Program}
use Rattle.fac_lang.specs.declared.program.WordDef.{WordDef}
use Rattle.fac_endings.specs.Words.{top_word}

abbrev pub program_with : List WordDef → List (List Lit) → List ClassDef → Phrase → Program
program_with words arrays classes phrase = record { words = words ++ top_word phrase ∷ []; arrays = arrays; classes = classes; top = length words }
