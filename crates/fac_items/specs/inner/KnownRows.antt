-- Rows of the code's tables, as they are written.
use Rattle.std.specs.Prelude.{Option, Some, None}
use Rattle.fac_lang.specs.PrimitiveWords.{PrimitiveWord}
use Rattle.fac_lang.specs.WrittenWords.{TableWord, written_word}

abbrev pub option_row : Option TableWord → Option PrimitiveWord
option_row None = None
option_row (Some r) = Some (written_word r)
