-- The words of the code's tables, as they are written.
use Rattle.std.specs.Prelude.{ℕ, List, map}
use denote.Bor.{Bor}
use Rattle.std.specs.Option.{option_map}
use Rattle.fac_lang.specs.PrimitiveWords.{PrimitiveWord, word_row}
use Rattle.fac_lang.specs.declared.word_row.WordRow.{WordRow}

-- the word that a row writes, with functions that tell its texts and its lists of texts
abbrev pub word_with : {Text Texts : Type 0} → (Text → List ℕ) → (Texts → List (List ℕ)) → WordRow Text Texts → PrimitiveWord
word_with text texts r = word_row (text r.vocab) (text r.name) (texts r.ins) (option_map texts r.outs)

-- a row of a table of the code
abbrev pub TableWord : Type 0
TableWord = WordRow (Bor (List ℕ)) (Bor (List (Bor (List ℕ))))

-- the word that it writes
abbrev pub written_word : TableWord → PrimitiveWord
written_word = word_with (λ text. text.now) (λ texts. map (λ text. text.now) texts.now)
