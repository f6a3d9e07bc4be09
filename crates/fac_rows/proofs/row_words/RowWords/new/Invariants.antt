use Rattle.std.proofs.Common.{◌≡◌, map, take}
use Rattle.fac_rows.specs.NumberedRows.{row_entry}
use Rattle.fac_rows.proofs.row_words.RowWords.new.Given as goal

abbrev pub invariant-loop-word : goal.invariant-loop-word
invariant-loop-word l = l.entries ≡ map row_entry (take l.word-index l.words)
