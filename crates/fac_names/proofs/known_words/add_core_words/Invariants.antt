use Rattle.std.proofs.Common.{◌≡◌, ◌++◌, map, drop}
use Rattle.fac_lang.specs.CoreWords.{written_core}
use Rattle.fac_names.specs.KnownWords.{core_words_of}
use Rattle.fac_names.proofs.known_words.add_core_words.Given as goal

abbrev pub invariant-loop-row : goal.invariant-loop-row
invariant-loop-row l = l.words ++ core_words_of (map written_core (drop l.row-index l.rows)) ≡ l.initial.words ++ core_words_of (map written_core l.rows)
