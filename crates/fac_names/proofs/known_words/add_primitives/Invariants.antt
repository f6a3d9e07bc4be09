use Rattle.std.proofs.Common.{◌≡◌, map, drop}
use Rattle.fac_items.proofs.KnownRowLemmas.{primitive_row_word}
use Rattle.fac_names.specs.KnownWords.{primitives_from}
use Rattle.fac_names.proofs.KnownWordLemmas.{and_from}
use Rattle.fac_names.proofs.known_words.add_primitives.Given as goal

abbrev pub invariant-loop-number : goal.invariant-loop-number
invariant-loop-number l = and_from primitives_from l.number l.words (map primitive_row_word (drop l.number l.rows)) ≡ and_from primitives_from 0 l.initial.words (map primitive_row_word l.rows)
