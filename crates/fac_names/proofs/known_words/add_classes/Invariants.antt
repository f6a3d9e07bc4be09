use Rattle.std.proofs.Common.{◌≡◌, map, drop}
use Rattle.fac_lang.specs.BuiltInClasses.{written_class}
use Rattle.fac_names.specs.KnownWords.{class_words_from}
use Rattle.fac_names.proofs.KnownWordLemmas.{and_from}
use Rattle.fac_names.proofs.known_words.add_classes.Given as goal

abbrev pub invariant-loop-number : goal.invariant-loop-number
invariant-loop-number l = and_from class_words_from l.number l.words (map written_class (drop l.number l.rows)) ≡ and_from class_words_from 0 l.initial.words (map written_class l.rows)
