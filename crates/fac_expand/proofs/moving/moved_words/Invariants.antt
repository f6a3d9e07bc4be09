use Rattle.std.proofs.Common.{◌≡◌, ◌++◌, drop, map}
use Rattle.fac_expand.specs.inner.Pieces.{moved_word}
use Rattle.fac_expand.proofs.moving.moved_words.Given as goal

abbrev pub invariant-loop-word : goal.invariant-loop-word
invariant-loop-word l = map (moved_word l.start l.places) l.words ≡ l.rows ++ map (moved_word l.start l.places) (drop l.word-index l.words)
