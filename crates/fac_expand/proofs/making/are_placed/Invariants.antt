use Rattle.std.proofs.Common.{◌≡◌}
use Rattle.fac_expand.specs.inner.Pieces.{ArePlaced}
use Rattle.fac_expand.proofs.making.are_placed.Given as goal

abbrev pub invariant-loop-word : goal.invariant-loop-word
invariant-loop-word l = record {
  count : l.number ≡ l.word-index;
  placed : ArePlaced l.places l.number l.words;
}
