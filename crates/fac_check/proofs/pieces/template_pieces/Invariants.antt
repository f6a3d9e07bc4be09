use Rattle.std.proofs.Common.{◌≡◌, length}
use Rattle.fac_abs.specs.InTurn.{FitsInTurn}
use Rattle.fac_check.specs.inner.Pieces.{IsTemplatePiece}
use Rattle.fac_check.proofs.pieces.template_pieces.Given as goal

abbrev pub invariant-loop-number : goal.invariant-loop-number
invariant-loop-number l = record {
  each : FitsInTurn (IsTemplatePiece l.closed) 0 l.pieces.items;
  count : length l.pieces.items ≡ l.number;
}
