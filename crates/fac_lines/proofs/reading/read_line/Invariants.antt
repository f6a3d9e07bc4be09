use Rattle.std.proofs.Common.{◌≡◌, false, ◌≤◌, ◌+◌, [], length}
use Rattle.fac_lines.specs.LineReads.{IsFront}
use Rattle.fac_lines.specs.inner.Reading.{ReadsOn}
use Rattle.fac_lines.proofs.reading.read_line.Given as goal

abbrev pub invariant-reading : goal.invariant-reading
invariant-reading g l = record {
  begun : IsFront l.front;
  nothing : l.piece ≡ [];
  open_end : l.ended ≡ false;
  on : ReadsOn (g.S.Source.left l.initial.source) (g.S.Source.left l.source) l.initial.front l.front;
  count : g.S.Source.faults l.source ≡ g.S.Source.faults l.initial.source;
  most : length l.front + g.S.Source.may_give l.source ≤ length l.initial.front + g.S.Source.may_give l.initial.source;
}

abbrev pub decreases-reading : goal.decreases-reading
decreases-reading g l = g.S.Source.may_give l.source
