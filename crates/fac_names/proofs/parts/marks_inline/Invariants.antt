use Rattle.std.proofs.Common.{◌≡◌, drop}
use Rattle.fac_names.specs.FromFlat.{is_inline}
use Rattle.fac_names.proofs.parts.marks_inline.Given as goal

abbrev pub invariant-loop-mark : goal.invariant-loop-mark
invariant-loop-mark l = is_inline l.marks ≡ is_inline (drop l.mark-index l.marks)
