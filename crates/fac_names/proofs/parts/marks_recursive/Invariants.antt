use Rattle.std.proofs.Common.{◌≡◌, drop}
use Rattle.fac_names.specs.FromFlat.{is_recursive}
use Rattle.fac_names.proofs.parts.marks_recursive.Given as goal

abbrev pub invariant-loop-mark : goal.invariant-loop-mark
invariant-loop-mark l = is_recursive l.marks ≡ is_recursive (drop l.mark-index l.marks)
