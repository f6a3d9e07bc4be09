use Rattle.std.proofs.Common.{◌≡◌, ◌++◌, take}
use Rattle.fac_endings.proofs.lines.add_numbers.Given as goal

abbrev pub invariant-loop-number : goal.invariant-loop-number
invariant-loop-number l = l.line ≡ l.initial.line ++ take l.number-index l.more
