use Rattle.std.proofs.Common.{◌≡◌, []}
use Rattle.fac_abs.specs.Marks.{popped}
use Rattle.fac_abs.specs.MarkTrees.{Naming}
use Rattle.fac_abs.specs.SeenMarks.{IsStack, Grows, stack_of}
use Rattle.fac_rows.proofs.taking.take.Given as goal

abbrev pub invariant-loop-left : goal.invariant-loop-left
invariant-loop-left l =
    Grows l.fn.marks l.marks × IsStack l.marks l.inputs × IsStack l.marks l.rest × ((N : Naming) → popped l.count [] (stack_of N l.fn.marks l.stack) ≡ popped l.left (stack_of N l.marks l.inputs) (stack_of N l.marks l.rest))

abbrev pub decreases-loop-left : goal.decreases-loop-left
decreases-loop-left l = l.left
