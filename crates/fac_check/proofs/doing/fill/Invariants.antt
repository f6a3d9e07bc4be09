use Rattle.std.proofs.Common.{◌≡◌, length}
use Rattle.fac_abs.specs.Marks.{piled}
use Rattle.fac_abs.specs.MarkTrees.{Naming}
use Rattle.fac_abs.specs.SeenMarks.{IsFrame, IsStack, Grows, stack_of, frame_of}
use Rattle.fac_check.proofs.doing.fill.Given as goal

abbrev pub invariant-loop-left : goal.invariant-loop-left
invariant-loop-left l = record {
  grows : Grows l.initial.marks l.marks;
  stack : IsStack l.marks l.rest;
  frame : IsFrame l.marks l.made;
  many : (N : Naming) → l.left ≡ length (stack_of N l.marks l.rest);
  same : (N : Naming) → piled (stack_of N l.initial.marks l.holes) (frame_of N l.initial.marks l.frame) ≡ piled (stack_of N l.marks l.rest) (frame_of N l.marks l.made);
}

abbrev pub decreases-loop-left : goal.decreases-loop-left
decreases-loop-left l = l.left
