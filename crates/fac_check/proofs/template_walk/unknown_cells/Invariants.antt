use Rattle.std.proofs.Common.{[]}
use Rattle.fac_abs.specs.Marks.{unknowns}
use Rattle.fac_abs.specs.MarkPromises.{IsFrameOf}
use Rattle.fac_abs.specs.SeenMarks.{Grows}
use Rattle.fac_check.proofs.template_walk.unknown_cells.Given as goal

abbrev pub invariant-loop : goal.invariant-loop
invariant-loop l = record { grows : Grows l.initial.marks l.marks; made : IsFrameOf l.marks l.frame (λ N. unknowns l.counter []) }
