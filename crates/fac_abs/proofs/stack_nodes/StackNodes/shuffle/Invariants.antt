use Rattle.std.proofs.Common.{[], get_or, drop}
use Rattle.fac_lang.specs.Procedures.{picked}
use Rattle.fac_abs.specs.InTurn.{taken}
use Rattle.fac_abs.specs.Marks.{piled}
use Rattle.fac_abs.specs.inner.Keeping.{Going}
use Rattle.fac_abs.proofs.stack_nodes.StackNodes.shuffle.Given as goal

abbrev pub invariant-loop-place : goal.invariant-loop-place
invariant-loop-place l =
    Going l.initial.self l.self l.top (piled (picked 0 (taken l.takes [] (get_or l.initial.self l.stack [])) (drop l.place-index l.leaves)) (get_or l.self l.top [])) (piled (picked 0 (taken l.takes [] (get_or l.initial.self l.stack [])) l.leaves) (get_or l.initial.self l.initial.top []))
