use Rattle.std.proofs.Common.{◌≡◌, drop}
use Rattle.fac_emit.specs.ProgramTexts.{with_texts, arrays_texts}
use Rattle.fac_emit.proofs.sequence.add_arrays.Given as goal

abbrev pub invariant-loop-lits : goal.invariant-loop-lits
invariant-loop-lits l = with_texts l.initial.texts (arrays_texts l.closed.program.arrays) ≡ with_texts l.texts (arrays_texts (drop l.lits-index l.closed.program.arrays))
