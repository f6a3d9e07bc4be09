use Rattle.std.proofs.Common.{◌≡◌, map, take}
use Rattle.fac_emit.specs.ProgramCode.{code_place}
use Rattle.fac_emit.specs.ProgramTables.{method_row}
use Rattle.fac_emit.specs.inner.Dispatch.{class_in}
use Rattle.fac_emit.proofs.dispatch.rows_of.Given as goal

abbrev pub invariant-loop-method : goal.invariant-loop-method
invariant-loop-method l = l.found ≡ map (λ m. method_row (code_place l.rows) (m, class_in l.program m)) (take l.method-index l.methods)
