use Rattle.std.proofs.Common.{◌≡◌, drop}
use Rattle.std.specs.List.{list_any}
use Rattle.fac_expand.specs.inner.Pieces.{is_test}
use Rattle.fac_expand.proofs.expansion.tests.Given as goal

abbrev pub invariant-loop-instr : goal.invariant-loop-instr
invariant-loop-instr l = list_any is_test l.code ≡ list_any is_test (drop l.instr-index l.code)
