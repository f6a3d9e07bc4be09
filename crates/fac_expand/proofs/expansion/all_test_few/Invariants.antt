use Rattle.std.proofs.Common.{◌≡◌, drop}
use Rattle.std.specs.List.{list_all}
use Rattle.fac_bytes.specs.Spellable.{leaves_few}
use Rattle.fac_expand.proofs.expansion.all_test_few.Given as goal

abbrev pub invariant-loop-instr : goal.invariant-loop-instr
invariant-loop-instr l = list_all leaves_few l.code ≡ list_all leaves_few (drop l.instr-index l.code)
