use Rattle.std.specs.Prelude.{◌≡◌, drop}
use Rattle.fac_code.specs.Code.{has_built_code}
use Rattle.fac_code.proofs.references.are_built.Given as goal

-- what is left decides
abbrev pub invariant-loop-instr : goal.invariant-loop-instr
invariant-loop-instr l = has_built_code l.code ≡ has_built_code (drop l.instr-index l.code)
