use Rattle.std.specs.Prelude.{◌≡◌, drop}
use Rattle.std.specs.List.{list_all}
use Rattle.fac_code.specs.References.{instr_refers}
use Rattle.fac_code.proofs.references.instrs_refer.Given as goal

-- what is left decides
abbrev pub invariant-loop-instr : goal.invariant-loop-instr
invariant-loop-instr l = list_all (instr_refers l.tables) l.code ≡ list_all (instr_refers l.tables) (drop l.instr-index l.code)
