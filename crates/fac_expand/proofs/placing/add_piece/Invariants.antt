use Rattle.std.proofs.Common.{◌≡◌, ◌++◌, take}
use Rattle.fac_expand.proofs.placing.add_piece.Given as goal

abbrev pub invariant-loop-instr : goal.invariant-loop-instr
invariant-loop-instr l = l.code ≡ l.initial.code ++ take l.instr-index l.piece
