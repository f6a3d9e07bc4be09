use Rattle.std.proofs.Common.{◌≡◌, ◌++◌, drop}
use Rattle.fac_bytes.specs.Listings.{lines_from}
use Rattle.fac_bytes.proofs.listings.push_lines.Given as goal

-- the lines so far with those of what is left are all
abbrev pub invariant-loop-instr : goal.invariant-loop-instr
invariant-loop-instr l = record { same : l.initial.text ++ lines_from 0 l.code ≡ l.text ++ lines_from l.place (drop l.instr-index l.code); place : l.place ≡ l.instr-index }
