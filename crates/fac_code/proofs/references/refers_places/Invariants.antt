use Rattle.std.specs.Prelude.{◌≡◌, length, drop}
use Rattle.fac_code.specs.References.{places_refer}
use Rattle.fac_code.proofs.references.refers_places.Given as goal

-- what is left decides, and the number is the place
abbrev pub invariant-loop-instr : goal.invariant-loop-instr
invariant-loop-instr l = (l.at ≡ l.instr-index) × (places_refer (length l.code) 0 l.code ≡ places_refer (length l.code) l.at (drop l.instr-index l.code))
