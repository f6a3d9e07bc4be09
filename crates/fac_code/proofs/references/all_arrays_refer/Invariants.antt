use Rattle.std.specs.Prelude.{◌≡◌, drop}
use Rattle.fac_code.specs.References.{arrays_refer}
use Rattle.fac_code.proofs.references.all_arrays_refer.Given as goal

-- what is left decides, and the number is the place
abbrev pub invariant-loop-elements : goal.invariant-loop-elements
invariant-loop-elements l = (l.number ≡ l.elements-index) × (arrays_refer l.tables 0 l.arrays ≡ arrays_refer l.tables l.number (drop l.elements-index l.arrays))
