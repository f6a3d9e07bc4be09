use Rattle.std.proofs.Common.{◌≡◌, [], drop}
use Rattle.fac_locals.specs.inner.Numbering.{counts_from}
use Rattle.fac_locals.proofs.counting.count_arrays.Given as goal

abbrev pub invariant-loop-elements : goal.invariant-loop-elements
invariant-loop-elements l = counts_from [] l.arrays ≡ counts_from l.counts.items (drop l.elements-index l.arrays)
