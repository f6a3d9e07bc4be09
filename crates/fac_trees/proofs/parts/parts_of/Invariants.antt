use Rattle.std.proofs.Common.{◌≡◌, ◌++◌, length}
use Rattle.fac_trees.specs.TextTrees.{texts_in}
use Rattle.fac_trees.proofs.parts.parts_of.Given as goal

abbrev pub invariant-texts : goal.invariant-texts
invariant-texts l = texts_in l.parts.items ++ l.last ++ l.left ≡ l.fn.texts

abbrev pub decreases-texts : goal.decreases-texts
decreases-texts l = length l.left
