use Rattle.std.proofs.Common.{length}
use Rattle.fac_trees.specs.TextTrees.{texts_in}
use Rattle.fac_tool.proofs.ReadingLemmas.{TreesWait}
use Rattle.fac_tool.proofs.reading.take_parts.Given as goal

abbrev pub invariant-parts : goal.invariant-parts
invariant-parts g l = TreesWait (texts_in l.fn.parts) (texts_in l.left) l.trees l.before l.count l.initial.resolver l.resolver

abbrev pub decreases-parts : goal.decreases-parts
decreases-parts g l = length l.left
