use Rattle.std.proofs.Common.{ℕ, List, ◌≡◌, ◌+◌, length}
use Rattle.fac_trees.specs.TextTrees.{AreTreesOf}
use Rattle.fac_tool.proofs.ReadingLemmas.{TreesLeft}
use Rattle.fac_tool.proofs.reading.take_trees.Given as goal

abbrev pub invariant-trees : goal.invariant-trees
invariant-trees l = record {
  taken : (texts : List (List ℕ)) → AreTreesOf (l.fn.before + 1) texts l.fn.trees → TreesLeft texts l.left l.fn.before l.fn.count l.file l.sum l.initial.resolver l.resolver;
  all : l.file + length l.left ≡ l.fn.before + length l.fn.trees;
}

abbrev pub decreases-trees : goal.decreases-trees
decreases-trees l = length l.left
