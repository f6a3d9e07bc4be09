use Rattle.std.proofs.Common.{◌≡◌, drop}
use Rattle.fac_base.specs.EffectView.{inputs_tree}
use Rattle.fac_abs.specs.MarkTrees.{Naming}
use Rattle.fac_abs.specs.SeenMarks.{IsStack, stack_of}
use Rattle.fac_rows.specs.RowBinding.{inputs_known}
use Rattle.fac_rows.proofs.taking.known.Given as goal

abbrev pub invariant-loop-input : goal.invariant-loop-input
invariant-loop-input l =
    IsStack l.marks l.rest × ((N : Naming) → inputs_known (inputs_tree l.list) (stack_of N l.marks l.inputs) ≡ inputs_known (inputs_tree (drop l.input-index l.list)) (stack_of N l.marks l.rest))
