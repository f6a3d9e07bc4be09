use Rattle.std.proofs.Common.{◌≡◌, ◌+◌, drop}
use Rattle.fac_base.specs.EffectView.{inputs_tree}
use Rattle.fac_abs.specs.MarkTrees.{Naming}
use Rattle.fac_abs.specs.SeenMarks.{IsStack, stack_of}
use Rattle.fac_rows.specs.RowBinding.{other_input}
use Rattle.fac_rows.proofs.calls.other.Given as goal

abbrev pub invariant-loop-input : goal.invariant-loop-input
invariant-loop-input l =
    (l.number ≡ l.input-index + 1) × IsStack l.marks l.rest × ((N : Naming) → other_input 1 (inputs_tree l.list) (stack_of N l.marks l.inputs) ≡ other_input l.number (inputs_tree (drop l.input-index l.list)) (stack_of N l.marks l.rest))
