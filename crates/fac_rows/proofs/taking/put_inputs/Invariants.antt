use Rattle.std.proofs.Common.{◌≡◌, ◌+◌, [], drop}
use Rattle.fac_base.specs.EffectView.{inputs_tree}
use Rattle.fac_abs.specs.MarkTrees.{Naming}
use Rattle.fac_abs.specs.SeenMarks.{IsStack, Grows, stack_of}
use Rattle.fac_rows.specs.RowBinding.{inputs_marks}
use Rattle.fac_rows.proofs.taking.put_inputs.Given as goal

abbrev pub invariant-loop-input : goal.invariant-loop-input
invariant-loop-input l =
    (l.number ≡ l.input-index + 1) × Grows l.fn.marks l.marks × IsStack l.marks l.stack × ((N : Naming) → inputs_marks 1 (inputs_tree l.list) [] ≡ inputs_marks l.number (inputs_tree (drop l.input-index l.list)) (stack_of N l.marks l.stack))
