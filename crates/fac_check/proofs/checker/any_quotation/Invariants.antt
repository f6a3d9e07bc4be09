use Rattle.std.proofs.Common.{◌≡◌, drop}
use Rattle.fac_base.specs.EffectView.{inputs_tree}
use Rattle.fac_check.specs.Verdicts.{any_quoted}
use Rattle.fac_check.proofs.checker.any_quotation.Given as goal

abbrev pub invariant-loop-input : goal.invariant-loop-input
invariant-loop-input l = any_quoted (inputs_tree l.inputs) ≡ any_quoted (inputs_tree (drop l.input-index l.inputs))
