use Rattle.std.proofs.Common.{◌≡◌, drop}
use Rattle.fac_base.specs.EffectView.{inputs_tree}
use Rattle.fac_abs.specs.SeenMarks.{IsStack, stack_of}
use Rattle.fac_rows.specs.SeenBindings.{binding_seen}
use Rattle.fac_check.specs.Flow.{use_rule}
use Rattle.fac_check.specs.inner.Walking.{Opened}
use Rattle.fac_check.proofs.walker.Walker.inputs_rule.Given as goal

abbrev pub invariant-loop-input : goal.invariant-loop-input
invariant-loop-input l = record {
  same : l.self ≡ l.initial.self;
  marks : IsStack l.self.marks l.below;
  onward :
      (O : Opened l.initial.self.subject.closed.now.program l.initial.self.subject.closed.now.templates l.initial.self.subject.own l.initial.self.subject.inner) →
      use_rule O.effect (binding_seen O.naming l.initial.self.marks l.binding) (inputs_tree l.list) (stack_of O.naming l.initial.self.marks l.inputs) l.step.nested
      ≡ use_rule O.effect (binding_seen O.naming l.initial.self.marks l.binding) (inputs_tree (drop l.input-index l.list)) (stack_of O.naming l.initial.self.marks l.below) l.step.nested;
}
