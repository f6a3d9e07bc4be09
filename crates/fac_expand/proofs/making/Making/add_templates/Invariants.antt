use Rattle.fac_expand.specs.inner.Makings.{Goes}
use Rattle.fac_expand.proofs.making.Making.add_templates.Given as goal

abbrev pub invariant-loop-template : goal.invariant-loop-template
invariant-loop-template l = Goes l.plain l.template-index l.initial.self l.self
