use Rattle.std.proofs.Common.{◌≡◌, drop}
use Rattle.std.specs.List.{list_any}
use Rattle.fac_emit.specs.Heights.{template_asks}
use Rattle.fac_emit.proofs.asked.templates_ask.Given as goal

abbrev pub invariant-loop-template : goal.invariant-loop-template
invariant-loop-template l = list_any template_asks l.templates ≡ list_any template_asks (drop l.template-index l.templates)
