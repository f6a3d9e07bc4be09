use Rattle.std.proofs.Common.{◌≡◌, drop}
use Rattle.fac_emit.specs.ProgramTexts.{with_texts, templates_texts}
use Rattle.fac_emit.proofs.sequence.add_templates.Given as goal

abbrev pub invariant-loop-template : goal.invariant-loop-template
invariant-loop-template l = with_texts l.initial.texts (templates_texts l.closed.templates) ≡ with_texts l.texts (templates_texts (drop l.template-index l.closed.templates))
