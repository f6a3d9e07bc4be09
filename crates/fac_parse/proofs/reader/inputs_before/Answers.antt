use Rattle.std.proofs.Common.{ap, sym, ◌∙◌}
use Rattle.fac_parse.specs.inner.Reader.{last_inputs}
use Rattle.fac_parse.proofs.StateTokens.{inputs_last}
use Rattle.fac_parse.proofs.reader.inputs_before.Goals as goal

pub returns-in-Some : goal.returns-in-Some
returns-in-Some c = c.inputs.ensures ∙ sym (inputs_last 0 c.in-Some.field-0-1.now c.in-Some.part.now) ∙ ap (last_inputs 0) (sym c.in-Some.ensures.cases.0)
