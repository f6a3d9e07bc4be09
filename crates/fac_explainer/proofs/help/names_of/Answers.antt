use Rattle.std.proofs.Common.{map, subst, ◌∙◌}
use Rattle.fac_explainer.specs.inner.Steps.{AddsAll}
use Rattle.fac_explainer.proofs.HelpLemmas.{all_names}
use Rattle.fac_explainer.proofs.help.names_of.Goals as goal

pub returns : goal.returns
returns c =
    all_names (map (λ pair. pair.1) c.args.given.now) _ c.push_defined.new.names c.push_all.new.names c.as_bytes.result.now c.in_ok-names.ensures (c.as_bytes.ensures.value ∙ c.text.ensures) c.in_ok-push_defined.ensures
    (subst (λ given. AddsAll (map (λ pair. pair.1) given) c.push_defined.new.names c.push_all.new.names) c.as_slice.ensures c.in_ok-push_all.ensures)
