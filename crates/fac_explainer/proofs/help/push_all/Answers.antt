use Rattle.std.proofs.Common.{ℕ, List, subst}
use Rattle.fac_explain.specs.Names.{AddsDefined}
use Rattle.fac_explainer.proofs.HelpLemmas.{one_more_text, all_texts}
use Rattle.fac_explainer.proofs.help.push_all.Goals as goal

pub loop-pair-preserved : goal.loop-pair-preserved
loop-pair-preserved c =
    one_more_text (λ pair. pair.1) c.args.given.now c.loop-pair.pair-index c.pair-item.result c.args.names.now c.loop-pair.names c.push_defined.new.names c.loop-pair-test.true c.loop-pair.invariant
    (subst (λ pair. AddsDefined pair.1 c.loop-pair.names c.push_defined.new.names) c.pair-item.is
    (subst (λ (text : List ℕ). AddsDefined text c.loop-pair.names c.push_defined.new.names) c.as_slice.ensures c.in_ok-push_defined.ensures))

pub returns : goal.returns
returns c = all_texts (λ pair. pair.1) c.args.given.now c.loop-pair.pair-index c.args.names.now c.loop-pair.names c.loop-pair-test.false c.loop-pair.invariant
