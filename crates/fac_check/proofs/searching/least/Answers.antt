use Rattle.std.proofs.Common.{subst}
use Rattle.fac_check.specs.TemplateWalks.{IsFoundHeight}
use Rattle.fac_check.proofs.SearchLemmas.{narrowed_none}
use Rattle.fac_check.proofs.searching.least.Goals as goal

pub narrowing-preserved : goal.narrowing-preserved
narrowing-preserved c =
    let closed = c.args.closed.now in
    let inputs = c.tried-inputs.result in
    narrowed_none closed c.args.template c.narrowing.low c.narrowing.high inputs c.narrowing.found c.tried-inputs.ensures.from c.tried-inputs.ensures.below c.narrowing.invariant (subst (IsFoundHeight closed c.args.template inputs) c.in-None.is c.in_ok-height.ensures)
