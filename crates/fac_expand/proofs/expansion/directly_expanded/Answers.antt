use Rattle.fac_expand.proofs.DirectThere.{keeps_direct}
use Rattle.fac_expand.proofs.expansion.directly_expanded.Goals as goal

pub returns-then-branch-clause-direct : goal.returns-then-branch-clause-direct
returns-then-branch-clause-direct c = keeps_direct c.args.top c.args.plain.now c.args.uses.now c.in-Some.image (c.in_ok-has_direct_code.ensures c.if-branch.true)
