use Rattle.fac_expand.proofs.DirectThere.{keeps_direct}
use Rattle.fac_expand.proofs.Expansions.{expands_itself}
use Rattle.fac_expand.proofs.expansion.directly_plain.Goals as goal

pub returns-then-branch-clause-expands : goal.returns-then-branch-clause-expands
returns-then-branch-clause-expands c = expands_itself c.args.top c.args.plain

pub returns-then-branch-clause-direct : goal.returns-then-branch-clause-direct
returns-then-branch-clause-direct c = keeps_direct c.args.top c.args.plain c.args.uses.now c.args.plain (c.in_ok-has_direct_code.ensures c.if-branch.true)
