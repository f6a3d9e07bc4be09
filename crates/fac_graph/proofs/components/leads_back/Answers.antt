use Rattle.std.proofs.Common.{sym, ◌∙◌, arith}
use Rattle.fac_graph.proofs.ComponentLemmas.{one_comes_back}
use Rattle.fac_graph.proofs.components.leads_back.Goals as goal

pub returns-else-path-first-gt1 : goal.returns-else-path-first-gt1
returns-else-path-first-gt1 c = c.has_own_edge.ensures ∙ sym (one_comes_back c.args.edges.now c.args.path.now c.args.first c.requires (omega (arith, c.if-path-first-gt1.false)))
