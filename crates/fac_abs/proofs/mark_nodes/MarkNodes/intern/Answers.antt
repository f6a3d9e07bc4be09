use Rattle.fac_abs.proofs.MarkTableLemmas.{table_by}
use Rattle.fac_abs.proofs.mark_nodes.MarkNodes.intern.Goals as goal

pub invariant_of-self : goal.invariant_of-self
invariant_of-self c = (table_by c.self.inside.nodes.entries c.number.new.nodes.entries c.args.node c.args.depth c.self.invariant.0 c.number.result c.number.ensures.found c.number.ensures.err, c.number.ensures.short)

pub returns-clause-table : goal.returns-clause-table
returns-clause-table c = table_by c.self.inside.nodes.entries c.number.new.nodes.entries c.args.node c.args.depth c.self.invariant.0 c.number.result c.number.ensures.found c.number.ensures.err
