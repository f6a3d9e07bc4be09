use Rattle.fac_classes.proofs.UnionLemmas.{simple_by}
use Rattle.fac_classes.proofs.kind_table.fill.Goals as goal

pub join_unions-requires-clause-simple : goal.join_unions-requires-clause-simple
join_unions-requires-clause-simple c = simple_by c.args.classes.now c.args.width c.args.cells.now c.lay_built_ins.new.cells c.mark_owners.new.cells c.lay_built_ins.ensures c.mark_owners.ensures
