use Rattle.fac_lang.proofs.TableLemmas.{row_is, row_there}
use Rattle.fac_lang.proofs.tables.operation_of.Goals as goal

pub unreachable-requires : goal.unreachable-requires
unreachable-requires c = row_there c.primitives.result.now c.args.number c.primitives.ensures c.requires (c.in-None.ensures).lookup.3

pub returns : goal.returns
returns c = row_is c.primitives.result.now c.args.number c.in-Some.row.now c.primitives.ensures (c.in-Some.ensures).lookup.3.0 (c.in-Some.ensures).lookup.1
