use Rattle.fac_lang.proofs.TableLemmas.{is_counted}
use Rattle.fac_lang.proofs.tables.is_primitive.Goals as goal

pub returns : goal.returns
returns c = is_counted c.primitives.result.now c.args.number c.primitives.ensures
