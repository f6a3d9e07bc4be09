use Rattle.fac_bytes.proofs.FitLaws.{all_keep}
use Rattle.fac_bytes.proofs.MethodFits.{distinct_fit}
use Rattle.fac_bytes.proofs.generics.generics_fit.Goals as goal

pub list_fits-requires : goal.list_fits-requires
list_fits-requires c = all_keep c.args.rows.now

pub returns : goal.returns
returns c = distinct_fit c.args.rows.now c.list_fits.ensures c.requires
