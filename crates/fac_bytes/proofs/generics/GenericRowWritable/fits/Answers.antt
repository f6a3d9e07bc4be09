use Rattle.fac_bytes.proofs.FitLaws.{all_keep}
use Rattle.fac_bytes.proofs.generics.GenericRowWritable.fits.Goals as goal

pub list_fits-requires : goal.list_fits-requires
list_fits-requires c = all_keep c.args.self.now.methods
