use Rattle.fac_bytes.proofs.FitLaws.{all_keep}
use Rattle.fac_bytes.proofs.KeptParts.{tables_keep}
use Rattle.fac_bytes.proofs.tables.last_fit.Goals as goal

pub list_fits-requires : goal.list_fits-requires
list_fits-requires c = all_keep c.args.image.now.templates

pub list_fits-requires-2 : goal.list_fits-requires-2
list_fits-requires-2 c = (tables_keep c.args.image.now).words

pub pairs_fit-requires : goal.pairs_fit-requires
pairs_fit-requires c = (tables_keep c.args.image.now).pairs
