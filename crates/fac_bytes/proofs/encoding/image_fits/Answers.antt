use Rattle.fac_bytes.proofs.KeptParts.{code_keeps}
use Rattle.fac_bytes.proofs.encoding.image_fits.Goals as goal

pub list_fits-requires : goal.list_fits-requires
list_fits-requires c = code_keeps c.args.image.now c.requires
