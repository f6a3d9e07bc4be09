use Rattle.fac_bytes.proofs.ImageLaws.{image_exact}
use Rattle.fac_bytes.proofs.decoding.decode.Goals as goal

pub read_all-requires : goal.read_all-requires
read_all-requires c = image_exact
