use Rattle.fac_spelling.proofs.WholeLaws.{spelled_once}
use Rattle.fac_bytes.specs.ImageBytes.{image, parts_of}
use Rattle.fac_bytes.proofs.ImageLaws.{image_exact}
use Rattle.fac_bytes.proofs.SameImages.{same_image}
use Rattle.fac_bytes.proofs.laws.one_image.Goals as goal

pub returns : goal.returns
returns c = λ bytes M N m n. same_image M N (spelled_once image image_exact bytes (parts_of M) (parts_of N) m n)
