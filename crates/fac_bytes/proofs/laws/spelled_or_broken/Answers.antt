use Rattle.fac_spelling.proofs.WholeLaws.{spelled_or_broken}
use Rattle.fac_bytes.specs.ImageBytes.{image}
use Rattle.fac_bytes.proofs.ImageLaws.{image_exact}
use Rattle.fac_bytes.proofs.laws.spelled_or_broken.Goals as goal

pub returns : goal.returns
returns c = spelled_or_broken image image_exact
