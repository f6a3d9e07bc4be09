use Rattle.std.proofs.Common.{sym}
use Rattle.fac_spelling.proofs.WholeLaws.{front_broken}
use Rattle.fac_bytes.specs.ImageBytes.{image}
use Rattle.fac_bytes.proofs.ImageLaws.{image_exact}
use Rattle.fac_bytes.proofs.laws.fronts_are_broken.Goals as goal

pub returns : goal.returns
returns c = λ x front b bs h. front_broken image image_exact x front b bs h.fits (sym h.is)
