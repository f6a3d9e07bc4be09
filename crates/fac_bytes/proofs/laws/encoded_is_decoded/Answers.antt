use Rattle.fac_spelling.proofs.WholeLaws.{spelled_once}
use Rattle.fac_bytes.specs.ImageBytes.{image, parts_of}
use Rattle.fac_bytes.proofs.ImageLaws.{image_exact}
use Rattle.fac_bytes.proofs.DecodingLaws.{without_rule, keeps}
use Rattle.fac_bytes.proofs.laws.encoded_is_decoded.Goals as goal

pub returns-clause-image : goal.returns-clause-image
returns-clause-image c = λ bytes M s. record { fits = s.fits; kept = keeps M; is = s.is }

pub returns-clause-alone : goal.returns-clause-alone
returns-clause-alone c = λ bytes M P m p. spelled_once image image_exact bytes P (parts_of M) (without_rule bytes P p) m
