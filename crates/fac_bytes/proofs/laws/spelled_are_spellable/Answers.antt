use Rattle.fac_bytes.proofs.SpelledImages.{fitting}
use Rattle.fac_bytes.proofs.laws.spelled_are_spellable.Goals as goal

pub returns : goal.returns
returns c = λ bytes M s. fitting M s.fits
