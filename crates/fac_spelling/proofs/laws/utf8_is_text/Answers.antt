use Rattle.fac_spelling.proofs.Utf8Laws.{utf8_fits}
use Rattle.fac_spelling.proofs.laws.utf8_is_text.Goals as goal

pub returns : goal.returns
returns c = utf8_fits
