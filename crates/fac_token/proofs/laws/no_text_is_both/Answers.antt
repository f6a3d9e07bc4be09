use Rattle.fac_token.proofs.OneReading.{not_both}
use Rattle.fac_token.proofs.laws.no_text_is_both.Goals as goal

pub returns : goal.returns
returns c = not_both
