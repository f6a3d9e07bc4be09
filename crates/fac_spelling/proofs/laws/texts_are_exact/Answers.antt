use Rattle.fac_spelling.proofs.TextLaws.{text_exact}
use Rattle.fac_spelling.proofs.laws.texts_are_exact.Goals as goal

pub returns : goal.returns
returns c = text_exact
