use Rattle.fac_spelling.proofs.Utf8Laws.{text_utf8}
use Rattle.fac_spelling.proofs.laws.texts_are_utf8.Goals as goal

pub returns : goal.returns
returns c = text_utf8
