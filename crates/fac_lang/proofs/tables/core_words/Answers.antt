use Rattle.std.proofs.Common.{refl}
use Rattle.fac_lang.proofs.tables.core_words.Goals as goal

-- both tables, row by row
pub returns : goal.returns
returns c = refl
