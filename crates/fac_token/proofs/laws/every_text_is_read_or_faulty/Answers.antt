use Rattle.fac_token.proofs.ScanLemmas.{read_or_faulty}
use Rattle.fac_token.proofs.laws.every_text_is_read_or_faulty.Goals as goal

pub returns : goal.returns
returns c = read_or_faulty
