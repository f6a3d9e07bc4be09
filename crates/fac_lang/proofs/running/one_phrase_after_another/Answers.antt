use Rattle.fac_lang.proofs.RunningLemmas.{one_phrase_after_another}
use Rattle.fac_lang.proofs.running.one_phrase_after_another.Goals as goal

pub returns : goal.returns
returns c = one_phrase_after_another
