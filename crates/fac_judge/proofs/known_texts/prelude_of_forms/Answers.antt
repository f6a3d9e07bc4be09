use Rattle.fac_judge.proofs.KnownLemmas.{wanted_prelude}
use Rattle.fac_judge.proofs.known_texts.prelude_of_forms.Goals as goal

pub returns-in-Err : goal.returns-in-Err
returns-in-Err c = wanted_prelude c.args.forms
