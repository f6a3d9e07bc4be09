use Rattle.fac_endings.proofs.FinishLemmas.{all_given}
use Rattle.fac_endings.proofs.finishing.all_finishes.Goals as goal

pub returns : goal.returns
returns c = all_given c.args.drafts.now c.as_slice.result.now c.args.classes.now c.finishes_of.result c.as_slice.ensures c.finishes_of.ensures
