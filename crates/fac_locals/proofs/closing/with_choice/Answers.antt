use Rattle.std.proofs.Common.{sym}
use Rattle.fac_locals.proofs.ChoiceTemplates.{append_end}
use Rattle.fac_locals.proofs.closing.with_choice.Goals as goal

pub returns-in-None : goal.returns-in-None
returns-in-None c = rw c.in-None.is (sym (append_end c.args.phrase))
