use Rattle.fac_judge.proofs.JudgedLemmas.{refused_by}
use Rattle.fac_judge.proofs.judging.refused.Goals as goal

pub returns-in-Ok : goal.returns-in-Ok
returns-in-Ok c = λ P count same e. refused_by P c.args.program.now count c.args.refusal c.in-Ok.word same e c.in-Ok.ensures
