use Rattle.std.proofs.Common.{◌∙◌, ap}
use Rattle.fac_check.specs.Judged.{refusal_if}
use Rattle.fac_check.proofs.JudgeLemmas.{judged_by}
use Rattle.fac_check.proofs.judge.gather.Goals as goal

pub accept-requires-clause-accepted : goal.accept-requires-clause-accepted
accept-requires-clause-accepted c = λ P closes whole. judged_by c.args.closed c.args.verdicts.now (refusal_if c.first_refused.result) c.requires.verdicts c.first_refused.ensures P closes whole ∙ ap refusal_if c.in-None.is

pub returns-in-Some : goal.returns-in-Some
returns-in-Some c = λ P closes whole. judged_by c.args.closed c.args.verdicts.now (refusal_if c.first_refused.result) c.requires.verdicts c.first_refused.ensures P closes whole ∙ ap refusal_if c.in-Some.is
