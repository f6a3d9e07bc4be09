use Rattle.fac_check.specs.Judged.{refusal_if}
use Rattle.fac_check.proofs.JudgeLemmas.{judged_by}
use Rattle.fac_check.proofs.laws.first_refusal_is_verdict.Goals as goal

pub returns : goal.returns
returns c = λ closed verdicts first are is. judged_by closed verdicts (refusal_if first) are is
