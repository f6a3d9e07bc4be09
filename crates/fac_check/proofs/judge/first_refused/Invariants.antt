use Rattle.std.proofs.Common.{◌≡◌, drop, map}
use Rattle.fac_check.specs.Judged.{first_of, verdict_seen}
use Rattle.fac_check.proofs.judge.first_refused.Given as goal

abbrev pub invariant-loop-verdict : goal.invariant-loop-verdict
invariant-loop-verdict l = first_of (map verdict_seen l.verdicts) ≡ first_of (map verdict_seen (drop l.verdict-index l.verdict-items))
