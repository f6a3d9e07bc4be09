use Rattle.std.proofs.Common.{◌≡◌, ℕ, Some, subst}
use Rattle.fac_check.specs.Judged.{refusal_seen}
use Rattle.fac_check.specs.Verdicts.{verdict}
use Rattle.fac_tool.proofs.ClosedLemmas.{same_names}
use Rattle.fac_tool.proofs.accepting.check_closed.Goals as goal

pub returns-in-Some : goal.returns-in-Some
returns-in-Some g c = λ P stands count on.
    let C = c.args.closed in
    let judged = rw c.in-Some.is at (c.in_ok-refusal.ensures P stands.closes stands.whole) in
    let first = subst (λ (n : ℕ). verdict P n ≡ Some (refusal_seen c.in-Some.refusal)) c.requires.start judged in
    c.refused.ensures P (same_names P C.program C.templates stands.closes) first on count
