use Rattle.std.proofs.Common.{ℕ, List, Some, None, sym, subst}
use Rattle.fac_check.specs.inner.Walking.{Captures, MakesLiteral}
use Rattle.fac_check.proofs.OpenedItems.{literal_does, no_captures}
use Rattle.fac_check.proofs.WordItems.{ok_maps}
use Rattle.fac_check.proofs.doing.made.Goals as goal

pub returns-in_ok-literal-in-Some-2-clause-does : goal.returns-in_ok-literal-in-Some-2-clause-does
returns-in_ok-literal-in-Some-2-clause-does c =
    ok_maps c.fry.result (λ r makes. λ b O at here i stands opens.
    let M = c.args.marks.now in
    let L = c.capture.new.marks in
    let step = c.args.step in
    let captures = subst (Captures M L step.frame c.as_slice.result.now) c.in-Some-2.is c.in_ok-cells-in-Some.ensures.made in
    literal_does O M L c.fry.new.marks step.alone c.args.template c.in-Some.found.now (sym c.in-Some.ensures) b step.stack step.frame c.in-Some-2.cells c.in_ok-cells-in-Some.ensures.grows c.requires.stack
    (subst (λ (ks : List ℕ). Captures M L step.frame ks (Some c.in-Some-2.cells)) c.as_slice.ensures captures) r
    (subst (λ (n : ℕ). MakesLiteral L c.fry.new.marks step.stack n c.in-Some-2.cells c.in-Some.found.now.holes r) c.in_ok-literal-in-Some-2.ensures.number makes) at here i stands opens) c.fry.ensures.does

pub returns-in-None-2-clause-does : goal.returns-in-None-2-clause-does
returns-in-None-2-clause-does c = λ b O at here i stands opens.
    let M = c.args.marks.now in
    let L = c.capture.new.marks in
    let frame = c.args.step.frame in
    let none = subst (Captures M L frame c.as_slice.result.now) c.in-None-2.is c.in_ok-cells-in-Some.ensures.made in
    absurd (no_captures O M L c.args.template c.in-Some.found.now (sym c.in-Some.ensures) frame (subst (λ (ks : List ℕ). Captures M L frame ks None) c.as_slice.ensures none) at i opens)
