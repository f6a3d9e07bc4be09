use Rattle.std.proofs.Common.{Bool, Ok, arith, length, subst, ◌∙◌}
use Rattle.fac_parse.specs.inner.Handing.{FallsIf, TakesNext}
use Rattle.fac_parse.proofs.ParseLemmas.{passed_on}
use Rattle.fac_parse.proofs.parser.Parser.take_more.Goals as goal

pub take_next-requires : goal.take_next-requires
take_next-requires c = (c.requires.0, c.requires.1, c.taking.invariant.takes c.requires.0 c.requires.1 c.requires.2)

pub returns-in_err-take_next-clause-takes : goal.returns-in_err-take_next-clause-takes
returns-in_err-take_next-clause-takes c = λ tokens before h.
    passed_on tokens before c.take_next.new.self c.from_residual.result c.in_err-take_next.field-0.0 c.from_residual.ensures.1 (c.in_err-take_next.ensures.takes tokens before (c.taking.invariant.takes tokens before h))

pub returns-then-not-branch-clause-takes : goal.returns-then-not-branch-clause-takes
returns-then-not-branch-clause-takes c = λ tokens before h.
    (subst (λ (b : Bool). TakesNext tokens before c.take_next.new.self (Ok b)) c.if-not-branch.true (c.in_ok-take_next.ensures.takes tokens before (c.taking.invariant.takes tokens before h))).0

pub taking-preserved : goal.taking-preserved
taking-preserved c =
    let falls = subst (λ (b : Bool). FallsIf (length c.taking.self.rest) (length c.take_next.new.self.rest) (Ok b)) c.if-not-branch.false c.in_ok-take_next.ensures.falls in
    let fewer = c.taking.invariant.fewer in
    record {
      takes = λ tokens before h.
          subst (λ (b : Bool). TakesNext tokens before c.take_next.new.self (Ok b)) c.if-not-branch.false (c.in_ok-take_next.ensures.takes tokens before (c.taking.invariant.takes tokens before h));
      fewer = omega (arith, falls, fewer);
      going = c.in_ok-take_next.ensures.going ∙ c.taking.invariant.going;
    }
