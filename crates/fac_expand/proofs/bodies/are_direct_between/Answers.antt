use Rattle.std.proofs.Common.{◌≡◌, ◌≤◌, ℕ, Some, true, arith, sym, subst, below_more, ◌∙◌}
use Rattle.std.specs.Prelude.{slice_get}
use Rattle.fac_code.specs.declared.image.Instr.{Instr}
use Rattle.fac_expand.specs.inner.Bodies.{is_direct_between as stays_between}
use Rattle.fac_expand.proofs.RunMoves.{same_found}
use Rattle.fac_expand.proofs.bodies.are_direct_between.Goals as goal

pub loop-at-init : goal.loop-at-init
loop-at-init c = λ k lt from. absurd (omega (arith, lt, from))

pub loop-at-preserved : goal.loop-at-preserved
loop-at-preserved c =
    below_more (λ (k : ℕ). c.args.first ≤ k → (i : Instr) → slice_get c.args.code.now k ≡ Some i → stays_between c.args.uses.now c.args.first c.args.second i ≡ true) c.loop-at.at c.loop-at.invariant
    (λ from i e. subst (λ (j : Instr). stays_between c.args.uses.now c.args.first c.args.second j ≡ true) (same_found (slice_get c.args.code.now c.loop-at.at) c.in-Some.instr.now i (sym c.in-Some.ensures) e) (sym c.is_direct_between.ensures ∙ c.in-true.is))

pub returns : goal.returns
returns c =
    λ t k lt from i e.
    let past = c.loop-at-test.false in
    c.loop-at.invariant k (omega (arith, lt, past)) from i e
