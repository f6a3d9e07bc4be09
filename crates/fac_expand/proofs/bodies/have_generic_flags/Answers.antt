use Rattle.std.proofs.Common.{◌≡◌, ℕ, Some, arith, sym, subst, below_more}
use Rattle.std.proofs.lemmas.Option.{slice_get_within}
use Rattle.std.specs.Prelude.{slice_get}
use Rattle.fac_code.specs.declared.image.GenericRow.{GenericRow}
use Rattle.fac_expand.specs.inner.Bodies.{HaveMethodFlags}
use Rattle.fac_expand.proofs.RunMoves.{same_found}
use Rattle.fac_expand.proofs.bodies.have_generic_flags.Goals as goal

pub loop-index-init : goal.loop-index-init
loop-index-init c = λ k lt. absurd (omega (arith, lt))

pub loop-index-preserved : goal.loop-index-preserved
loop-index-preserved c =
    below_more (λ (k : ℕ). (r : GenericRow) → slice_get c.args.generics.now k ≡ Some r → HaveMethodFlags c.args.flags.now r.methods) c.loop-index.index c.loop-index.invariant
    (λ r e. subst (λ (s : GenericRow). HaveMethodFlags c.args.flags.now s.methods) (same_found (slice_get c.args.generics.now c.loop-index.index) c.in-Some.generic.now r (sym c.in-Some.ensures) e) (c.have_method_flags.ensures c.in-true.is))

pub returns : goal.returns
returns c =
    λ t k r e.
    let within = slice_get_within c.args.generics.now k r e in
    let past = c.loop-index-test.false in
    let many = c.len-index-end.ensures in
    c.loop-index.invariant k (omega (arith, within, past, many)) r e
