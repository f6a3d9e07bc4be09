use Rattle.std.proofs.Common.{◌≡◌, ℕ, Some, true, arith, sym, subst, below_more}
use Rattle.std.proofs.lemmas.Option.{slice_get_within}
use Rattle.std.specs.Prelude.{slice_get}
use Rattle.fac_code.specs.declared.image.MethodRow.{MethodRow}
use Rattle.fac_expand.proofs.RunMoves.{same_found}
use Rattle.fac_expand.proofs.bodies.have_method_flags.Goals as goal

pub loop-index-init : goal.loop-index-init
loop-index-init c = λ k lt. absurd (omega (arith, lt))

pub loop-index-preserved : goal.loop-index-preserved
loop-index-preserved c =
    below_more (λ (k : ℕ). (m : MethodRow) → slice_get c.args.methods.now k ≡ Some m → slice_get c.args.flags.now m.entry ≡ Some true) c.loop-index.index c.loop-index.invariant
    (λ m e. subst (λ (s : MethodRow). slice_get c.args.flags.now s.entry ≡ Some true) (same_found (slice_get c.args.methods.now c.loop-index.index) c.in-Some.method.now m (sym c.in-Some.ensures) e) (c.is_flagged.ensures.yes c.in-true.is))

pub returns : goal.returns
returns c =
    λ t k m e.
    let within = slice_get_within c.args.methods.now k m e in
    let past = c.loop-index-test.false in
    let many = c.len-index-end.ensures in
    c.loop-index.invariant k (omega (arith, within, past, many)) m e
