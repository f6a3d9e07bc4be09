use Rattle.std.proofs.Common.{◌≡◌, ◌<◌, ℕ, Some, arith, sym, subst, ◌∙◌, below_more}
use Rattle.std.proofs.lemmas.Option.{slice_get_within}
use Rattle.std.specs.Prelude.{slice_get}
use Rattle.fac_expand.specs.declared.put_off.PutOff.{PutOff}
use Rattle.fac_expand.specs.inner.Loops.{RowBelow}
use Rattle.fac_expand.proofs.RunMoves.{same_found}
use Rattle.fac_expand.proofs.shrinking.are_rows_below.Goals as goal

pub loop-index-init : goal.loop-index-init
loop-index-init c = λ k lt. absurd (omega (arith, lt))

pub loop-index-preserved : goal.loop-index-preserved
loop-index-preserved c =
    below_more (λ (k : ℕ). (r : PutOff) → slice_get c.args.rows.now k ≡ Some r → RowBelow c.args.count r) c.loop-index.index c.loop-index.invariant
    (λ r e. subst (λ (s : PutOff). RowBelow c.args.count s) (same_found (slice_get c.args.rows.now c.loop-index.index) c.in-Some.row.now r (sym c.in-Some.ensures) e) (c.is_row_below.ensures c.in-true.is))

pub returns : goal.returns
returns c =
    λ t k r e.
    let within = slice_get_within c.args.rows.now k r e in
    let past = c.loop-index-test.false in
    let many = c.len-index-end.ensures in
    c.loop-index.invariant k (omega (arith, within, past, many)) r e
