use Rattle.std.proofs.Common.{◌≡◌, ◌<◌, ℕ, Some, arith, sym, subst, ◌∙◌, below_more}
use Rattle.std.proofs.lemmas.Option.{slice_get_within}
use Rattle.std.specs.Prelude.{slice_get}
use Rattle.fac_expand.proofs.RunMoves.{same_found}
use Rattle.fac_expand.proofs.shrinking.are_cells_below.Goals as goal

pub loop-index-init : goal.loop-index-init
loop-index-init c = λ k lt. absurd (omega (arith, lt))

pub loop-index-preserved : goal.loop-index-preserved
loop-index-preserved c =
    below_more (λ (k : ℕ). (d : ℕ) → slice_get c.args.cells.now k ≡ Some d → d < c.args.count) c.loop-index.index c.loop-index.invariant
    (λ d e. subst (λ (n : ℕ). n < c.args.count) (same_found (slice_get c.args.cells.now c.loop-index.index) c.in-Some.cell.now d (sym c.in-Some.ensures) e) c.if-cell-count.true)

pub returns : goal.returns
returns c =
    λ t k d e.
    let within = slice_get_within c.args.cells.now k d e in
    let past = c.loop-index-test.false in
    let many = c.len-index-end.ensures in
    c.loop-index.invariant k (omega (arith, within, past, many)) d e
