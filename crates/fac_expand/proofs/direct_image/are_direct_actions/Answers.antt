use Rattle.std.proofs.Common.{◌≡◌, ℕ, Some, arith, sym, subst, below_more}
use Rattle.std.specs.Prelude.{slice_get}
use Rattle.fac_code.specs.declared.image.WordRow.{WordRow}
use Rattle.fac_expand.specs.inner.DirectImages.{HasDirectAction}
use Rattle.fac_expand.proofs.RunMoves.{same_found}
use Rattle.fac_expand.proofs.direct_image.are_direct_actions.Goals as goal

pub loop-word-init : goal.loop-word-init
loop-word-init c = λ k lt. absurd (omega (arith, lt))

pub loop-word-preserved : goal.loop-word-preserved
loop-word-preserved c =
    let N = c.args.plain.now in
    let M = c.args.image.now in
    let uses = c.args.uses.now in
    let at = c.loop-word.word in
    below_more (λ (w : ℕ). (s : WordRow) → slice_get M.words w ≡ Some s → HasDirectAction N uses M w s.action) at c.loop-word.invariant
    (λ s e. subst (λ (r : WordRow). HasDirectAction N uses M at r.action) (same_found (slice_get M.words at) c.in-Some.row.now s (sym c.in-Some.ensures) e) (c.in_ok-is_direct_action-in-Some.ensures c.in-true.is))

pub returns : goal.returns
returns c =
    λ t w lt s e.
    let past = c.loop-word-test.false in
    c.loop-word.invariant w (omega (arith, lt, past)) s e
