use Rattle.std.proofs.Common.{◌≡◌, ◌++◌, ℕ, List, Some, refl, ap, sym, subst, ◌∙◌}
use Rattle.std.proofs.lemmas.Bool.{ltb-true}
use Rattle.std.proofs.lemmas.Option.{slice_get-get_or}
use Rattle.fac_expand.specs.inner.Calls.{cells_in}
use Rattle.fac_expand.proofs.Changing.{mapping_goes_on, mapping_ends}
use Rattle.fac_expand.proofs.mapping.mapped.Goals as goal

pub loop-cell-init : goal.loop-cell-init
loop-cell-init c =
    λ rest e. e ∙ ap (λ (xs : List ℕ). Some (xs ++ rest)) (sym c.new-real.ensures)

pub loop-cell-preserved : goal.loop-cell-preserved
loop-cell-preserved c =
    mapping_goes_on c.args.env.now c.args.cells.now c.loop-cell.cell-index _ c.in-Some.place.now c.loop-cell.real c.push.new.self c.loop-cell.invariant (slice_get-get_or c.args.cells.now c.loop-cell.cell-index 0 c.loop-cell-test.true) (let found = c.in-Some.ensures in slice_get-get_or c.args.env.now _ c.in-Some.place.now (ltb-true _ _ (sym found.lookup.0)) ∙ ap Some (sym found.lookup.1)) c.in_ok-push-in-Some.ensures.ok

pub returns : goal.returns
returns c =
    mapping_ends c.args.env.now c.args.cells.now c.loop-cell.cell-index c.loop-cell.real c.loop-cell.invariant c.loop-cell-test.false
