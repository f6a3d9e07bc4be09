use Rattle.std.proofs.Common.{◌≡◌}
use Rattle.fac_expand.specs.inner.Loops.{shorter}
use Rattle.fac_expand.proofs.Changing.{later}
use Rattle.fac_expand.proofs.plan.Plan.shrink.Goals as goal

pub returns-in-true-clause-shrinks : goal.returns-in-true-clause-shrinks
returns-in-true-clause-shrinks c =
    later c.drop_cells.result (λ d. shorter c.needed_by_all-count.result (c.are_rows_below.ensures c.in-true.is) d) c.drop_cells.ensures
