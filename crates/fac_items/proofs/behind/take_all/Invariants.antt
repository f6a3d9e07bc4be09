use Rattle.std.proofs.Common.{◌≡◌, length}
use Rattle.fac_items.specs.Items.{is_cond}
use Rattle.fac_items.specs.inner.Behind.{all_scanned}
use Rattle.fac_items.proofs.behind.take_all.Given as goal

abbrev pub invariant-loop-element : goal.invariant-loop-element
invariant-loop-element l = all_scanned (is_cond l.scope) l.elements l.initial.scan ≡ all_scanned (is_cond l.scope) l.rest l.scan

abbrev pub decreases-loop-element : goal.decreases-loop-element
decreases-loop-element l = length l.rest
