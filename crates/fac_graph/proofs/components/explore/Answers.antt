use Rattle.std.proofs.Common.{sym, ap, ◌∙◌}
use Rattle.fac_graph.specs.inner.Components.{last_of}
use Rattle.fac_graph.proofs.SearchSteps.{visiting_begins, visiting_ends}
use Rattle.fac_graph.proofs.components.explore.Goals as goal

pub loop-top-init : goal.loop-top-init
loop-top-init c = visiting_begins c.args.edges.now c.args.search.now c.open.new.search c.args.node c.requires.search c.requires.node c.in_ok-open.ensures

pub returns : goal.returns
returns c = visiting_ends c.args.edges.now c.args.search.now c.loop-top.search c.args.node c.loop-top.invariant (ap last_of (sym c.as_slice.ensures.value) ∙ sym c.last.ensures ∙ c.in_default.is)
