use Rattle.std.proofs.Common.{List, sym, ap, ◌∙◌}
use Rattle.fac_graph.specs.inner.Components.{behind_place, last_of}
use Rattle.fac_graph.specs.declared.components.Component.{Component}
use Rattle.fac_graph.proofs.ComponentLemmas.{joins_more}
use Rattle.fac_graph.proofs.components.join.Goals as goal

pub loop-components-preserved : goal.loop-components-preserved
loop-components-preserved c =
    joins_more c.args.place c.args.components.now.items c.loop-components.components.items c.pop.new.self.items c.pop.result c.loop-components.invariant c.pop.ensures.items (ap (λ (cs : List Component). behind_place c.args.place (last_of cs)) (sym c.as_slice.ensures.value) ∙ sym c.begins_behind.ensures ∙ c.loop-components-test.true)
