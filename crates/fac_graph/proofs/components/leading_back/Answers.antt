use Rattle.std.proofs.Common.{◌≡◌, List, Bool, map, sym, ◌∙◌}
use Rattle.fac_graph.specs.Paths.{AreLeadingBack}
use Rattle.fac_graph.specs.declared.components.VisitState.TheVariants.{Done}
use Rattle.fac_graph.proofs.SearchSteps.{if_ok, over_decides}
use Rattle.fac_graph.proofs.components.leading_back.Goals as goal

pub returns : goal.returns
returns c =
    let edges = c.args.edges.now in
    let standings = c.as_slice-2.result.now in
    if_ok (λ (flags : List Bool). standings ≡ map Done flags) (AreLeadingBack edges) c.flags_of.result (λ flags are. over_decides edges c.visit_all.new.search flags c.in_ok-visit_all.ensures (sym c.as_slice-2.ensures.value ∙ are)) c.flags_of.ensures
