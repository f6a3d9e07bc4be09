use Rattle.std.proofs.Common.{List, refl, ap, ◌∙◌}
use Rattle.std.specs.Prelude.{slice_get}
use Rattle.fac_graph.specs.inner.Components.{standing_or_done}
use Rattle.fac_graph.specs.declared.components.VisitState.{VisitState}
use Rattle.fac_graph.specs.declared.components.VisitState.TheVariants.{Unseen}
use Rattle.fac_graph.proofs.NumberLists.{under}
use Rattle.fac_graph.proofs.ComponentLemmas.{is_unseen, is_open, is_over}
use Rattle.fac_graph.proofs.SearchSteps.{follows_unseen, follows_open, follows_done, on_ok}
use Rattle.fac_graph.proofs.components.follow.Goals as goal

pub open-requires : goal.open-requires
open-requires c =
    under c.args.search.now.standings.items c.args.node Unseen (is_unseen _ c.standing_of.result (c.standing_of.ensures ∙ ap (λ (S : List VisitState). standing_or_done (slice_get S c.args.node)) c.as_slice.ensures.value) c.in-Unseen.is)

pub returns-in-Unseen : goal.returns-in-Unseen
returns-in-Unseen c =
    on_ok c.open.result (λ opens. follows_unseen c.args.edges.now c.args.search.now c.open.new.search c.args.node c.requires (is_unseen _ c.standing_of.result (c.standing_of.ensures ∙ ap (λ (S : List VisitState). standing_or_done (slice_get S c.args.node)) c.as_slice.ensures.value) c.in-Unseen.is) opens) c.open.ensures

pub returns-in-Open : goal.returns-in-Open
returns-in-Open c =
    follows_open c.args.edges.now c.args.search.now _ c.args.node c.in-Open.place c.requires (is_open _ c.standing_of.result c.in-Open.place (c.standing_of.ensures ∙ ap (λ (S : List VisitState). standing_or_done (slice_get S c.args.node)) c.as_slice.ensures.value) c.in-Open.is) refl refl refl c.join.ensures

pub returns-in-Done : goal.returns-in-Done
returns-in-Done c =
    follows_done c.args.edges.now c.args.search.now _ c.args.node c.requires (is_over _ c.standing_of.result c.in-Done.field-0 (c.standing_of.ensures ∙ ap (λ (S : List VisitState). standing_or_done (slice_get S c.args.node)) c.as_slice.ensures.value) c.in-Done.is) refl refl refl refl
