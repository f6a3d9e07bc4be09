use Rattle.std.proofs.Common.{ℕ, Some, slice_get, sym, ap, ◌≡◌, ◌∙◌, refl}
use Rattle.std.proofs.Math.ListN.{length-map}
use Rattle.indexmap.specs.IndexMap.{keys}
use Rattle.indexmap.proofs.CallerLemmas.{insert_entry-new}
use Rattle.fac_abs.specs.declared.stack_nodes.StackNode.{StackNode}
use Rattle.fac_abs.specs.contracts.stack_nodes.StackNodePartialEq.TheImpl as test
use Rattle.fac_abs.specs.inner.Framing.{there, added}
use Rattle.fac_abs.proofs.FrameLemmas.{there_at, there_is, there_within, keys_with}
use Rattle.fac_abs.proofs.NodeEquality.{frame_same, frame_itself, place_found, no_place, none_by}
use Rattle.fac_abs.proofs.frame_nodes.number.Goals as goal

pub returns-in-Some-clause-found : goal.returns-in-Some-clause-found
returns-in-Some-clause-found c =
    let f = place_found c.args.node test.eq-value.it frame_same frame_itself c.args.node (keys c.args.nodes.now) c.in-Some.place c.in-Some.ensures.index in
    there (there_at (keys c.args.nodes.now) c.in-Some.place c.args.node f.0 ∙ ap Some f.1) refl

pub returns-clause-found : goal.returns-clause-found
returns-clause-found c =
    let none = none_by _ c.in_default.ensures.found in
    let ks = keys c.args.nodes.now in
    added (λ k e. no_place c.args.node test.eq-value.it frame_same frame_itself c.args.node ks (sym c.in_default.ensures.index) k (there_within ks k c.args.node e) (there_is ks k c.args.node c.args.node e)) (c.len-place.ensures.len ∙ sym (length-map c.args.nodes.now.entries (λ (p : StackNode × Unit {0}). p.0))) (keys_with c.args.nodes.now.entries _ c.args.node tt (c.in_ok-insert.ensures.entries ∙ insert_entry-new test.eq-value.it c.args.nodes.now c.args.node tt none))
