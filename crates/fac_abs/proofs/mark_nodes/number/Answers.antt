use Rattle.std.proofs.Common.{ℕ, sym, ◌∙◌, refl}
use Rattle.std.proofs.Math.ListN.{length-map}
use Rattle.indexmap.specs.IndexMap.{keys}
use Rattle.indexmap.proofs.CallerLemmas.{insert_entry-new}
use Rattle.fac_abs.specs.declared.mark_node.MarkNode.{MarkNode}
use Rattle.fac_abs.specs.declared.mark_node.MarkNode.TheVariants.{Any}
use Rattle.fac_abs.specs.contracts.mark_node.MarkNodePartialEq.TheImpl as test
use Rattle.fac_abs.specs.inner.Interning.{there, added}
use Rattle.fac_abs.proofs.NodeEquality.{node_same, node_itself, place_found, no_place, none_by}
use Rattle.fac_abs.proofs.mark_nodes.number.Goals as goal

pub returns-in-Some-clause-found : goal.returns-in-Some-clause-found
returns-in-Some-clause-found c =
    let f = place_found Any test.eq-value.it node_same node_itself c.args.node (keys c.args.nodes.now) c.in-Some.place c.in-Some.ensures.index in
    there f.0 f.1 refl

pub returns-clause-found : goal.returns-clause-found
returns-clause-found c =
    let none = none_by _ c.in_default.ensures.found in
    added (no_place Any test.eq-value.it node_same node_itself c.args.node (keys c.args.nodes.now) (sym c.in_default.ensures.index)) (c.len-place.ensures.len ∙ sym (length-map c.args.nodes.now.entries (λ (p : MarkNode × ℕ). p.0))) (c.in_ok-insert.ensures.entries ∙ insert_entry-new test.eq-value.it c.args.nodes.now c.args.node c.args.depth none)
