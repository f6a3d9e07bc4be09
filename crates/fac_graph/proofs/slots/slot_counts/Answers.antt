use Rattle.std.proofs.Common.{◌≡◌, List, ℕ, map, sym, ◌∙◌}
use Rattle.fac_graph.specs.Slots.{slot_counts}
use Rattle.fac_graph.specs.declared.slots.SlotCount.TheVariants.{Known}
use Rattle.fac_graph.proofs.ClimbLemmas.{if_ok, over_counts}
use Rattle.fac_graph.proofs.slots.slot_counts.Goals as goal

pub returns : goal.returns
returns c =
    let cs = c.args.classes.now in
    let standings = c.as_slice-2.result.now in
    if_ok (λ (counts : List ℕ). standings ≡ map Known counts) (λ (counts : List ℕ). counts ≡ slot_counts cs) c.counts_of.result (λ counts are. over_counts cs c.count_all.new.counting counts c.in_ok-count_all.ensures (sym c.as_slice-2.ensures.value ∙ are)) c.counts_of.ensures
