use Rattle.std.proofs.Common.{ℕ, List, Option, sym, ap, subst, ◌∙◌}
use Rattle.std.specs.Prelude.{slice_get}
use Rattle.fac_graph.specs.inner.Climbing.{known_or_none}
use Rattle.fac_graph.specs.declared.slots.SlotCount.{SlotCount}
use Rattle.fac_graph.specs.declared.slots.SlotCount.TheVariants.{Unmet}
use Rattle.fac_graph.proofs.NumberLists.{under}
use Rattle.fac_graph.proofs.ClimbLemmas.{Climbing, found_unmet, no_return, climbs_on, fewer}
use Rattle.fac_graph.proofs.slots.climb.Goals as goal

pub unreachable-requires : goal.unreachable-requires
unreachable-requires c =
    let now = c.loop-at.counting in
    let number = c.in-Some.number in
    no_return c.args.classes.now c.args.class c.args.counting.now now c.loop-at.at number c.standing_of.result c.requires.ends c.loop-at.invariant c.in-Some.is (c.standing_of.ensures ∙ ap (λ (S : List SlotCount). known_or_none (slice_get S number)) c.as_slice.ensures.value) c.in-OnWay.is

pub meet-requires : goal.meet-requires
meet-requires c =
    let number = c.in-Some.number in
    let S = c.loop-at.counting.standings.items in
    under S number Unmet (found_unmet (slice_get S number) c.standing_of.result (c.standing_of.ensures ∙ ap (λ (T : List SlotCount). known_or_none (slice_get T number)) c.as_slice.ensures.value) c.in-Unmet.is)

pub loop-at-smaller : goal.loop-at-smaller
loop-at-smaller c =
    let now = c.loop-at.counting in
    let number = c.in-Some.number in
    let S = now.standings.items in
    let unmet = found_unmet (slice_get S number) c.standing_of.result (c.standing_of.ensures ∙ ap (λ (T : List SlotCount). known_or_none (slice_get T number)) c.as_slice.ensures.value) c.in-Unmet.is in
    let here = subst (λ (o : Option ℕ). Climbing c.args.classes.now c.args.class c.args.counting.now now o) c.in-Some.is c.loop-at.invariant in
    fewer c.args.classes.now c.args.class c.args.counting.now now c.meet.new.counting number here unmet c.in_ok-meet-in-Unmet.ensures

pub loop-at-preserved : goal.loop-at-preserved
loop-at-preserved c =
    let now = c.loop-at.counting in
    let number = c.in-Some.number in
    let S = now.standings.items in
    let unmet = found_unmet (slice_get S number) c.standing_of.result (c.standing_of.ensures ∙ ap (λ (T : List SlotCount). known_or_none (slice_get T number)) c.as_slice.ensures.value) c.in-Unmet.is in
    let here = subst (λ (o : Option ℕ). Climbing c.args.classes.now c.args.class c.args.counting.now now o) c.in-Some.is c.loop-at.invariant in
    subst (λ (o : Option ℕ). Climbing c.args.classes.now c.args.class c.args.counting.now c.meet.new.counting o) (sym c.parent_of-at.ensures) (climbs_on c.args.classes.now c.args.class c.args.counting.now now c.meet.new.counting number here unmet c.in_ok-meet-in-Unmet.ensures)
