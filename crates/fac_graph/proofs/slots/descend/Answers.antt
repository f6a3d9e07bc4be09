-- What both answers begin with speaks of `c`, whose type is another one in each goal.
use Rattle.std.proofs.Common.{◌≡◌, ℕ, ◌+◌, ◌++◌, ◌∷◌, [], Option, set, refl, ap, ◌∙◌, arith}
use Rattle.std.specs.Option.{option_to_list}
use Rattle.fac_lang.specs.Classes.{shape_at}
use Rattle.fac_graph.specs.Slots.{own_slot_count}
use Rattle.fac_graph.specs.declared.slots.SlotCount.TheVariants.{Known}
use Rattle.fac_graph.proofs.ClimbLemmas.{last_there, descends_on}
use Rattle.fac_graph.proofs.slots.descend.Goals as goal

pub index_mut-requires : goal.index_mut-requires
index_mut-requires c =
    let cs = c.args.classes.now in
    let now = c.loop-class.counting in
    let left = c.pop.new.self.items in
    let class = c.in-Some.class in
    let sum = c.in-Some-checked_add.sum in
    let way : now.way.items ≡ left ++ class ∷ [] = c.pop.ensures.items ∙ ap (λ (o : Option ℕ). left ++ option_to_list o) c.in-Some.is in
    let more : sum ≡ c.loop-class.count + own_slot_count (shape_at cs class) = c.in-Some-checked_add.ensures.1 ∙ ap (λ (n : ℕ). c.loop-class.count + n) c.own_slots.ensures in
    let there = last_there cs c.args.counting.now now (set now.standings.items class (Known sum)) left c.loop-class.count class sum c.loop-class.invariant way more refl in
    omega (arith, there)

pub loop-class-preserved : goal.loop-class-preserved
loop-class-preserved c =
    let cs = c.args.classes.now in
    let now = c.loop-class.counting in
    let left = c.pop.new.self.items in
    let class = c.in-Some.class in
    let sum = c.in-Some-checked_add.sum in
    let way : now.way.items ≡ left ++ class ∷ [] = c.pop.ensures.items ∙ ap (λ (o : Option ℕ). left ++ option_to_list o) c.in-Some.is in
    let more : sum ≡ c.loop-class.count + own_slot_count (shape_at cs class) = c.in-Some-checked_add.ensures.1 ∙ ap (λ (n : ℕ). c.loop-class.count + n) c.own_slots.ensures in
    descends_on cs c.args.counting.now now (set now.standings.items class (Known sum)) left c.loop-class.count class sum c.loop-class.invariant way more refl _ refl refl
