use Rattle.std.proofs.Common.{ap, ◌∙◌}
use Rattle.fac_endings.specs.inner.Finishes.{slots_above}
use Rattle.fac_endings.proofs.LineLemmas.{slots_below}
use Rattle.fac_endings.proofs.finishing.next_slots.Goals as goal

pub returns-then-is_settled : goal.returns-then-is_settled
returns-then-is_settled c =
    slots_below c.both_texts.result c.args.classes.now c.args.flags.now c.args.slots.now c.args.class c.slots_above-above.result.now c.slots_at.result.now c.requires.flags c.requires.slots c.requires.there c.if-is_settled.ensures
    (c.slots_above-above.ensures ∙ ap (slots_above c.args.slots.now) c.parent_of.ensures) c.slots_at.ensures c.both_texts.ensures
