use Rattle.std.proofs.Common.{ap, sym, ◌∙◌}
use Rattle.fac_endings.specs.inner.Finishes.{slots_last}
use Rattle.fac_endings.proofs.FinishLemmas.{none_left, slots_line, slots_taken}
use Rattle.fac_endings.proofs.finishing.climbed_slots.Goals as goal

pub loop-bearer-preserved : goal.loop-bearer-preserved
loop-bearer-preserved c =
    slots_taken c.args.classes.now c.loop-bearer.line.items c.pop.new.self.items c.in-Some.bearer c.loop-bearer.slots c.add_texts.new.texts (slots_last c.args.classes.now c.in_ok-line.line.items) c.slots_at.result.now c.loop-bearer.invariant c.in-Some.ensures.items c.slots_at.ensures c.in_ok-add_texts.ensures

pub returns : goal.returns
returns c =
    none_left c.args.classes.now c.loop-bearer.line.items c.loop-bearer.slots (slots_last c.args.classes.now c.in_ok-line.line.items) c.loop-bearer.invariant (sym c.loop-bearer.line.ok.0 ∙ c.in_default.ensures.cases.0)
    ∙ ap (slots_last c.args.classes.now) c.in_ok-line.ensures
    ∙ sym (slots_line _ c.args.classes.now c.args.class)
