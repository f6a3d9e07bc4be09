use Rattle.std.proofs.Common.{ap, ◌∙◌}
use Rattle.fac_lang.specs.PhraseView.{items_phrase}
use Rattle.fac_lang.specs.RunningLaws.{append}
use Rattle.fac_items.specs.FromElements.{nested}
use Rattle.fac_names.proofs.ReadingLemmas.{items_taken}
use Rattle.fac_names.proofs.bodies.take_items.Goals as goal

pub returns : goal.returns
returns c =
    items_taken c.args.so_far.now c.read_items.new.so_far (nested c.args.elements.now) (items_phrase c.add_items.new.items.items) c.in_ok-phrase.phrase c.in_ok-phrase.ensures (c.in_ok-add_items.ensures ∙ ap (append (items_phrase c.read_items.new.so_far.items.items)) c.phrase.view_is)
