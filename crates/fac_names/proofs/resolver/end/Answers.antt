use Rattle.std.proofs.Common.{ap, ◌∙◌}
use Rattle.fac_lang.specs.PhraseView.{items_phrase}
use Rattle.fac_lang.specs.Phrases.{Phrase}
use Rattle.fac_lang.specs.RunningLaws.{append}
use Rattle.fac_names.specs.inner.State.{reading_of}
use Rattle.fac_names.proofs.EndingLemmas.{ends_reading}
use Rattle.fac_names.proofs.resolver.end.Goals as goal

pub returns-in-Ok : goal.returns-in-Ok
returns-in-Ok c =
    let so_far = c.args.so_far in
    let parts = c.gathered-gathered.result in
    let given = c.gathered-gathered.ensures in
    ends_reading (reading_of so_far) (record parts.0 { items = c.add_items.new.items }) c.ended.result given.drafts given.old_classes given.classes given.arrays given.first
    (c.in-Ok.ensures
    ∙ ap (λ (t : Phrase). append t (items_phrase parts.1.items)) (ap items_phrase given.items)
    ∙ ap (append (items_phrase so_far.items.items)) (ap items_phrase given.main))
    c.ended.ensures
