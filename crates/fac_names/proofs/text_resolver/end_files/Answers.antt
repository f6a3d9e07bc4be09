use Rattle.std.proofs.Common.{ap}
use Rattle.fac_lang.specs.PhraseView.{items_phrase}
use Rattle.fac_lang.specs.Phrases.{Phrase, end}
use Rattle.fac_names.specs.Forms.{Reading}
use Rattle.fac_names.specs.inner.State.{reading_of}
use Rattle.fac_names.proofs.TextLemmas.{known_behind}
use Rattle.fac_names.proofs.text_resolver.end_files.Goals as goal

pub returns-in-Ok : goal.returns-in-Ok
returns-in-Ok c =
    let r = reading_of c.args.so_far in
    let with_top : Phrase → Reading = λ t. record r { top = t; main = end } in
    known_behind r (with_top (items_phrase c.add_items.new.items.items)) c.end_text.result (ap with_top c.in-Ok.ensures) c.end_text.ensures
