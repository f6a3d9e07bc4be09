use Rattle.std.proofs.Common.{◌≡◌, ℕ, OnOk, subst}
use Rattle.fac_emit.specs.ProgramTexts.{with_texts, phrase_texts, template_texts, array_texts}
use Rattle.fac_emit.proofs.TextLemmas.{levels_are}
use Rattle.fac_emit.proofs.sequence.add_body.Goals as goal

pub returns : goal.returns
returns c =
    let C = c.args.closed.now in
    subst (λ (n : ℕ). OnOk c.add_phrase.result (c.add_phrase.new.texts ≡ with_texts c.args.texts.now (phrase_texts (template_texts C n) (array_texts C n) c.args.phrase.now))) levels_are c.add_phrase.ensures
