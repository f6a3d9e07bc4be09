use Rattle.std.proofs.Common.{sym, subst}
use Rattle.std.specs.Prelude.{IfOk, ◌≡◌}
use Rattle.fac_lang.specs.Phrases.{Phrase, quot}
use Rattle.fac_lang.specs.PhraseView.{what_item}
use Rattle.fac_items.proofs.PhraseLemmas.{two_behind}
use Rattle.fac_items.proofs.choices.quotation_of.Goals as goal

pub returns-in-Some-pop : goal.returns-in-Some-pop
returns-in-Some-pop c =
    let whole = two_behind c.pop-in-Some.new.self.items c.pop.new.self.items c.args.items.items c.in-Some-pop.inner c.in-Some.last c.in-Some-pop.ensures.items c.in-Some.ensures.items in
    subst (λ (t : Phrase). IfOk c.ended.result (λ what. what_item what ≡ quot t)) (sym whole) c.ended.ensures
