use Rattle.std.proofs.Common.{◌≡◌, List, [], ◌∷◌, ◌++◌, reverse, ap, ◌∙◌}
use Rattle.fac_lang.specs.Phrases.{Phrase, append, end, quot, then, word}
use Rattle.fac_lang.specs.PhraseView.{choices_from}
use Rattle.fac_items.proofs.PhraseLemmas.{two_choices, so_if_ok}
use Rattle.fac_items.proofs.choices.choice.Goals as goal

pub returns : goal.returns
returns c =
    let w = c.args.chooses in
    let p = c.args.place in
    let inner = c.args.inner in
    let around = c.phrase_of.result in
    let one : c.push.new.self.items ≡ inner ∷ [] = c.in_ok-push.ensures.items ∙ ap (λ (ts : List Phrase). ts ++ inner ∷ []) c.in_ok-phrases.ensures.items in
    let both : c.push-2.new.self.items ≡ inner ∷ around ∷ [] = c.in_ok-push-2.ensures.items ∙ ap (λ (ts : List Phrase). ts ++ around ∷ []) one in
    let same = ap quot (ap (λ (ts : List Phrase). choices_from w p (reverse ts)) both ∙ two_choices w p inner around ∙ ap (λ (t : Phrase). append t (then (quot inner) p (then (word w) p end))) c.phrase_of.ensures) in
    so_if_ok _ _ c.choices_of.result (λ what is. is ∙ same) c.choices_of.ensures
