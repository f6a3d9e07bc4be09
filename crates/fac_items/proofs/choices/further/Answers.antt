use Rattle.std.proofs.Common.{◌≡◌, ◌<◌, ◌++◌, ℕ, List, length, reverse, ap, ◌∙◌, arith}
use Rattle.fac_base.specs.declared.place.Place.{Place}
use Rattle.fac_lang.specs.Phrases.{Phrase, append, end, quot, then, word}
use Rattle.fac_lang.specs.PhraseView.{choices_from, choices_phrase, items_phrase}
use Rattle.fac_items.proofs.PhraseLemmas.{more_choices, so_if_ok}
use Rattle.fac_items.proofs.choices.further.Goals as goal

pub returns-then-len-gt0 : goal.returns-then-len-gt0
returns-then-len-gt0 c =
    let w = c.args.choices.word in
    let p = c.args.choices.place in
    let ts = c.args.choices.phrases.items in
    let inner = choices_phrase c.args.choices in
    let some : 0 < length ts = omega (arith, c.len.ensures, c.if-len-gt0.true) in
    let joined : choices_from w p (reverse c.push.new.self.items) ≡ append (items_phrase c.args.items.items) (then (quot inner) p (then (word w) p end)) =
    ap (λ (us : List Phrase). choices_from w p (reverse us)) c.in_ok-push.ensures.items
    ∙ more_choices w p ts c.phrase_of.result some
    ∙ ap (λ (t : Phrase). append t (then (quot inner) p (then (word w) p end))) c.phrase_of.ensures in
    let at : then (quot inner) p (then (word w) p end) ≡ then (quot inner) c.args.place (then (word w) c.args.place end) = ap (λ (q : Place). then (quot inner) q (then (word w) q end)) c.if-is_same.ensures in
    let chosen : then (quot inner) c.args.place (then (word w) c.args.place end) ≡ then (quot inner) c.args.place (then (word c.args.chooses) c.args.place end) = ap (λ (v : ℕ). then (quot inner) c.args.place (then (word v) c.args.place end)) c.if-word-chooses.true in
    so_if_ok _ _ c.choices_of.result (λ what is. is ∙ ap quot (joined ∙ ap (append (items_phrase c.args.items.items)) (at ∙ chosen))) c.choices_of.ensures
