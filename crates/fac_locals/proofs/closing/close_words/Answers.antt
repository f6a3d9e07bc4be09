use Rattle.std.proofs.Common.{◌≡◌, ℕ, suc, ◌++◌, ◌∷◌, [], length, ap, ◌∙◌, subst, length-append, arith}
use Rattle.fac_locals.specs.inner.Numbering.{closed_word, closed_words, method_of, phrase_of, PhrasePassed, WordsPassing}
use Rattle.fac_locals.proofs.TemplateNumbers.{step_words, pass_word}
use Rattle.fac_locals.proofs.closing.close_words.Goals as goal

pub loop-word-preserved : goal.loop-word-preserved
loop-word-preserved c =
    let at = c.loop-word in
    let next = c.in-Some.ensures in
    let closes = c.in_ok-close_word.ensures in
    let counts = c.args.counts.now in
    let words = c.new-rest.result in
    let left = c.take.new.self in
    let before = at.closing in
    let behind = c.close_word.new.closing in
    let w = length at.closed in
    let d = c.in-Some.word in
    let number : c.len-number.result ≡ w = c.len-number.ensures in
    let is : _ ≡ closed_word counts w before.next d = closes.0 ∙ ap (λ (n : ℕ). closed_word counts n before.next d) number in
    let passed : PhrasePassed counts (method_of w d.sort) [] before (phrase_of d.sort) behind = subst (λ (n : ℕ). PhrasePassed counts (method_of n d.sort) [] before (phrase_of d.sort) behind) number closes.1 in
    let whole = closed_words counts 0 c.args.closing.now.next words in
    let pushed = c.in_ok-push.ensures.ok in
    let longer : suc w ≡ length c.push.new.self = omega (arith, ap length pushed, length-append at.closed (c.in_ok-close_word.field-0 ∷ [])) in
    record {
      words_are = subst (λ (n : ℕ). whole ≡ c.push.new.self ++ closed_words counts n behind.next left) longer (step_words counts whole at.closed c.push.new.self at.rest left w before behind d _ at.invariant.words_are next is passed pushed);
      passing = subst (λ (n : ℕ). WordsPassing counts c.args.closing.now words n behind left) longer (pass_word counts c.args.closing.now words w before at.rest behind d left at.invariant.passing next passed);
    }
