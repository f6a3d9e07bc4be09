use Rattle.std.proofs.Common.{◌++◌, List, ℕ, ap, ◌∙◌}
use Rattle.std.specs.Prelude.{codes, decimal}
use Rattle.fac_explain.specs.Sentences.{around}
use Rattle.fac_explain.proofs.TextLemmas.{then_more}
use Rattle.fac_explain.proofs.sentences.push_input.Goals as goal

pub returns : goal.returns
returns c =
    let r = c.say.result in
    let last = c.say.new.out in
    let front : List ℕ = around (codes "Where ") c.args.token.now (codes " runs itself it has to hand on its input ") in
    let input : List ℕ = decimal c.args.input in
    let end : List ℕ = codes " as it came. Here it hands on another value." in
    then_more r c.args.out.now front c.push_around.new.out (input ++ end) last c.in_ok-push_around.ensures (then_more r c.push_around.new.out input c.push_number.new.out end last (c.in_ok-push_number.ensures ∙ ap (λ (n : ℕ). c.push_around.new.out ++ decimal n) c.from.ensures) c.say.ensures)
