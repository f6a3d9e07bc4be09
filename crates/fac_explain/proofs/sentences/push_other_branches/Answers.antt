use Rattle.std.proofs.Common.{◌++◌, List, ℕ}
use Rattle.std.specs.Prelude.{codes}
use Rattle.fac_explain.specs.Sentences.{around, values}
use Rattle.fac_explain.proofs.TextLemmas.{then_more}
use Rattle.fac_explain.proofs.sentences.push_other_branches.Goals as goal

pub returns : goal.returns
returns c =
    let r = c.say-2.result in
    let last = c.say-2.new.out in
    let front : List ℕ = around (codes "The two ways of ") c.args.token.now (codes " leave different stacks: one of ") in
    let one : List ℕ = values c.args.first in
    let two : List ℕ = values c.args.second in
    let end : List ℕ = two ++ codes "." in
    let middle : List ℕ = codes " and one of " ++ end in
    then_more r c.args.out.now front c.push_around.new.out (one ++ middle) last c.in_ok-push_around.ensures
    (then_more r c.push_around.new.out one c.push_values.new.out middle last c.in_ok-push_values.ensures
    (then_more r c.push_values.new.out (codes " and one of ") c.say.new.out end last c.in_ok-say.ensures
    (then_more r c.say.new.out two c.push_values-2.new.out (codes ".") last c.in_ok-push_values-2.ensures c.say-2.ensures)))
