use Rattle.std.proofs.Common.{◌++◌, List, ℕ}
use Rattle.std.specs.Prelude.{codes}
use Rattle.fac_explain.specs.Sentences.{around, values}
use Rattle.fac_explain.proofs.TextLemmas.{then_more}
use Rattle.fac_explain.proofs.sentences.push_own_rows.Goals as goal

pub returns : goal.returns
returns c =
    let r = c.say.result in
    let last = c.say.new.out in
    let front : List ℕ = around (codes "Where ") c.args.token.now (codes " runs itself nothing may stand between its inputs and the row. Here stands ") in
    let found : List ℕ = values c.args.found in
    then_more r c.args.out.now front c.push_around.new.out (found ++ codes ".") last c.in_ok-push_around.ensures (then_more r c.push_around.new.out found c.push_values.new.out (codes ".") last c.in_ok-push_values.ensures c.say.ensures)
