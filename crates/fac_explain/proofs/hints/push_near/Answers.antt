use Rattle.std.proofs.Common.{◌++◌, List, ℕ}
use Rattle.std.specs.Prelude.{codes}
use Rattle.fac_explain.specs.Pictures.{told}
use Rattle.fac_explain.proofs.TextLemmas.{then_more}
use Rattle.fac_explain.proofs.hints.push_near.Goals as goal

pub returns : goal.returns
returns c =
    let r = c.say-2.result in
    let last = c.say-2.new.out in
    let near : List ℕ = told c.args.near.now in
    then_more r c.args.out.now (codes "\nThe nearest name is ") c.say.new.out (near ++ codes ".") last c.in_ok-say.ensures (then_more r c.say.new.out near c.push_told.new.out (codes ".") last c.in_ok-push_told.ensures c.say-2.ensures)
