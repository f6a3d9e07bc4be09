use Rattle.std.proofs.Common.{◌++◌, List, ℕ, ap, ◌∙◌}
use Rattle.std.specs.Prelude.{codes}
use Rattle.fac_explain.specs.Pictures.{told}
use Rattle.fac_explain.proofs.TextLemmas.{then_more}
use Rattle.fac_explain.proofs.sentences.push_ambiguous.Goals as goal

pub returns : goal.returns
returns c =
    let r = c.say-3.result in
    let last = c.say-3.new.out in
    let one : List ℕ = told c.args.first.now.vocab in
    let two : List ℕ = told c.args.second.now.vocab in
    let five : List ℕ = codes ", and both vocabularies are used. FROM: chooses one." in
    let four : List ℕ = two ++ five in
    let three : List ℕ = codes " and one of " ++ four in
    let rest : List ℕ = one ++ three in
    let all : List ℕ = codes " is a word of " ++ rest in
    then_more r c.args.out.now c.args.name.now c.extend.new.self all last c.in_ok-extend.ensures.ok
    (then_more r c.extend.new.self (codes " is a word of ") c.say.new.out rest last c.in_ok-say.ensures
    (then_more r c.say.new.out one c.push_told.new.out three last (c.in_ok-push_told.ensures ∙ ap (λ (name : List ℕ). c.say.new.out ++ told name) c.as_bytes.ensures)
    (then_more r c.push_told.new.out (codes " and one of ") c.say-2.new.out four last c.in_ok-say-2.ensures
    (then_more r c.say-2.new.out two c.push_told-2.new.out five last (c.in_ok-push_told-2.ensures ∙ ap (λ (name : List ℕ). c.say-2.new.out ++ told name) c.as_bytes-2.ensures) c.say-3.ensures))))
