use Rattle.std.proofs.Common.{◌+◌, reverse, take, sym, ap, ◌∙◌, arith}
use denote.Param.Weighed.{at_most}
use Rattle.fac_lang.specs.Phrases.{Phrase, phrase_depth}
use Rattle.fac_locals.proofs.AskLemmas.{one_behind, last_in_depth, asks_alone, one_chosen, next_chosen, all_chosen_inside, inner_depth, outermost_depth}
use Rattle.fac_locals.proofs.asking.+asking.Goals as goal

pub ask_before-ask_item-requires : goal.ask_before-ask_item-requires
ask_before-ask_item-requires t c =
    let deep = last_in_depth c.args.phrase.now c.loop-item.rest.now c.in-Some.earlier.now c.in-Some.item.now c.args.asked.now c.loop-item.asked c.args.all.now c.loop-item.all c.in-Some.ensures.cases.0 c.loop-item.invariant in
    omega (arith, c.decreases)

pub ask_before-loop-item-preserved : goal.ask_before-loop-item-preserved
ask_before-loop-item-preserved t c =
    one_behind
    c.args.phrase.now
    c.loop-item.rest.now
    c.in-Some.earlier.now
    c.in-Some.item.now
    c.args.asked.now
    c.loop-item.asked
    c.ask_item.new.asked
    c.args.all.now
    c.loop-item.all
    c.ask_item.new.all
    c.in-Some.ensures.cases.0
    c.in_ok-ask_item.ensures.cells
    c.in_ok-ask_item.ensures.inside
    c.loop-item.invariant

pub ask_phrase-returns-clause-cells : goal.ask_phrase-returns-clause-cells
ask_phrase-returns-clause-cells t c = asks_alone c.args.phrase.now c.nothing-asked.result c.ask_before.new.asked c.nothing-asked.ensures c.in_ok-ask_before.ensures.cells

pub ask_inside-ask_before-requires : goal.ask_inside-ask_before-requires
ask_inside-ask_before-requires t c =
    let deep = at_most (λ (u : Phrase). phrase_depth u + 1) c.args.phrases.now c.loop-phrase.phrase-index c.phrase-item.result c.loop-phrase-test.true in
    omega (arith, deep, ap phrase_depth c.phrase-item.is, c.decreases)

pub ask_inside-loop-phrase-preserved : goal.ask_inside-loop-phrase-preserved
ask_inside-loop-phrase-preserved t c =
    let at = c.loop-phrase in
    let ts = c.args.phrases.now in
    let next = next_chosen ts at.phrase-index c.phrase-item.result c.loop-phrase-test.true c.phrase-item.is in
    one_chosen (reverse (take at.phrase-index ts)) (reverse (take (at.phrase-index + 1) ts)) c.phrase-item.result at.asked c.ask_before.new.asked c.ask_choice.new.asked c.args.all.now at.all c.ask_before.new.all c.ask_choice.new.all next c.in_ok-ask_before.ensures.cells c.in_ok-ask_before.ensures.inside c.in_ok-ask_choice.ensures.cells c.in_ok-ask_choice.ensures.noted at.invariant

pub ask_choices-ask_inside-requires : goal.ask_choices-ask_inside-requires
ask_choices-ask_inside-requires t c =
    let whole = sym c.deref.ensures.value ∙ c.in-Some.ensures.cases.0 in
    (omega (arith, inner_depth c.args.choices.now c.in-Some.inner.now c.in-Some.outermost.now whole, c.decreases), c.nothing-asked.ensures)

pub ask_choices-ask_before-requires : goal.ask_choices-ask_before-requires
ask_choices-ask_before-requires t c =
    let whole = sym c.deref.ensures.value ∙ c.in-Some.ensures.cases.0 in
    omega (arith, outermost_depth c.args.choices.now c.in-Some.inner.now c.in-Some.outermost.now whole, c.decreases)

pub ask_choices-returns-in_ok-ask_before-in-Some-clause-inside : goal.ask_choices-returns-in_ok-ask_before-in-Some-clause-inside
ask_choices-returns-in_ok-ask_before-in-Some-clause-inside t c =
    let whole = sym c.deref.ensures.value ∙ c.in-Some.ensures.cases.0 in
    all_chosen_inside c.args.choices.now c.in-Some.inner.now c.in-Some.outermost.now c.args.all.now c.ask_inside.new.all c.ask_before.new.all whole c.in_ok-ask_inside-in-Some.ensures.inside c.in_ok-ask_before-in-Some.ensures.inside
