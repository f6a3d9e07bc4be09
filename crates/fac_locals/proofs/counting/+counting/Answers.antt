use Rattle.std.proofs.Common.{◌∙◌, sym, reverse, arith}
use Rattle.fac_lang.specs.Meaning.{nowhere}
use Rattle.fac_locals.proofs.ChoiceTemplates.{outer_first, inside_one, choices_one, outer_depth, choices_are}
use Rattle.fac_locals.proofs.counting.+counting.Goals as goal

pub behind_inside-behind_phrase-requires : goal.behind_inside-behind_phrase-requires
behind_inside-behind_phrase-requires t c =
    let at = c.loop-phrase in
    let inner = c.in-Some.inner.now in
    let phrase = c.in-Some.phrase.now in
    omega (arith, c.decreases, at.invariant.deep, (outer_depth 0 nowhere (reverse at.rest.now) phrase (reverse inner) (outer_first at.rest.now inner phrase c.in-Some.ensures.cases.0)).0)

pub behind_inside-loop-phrase-preserved : goal.behind_inside-loop-phrase-preserved
behind_inside-loop-phrase-preserved t c =
    let at = c.loop-phrase in
    let inner = c.in-Some.inner.now in
    let phrase = c.in-Some.phrase.now in
    let next = c.in-Some.ensures.cases.0 in
    record {
      behind_is = λ w p. at.invariant.behind_is w p ∙ inside_one c.args.counts.now w p at.behind _ _ at.rest.now inner phrase next c.in_ok-one_more.ensures c.in_ok-behind.ensures;
      deep = omega (arith, at.invariant.deep, (outer_depth 0 nowhere (reverse at.rest.now) phrase (reverse inner) (outer_first at.rest.now inner phrase next)).1);
    }

pub behind_choices-behind_phrase-requires : goal.behind_choices-behind_phrase-requires
behind_choices-behind_phrase-requires t c =
    let choices = c.args.choices.now in
    let inner = c.in-Some.inner.now in
    let phrase = c.in-Some.outermost.now in
    omega (arith, c.decreases, (choices_are choices inner phrase (sym c.deref.ensures.value ∙ c.in-Some.ensures.cases.0)).0)

pub behind_choices-behind_inside-requires : goal.behind_choices-behind_inside-requires
behind_choices-behind_inside-requires t c =
    let choices = c.args.choices.now in
    let inner = c.in-Some.inner.now in
    let phrase = c.in-Some.outermost.now in
    omega (arith, c.decreases, (choices_are choices inner phrase (sym c.deref.ensures.value ∙ c.in-Some.ensures.cases.0)).1)

pub behind_choices-returns-in_ok-last-in-Some : goal.behind_choices-returns-in_ok-last-in-Some
behind_choices-returns-in_ok-last-in-Some t c = choices_one c.args.counts.now c.args.choices.now c.args.number c.in_ok-behind-in-Some.behind c.in_ok-last-in-Some.last c.in-Some.inner.now c.in-Some.outermost.now (sym c.deref.ensures.value ∙ c.in-Some.ensures.cases.0) c.in_ok-behind-in-Some.ensures c.in_ok-last-in-Some.ensures
