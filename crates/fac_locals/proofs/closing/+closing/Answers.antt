use Rattle.std.proofs.Common.{rules, length, sym, ap, refl, ◌∙◌, arith}
use Rattle.std.specs.Vec.Iter.{into_iter_items}
use Rattle.std.proofs.Common.{reverse, List, ◌∷◌}
use Rattle.fac_lang.specs.Phrases.{phrase_depth}
use Rattle.fac_lang.specs.PhraseView.{choices_behind, choices_phrase, items_phrase}
use Rattle.fac_lang.specs.declared.phrase.Item.{Item as PlacedItem}
use Rattle.fac_locals.specs.declared.cell.Cell.{Cell}
use Rattle.fac_locals.specs.declared.closing.Level.{Level}
use Rattle.fac_locals.specs.inner.Numbering.{phrase_cells}
use Rattle.fac_locals.proofs.ChoiceTemplates.{outer_depth, outermost_depth, item_in_depth, level_asked, asked_in_level, level_entered, next_entered_asked, next_inside, still_asked, none_inside, outermost_asked, inside_asked, choices_closed, choices_what, choices_asked}
use Rattle.fac_locals.proofs.TemplateNumbers.{one_closed, item_asked, all_closed, none_left, quotation_what, fry_what, array_what, first_quotation, first_fry, quotation_asked, inside_quotation, quotation_closes}
use Rattle.fac_locals.proofs.closing.+closing.Goals as goal

pub close_phrase-loop-item-preserved : goal.close_phrase-loop-item-preserved
close_phrase-loop-item-preserved t c =
    let at = c.loop-item in
    let next = c.in-Some.ensures.steps in
    let whole = into_iter_items c.into_iter-item-iterator.result in
    let rest = into_iter_items at.item-iterator in
    let left = into_iter_items c.next.new.self in
    record {
      closes = λ is asked. one_closed c.args.around.counts.now c.args.around.method c.args.cells.now at.cells c.close_what.new.cells c.args.closing.now at.closing c.close_what.new.closing whole at.items.items c.push.new.self.items rest left c.in-Some.item c.in_ok-what.what is (at.invariant.closes is asked) next.0 c.in_ok-what.ensures.closed c.in_ok-what.ensures.cells c.in_ok-push.ensures.items;
      cells_are = at.invariant.cells_are ∙ ap (λ (is : List PlacedItem). phrase_cells at.cells (items_phrase is)) next.0 ∙ sym (ap (λ (cs : List Cell). phrase_cells cs (items_phrase left)) c.in_ok-what.ensures.cells);
      deep = omega (arith, at.invariant.deep, (item_in_depth rest c.in-Some.item left next.0).1);
      count = omega (arith, ap length next.0, at.invariant.count, next.1);
    }

pub close_phrase-close_what-requires : goal.close_phrase-close_what-requires
close_phrase-close_what-requires t c =
    let same = ap items_phrase c.into_iter-item-iterator.ensures.into_iter_gives.0 ∙ c.phrase.view_is in
    let next = c.in-Some.ensures.steps in
    (omega (arith, c.decreases, ap phrase_depth same, c.loop-item.invariant.deep, (item_in_depth (into_iter_items c.loop-item.item-iterator) c.in-Some.item (into_iter_items c.next.new.self) next.0).0), item_asked c.args.around.counts.now c.args.around.method c.args.phrase c.args.cells.now c.loop-item.cells c.args.closing.now c.loop-item.closing (into_iter_items c.into_iter-item-iterator.result) c.loop-item.items.items (into_iter_items c.loop-item.item-iterator) (into_iter_items c.next.new.self) c.in-Some.item same next.0 c.loop-item.invariant.closes c.requires)

pub close_phrase-returns-clause-cells : goal.close_phrase-returns-clause-cells
close_phrase-returns-clause-cells t c =
    let at = c.loop-item in
    let same = ap items_phrase c.into_iter-item-iterator.ensures.into_iter_gives.0 ∙ c.phrase.view_is in
    let over = none_left c.args.around.counts.now c.args.around.method (into_iter_items at.item-iterator) (sym at.invariant.count ∙ c.in-None.ensures.steps.0) in
    sym (sym (ap (phrase_cells c.args.cells.now) same) ∙ at.invariant.cells_are ∙ ap (λ (is : List PlacedItem). phrase_cells at.cells (items_phrase is)) over)

pub close_phrase-returns-clause-closed : goal.close_phrase-returns-clause-closed
close_phrase-returns-clause-closed t c is asked =
    let at = c.loop-item in
    let whole = into_iter_items c.into_iter-item-iterator.result in
    let same = ap items_phrase c.into_iter-item-iterator.ensures.into_iter_gives.0 ∙ c.phrase.view_is in
    all_closed c.args.around.counts.now c.args.around.method c.args.cells.now at.cells c.args.phrase whole at.items.items (into_iter_items at.item-iterator) c.args.closing.now at.closing is same (sym at.invariant.count ∙ c.in-None.ensures.steps.0) (at.invariant.closes is (rw same asked))

pub close_what-close_quotation-requires : goal.close_what-close_quotation-requires
close_what-close_quotation-requires t c = (search rules, first_quotation c.args.around.counts.now c.args.around.method c.args.what c.in-Quot.phrase c.args.closing.now.asked c.in-Quot.is c.requires)

pub close_what-close_quotation-requires-in-Fry : goal.close_what-close_quotation-requires-in-Fry
close_what-close_quotation-requires-in-Fry t c = (search rules, first_fry c.args.around.counts.now c.args.around.method c.args.what c.in-Fry.phrase c.in-Fry.holes c.args.closing.now.asked c.in-Fry.is c.requires)

pub close_what-returns-in_ok-number-in-Quot-clause-closed : goal.close_what-returns-in_ok-number-in-Quot-clause-closed
close_what-returns-in_ok-number-in-Quot-clause-closed t c =
    quotation_what c.args.around.counts.now c.args.around.method c.args.cells.now c.args.closing.now c.args.place c.args.what c.in-Quot.phrase c.in_ok-number-in-Quot.number c.close_quotation.new.closing c.in-Quot.is c.in_ok-number-in-Quot.ensures

pub close_what-returns-in_ok-number-in-Fry-clause-closed : goal.close_what-returns-in_ok-number-in-Fry-clause-closed
close_what-returns-in_ok-number-in-Fry-clause-closed t c =
    fry_what c.args.around.counts.now c.args.around.method c.args.cells.now c.args.closing.now c.args.place c.args.what c.in-Fry.phrase c.in-Fry.holes c.in_ok-number-in-Fry.number c.close_quotation-in-Fry.new.closing c.in-Fry.is c.in_ok-number-in-Fry.ensures

pub close_quotation-take_kept-requires : goal.close_quotation-take_kept-requires
close_quotation-take_kept-requires t c = quotation_asked c.args.around.counts.now c.args.around.method c.args.phrase c.args.holes c.args.closing.now c.take_number.new.closing c.in_ok-number.number c.in_ok-number.ensures c.requires

pub close_quotation-close_phrase-requires : goal.close_quotation-close_phrase-requires
close_quotation-close_phrase-requires t c = (omega (arith, c.decreases), inside_quotation c.args.around.counts.now c.args.around.method c.args.cells.now c.args.phrase c.args.holes c.args.closing.now c.take_number.new.closing c.take_kept.new.closing c.in_ok-number.number c.in_ok-captures.field-0 c.in_ok-number.ensures c.in_ok-captures.ensures c.requires)

pub close_quotation-returns : goal.close_quotation-returns
close_quotation-returns t c =
    let kept = c.in_ok-captures.field-0 in
    let inside = c.close_phrase.new.closing in
    let body = c.in_ok-body.body in
    quotation_closes c.args.around.counts.now c.args.around.method c.args.cells.now c.args.closing.now c.take_number.new.closing c.take_kept.new.closing inside (record { next = inside.next; templates = c.put.new.list; starts = inside.starts; asked = inside.asked }) c.args.place c.args.phrase body c.in_ok-number.number c.args.holes kept (record { body = body; captures = kept.captures; holes = c.args.holes; place = c.args.place }) c.in_ok-number.ensures c.in_ok-captures.ensures c.in_ok-body.ensures.closed refl refl c.put.ensures refl refl

pub close_what-returns-in_ok-pass_array-in-Arr-clause-closed : goal.close_what-returns-in_ok-pass_array-in-Arr-clause-closed
close_what-returns-in_ok-pass_array-in-Arr-clause-closed t c =
    array_what c.args.around.counts.now c.args.around.method c.args.cells.now c.args.closing.now c.args.place c.args.what c.in-Arr.array c.pass_array.new.closing c.in-Arr.is c.in_ok-pass_array-in-Arr.ensures.passed c.in_ok-pass_array-in-Arr.ensures.asked

pub close_what-returns-in_ok-close_choices-in-Choices-clause-closed : goal.close_what-returns-in_ok-close_choices-in-Choices-clause-closed
close_what-returns-in_ok-close_choices-in-Choices-clause-closed t c = choices_what c.args.around.counts.now c.args.around.method c.args.cells.now c.args.closing.now c.args.place c.args.what c.in-Choices.choices c.into_inner-choices.result c.close_choices.new.closing c.in-Choices.is c.into_inner-choices.ensures c.in_ok-close_choices-in-Choices.ensures

pub close_what-close_choices-requires : goal.close_what-close_choices-requires
close_what-close_choices-requires t c = (search rules, choices_asked c.args.around.counts.now c.args.around.method c.args.what c.in-Choices.choices c.into_inner-choices.result c.args.closing.now.asked c.in-Choices.is c.into_inner-choices.ensures c.requires)

pub enter-take_kept-requires : goal.enter-take_kept-requires
enter-take_kept-requires t c = level_asked c.args.around.counts.now c.args.around.method c.args.phrase c.args.closing.now c.take_number.new.closing c.in_ok-number.number c.in_ok-number.ensures c.requires

pub enter-close_phrase-requires : goal.enter-close_phrase-requires
enter-close_phrase-requires t c = (omega (arith, c.decreases), asked_in_level c.args.around.counts.now c.args.around.method c.args.cells.now c.args.phrase c.args.closing.now c.take_number.new.closing c.take_kept.new.closing c.in_ok-number.number c.in_ok-captures.field-0 c.in_ok-number.ensures c.in_ok-captures.ensures c.requires)

pub enter-returns : goal.enter-returns
enter-returns t c = level_entered c.args.around.counts.now c.args.around.method c.args.cells.now c.args.closing.now c.take_number.new.closing c.take_kept.new.closing c.close_phrase.new.closing c.args.place c.args.phrase c.in_ok-body.body c.in_ok-number.number c.in_ok-captures.field-0 c.close_phrase.new.cells c.in_ok-number.ensures c.in_ok-captures.ensures c.in_ok-body.ensures.closed c.in_ok-body.ensures.cells

pub enter_inside-enter-requires : goal.enter_inside-enter-requires
enter_inside-enter-requires t c =
    let at = c.loop-phrase in
    let choices = c.args.choices in
    let rest = reverse at.rest.items in
    let left = reverse c.take_outer.new.phrases.items in
    let next = c.in-Some.ensures in
    (omega (arith, c.decreases, at.invariant.deep, (outer_depth choices.word choices.place rest c.in-Some.phrase left next).0), next_entered_asked c.args.around.counts.now c.args.around.method choices.word choices.place rest left c.in-Some.phrase at.closing.asked next at.invariant.asked)

pub enter_inside-loop-phrase-preserved : goal.enter_inside-loop-phrase-preserved
enter_inside-loop-phrase-preserved t c =
    let at = c.loop-phrase in
    let counts = c.args.around.counts.now in
    let m = c.args.around.method in
    let v = c.args.choices.word in
    let q = c.args.choices.place in
    let rest = reverse at.rest.items in
    let left = reverse c.take_outer.new.phrases.items in
    let next = c.in-Some.ensures in
    let entered = c.in_ok-level in
    let behind = c.enter.new.closing in
    record {
      enters = λ w outer start p i is inside. next_inside counts m w q outer start p i at.levels c.push.new.self at.inner at.closing rest left c.in-Some.phrase entered.level entered.own behind is next entered.ensures c.in_ok-push.ensures.ok (at.invariant.enters w outer start p i is inside);
      asked = still_asked counts m v q at.inner at.closing rest left c.in-Some.phrase entered.level entered.own behind next entered.ensures at.invariant.asked;
      deep = omega (arith, at.invariant.deep, (outer_depth v q rest c.in-Some.phrase left next).1);
    }

pub enter_inside-returns : goal.enter_inside-returns
enter_inside-returns t c outer start p i is inside =
    let at = c.loop-phrase in
    none_inside c.args.around.counts.now c.args.around.method c.args.choices.word c.args.choices.place outer start p i at.levels at.inner at.closing (reverse at.rest.items) is c.in_default.ensures.0 (at.invariant.enters c.args.choices.word outer start p i is inside)

pub close_choices-enter-requires : goal.close_choices-enter-requires
close_choices-enter-requires t c =
    let first = c.take_outermost-outermost in
    let whole = choices_phrase c.args.choices in
    let rest = first.new.choices in
    let behind = choices_behind rest.word rest.place (reverse rest.phrases.items) in
    (omega (arith, c.decreases, (outermost_depth whole first.result behind first.ensures).0), outermost_asked c.args.around.counts.now c.args.around.method whole first.result behind c.args.closing.now.asked first.ensures c.requires)

pub close_choices-enter_inside-requires : goal.close_choices-enter_inside-requires
close_choices-enter_inside-requires t c =
    let first = c.take_outermost-outermost in
    let whole = choices_phrase c.args.choices in
    let rest = first.new.choices in
    let behind = choices_behind rest.word rest.place (reverse rest.phrases.items) in
    let entered = c.in_ok-level in
    (omega (arith, c.decreases, (outermost_depth whole first.result behind first.ensures).1), inside_asked c.args.around.counts.now c.args.around.method c.args.cells.now c.args.closing.now c.args.place whole first.result behind entered.level entered.inner c.enter.new.closing first.ensures entered.ensures c.requires)

pub close_choices-returns : goal.close_choices-returns
close_choices-returns t c =
    let first = c.take_outermost-outermost in
    let rest = first.new.choices in
    let entered = c.in_ok-level in
    let gone = c.enter_inside.new.closing in
    choices_closed c.args.around.counts.now c.args.around.method rest.word rest.place c.args.cells.now c.args.closing.now c.args.place (choices_phrase c.args.choices) first.result (reverse rest.phrases.items) entered.level c.push.new.self c.enter_inside.new.levels entered.inner c.enter.new.closing gone (record { next = gone.next; templates = c.leave_levels.new.templates; starts = gone.starts; asked = gone.asked }) first.ensures entered.ensures (c.in_ok-push.ensures.ok ∙ ap (λ (ls : List Level). entered.level ∷ ls) c.new-levels.ensures) c.in_ok-enter_inside.ensures c.in_ok-leave_levels.ensures refl refl refl
