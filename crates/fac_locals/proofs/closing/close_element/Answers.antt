use Rattle.std.proofs.Common.{[], refl, sym, ap, subst}
use Rattle.fac_lang.specs.declared.program.Lit.{Lit}
use Rattle.fac_locals.specs.inner.Numbering.{ItemPassed, closed_element, plain_item}
use Rattle.fac_locals.proofs.TemplateNumbers.{quotation_element}
use Rattle.fac_locals.proofs.closing.close_element.Goals as goal

pub returns-in_ok-body-in-Quot : goal.returns-in_ok-body-in-Quot
returns-in_ok-body-in-Quot c =
    let number = c.in_ok-number-in-Quot.number in
    let inside = c.close_whole.new.closing in
    let body = c.in_ok-body-in-Quot.body in
    quotation_element c.args.around.counts.now c.args.around.method c.args.closing.now c.take_number.new.closing inside (record { next = inside.next; templates = c.put.new.list; starts = inside.starts; asked = inside.asked }) c.args.place c.args.element c.in-Quot.inner body number c.new.result c.in-Quot.is c.in_ok-number-in-Quot.ensures c.in_ok-body-in-Quot.ensures c.new.ensures refl c.put.ensures refl

pub returns-in_ok-pass_array-in-Arr : goal.returns-in_ok-pass_array-in-Arr
returns-in_ok-pass_array-in-Arr c =
    let counts = c.args.around.counts.now in
    let before = c.args.closing.now in
    (sym (ap (closed_element counts before.next) c.in-Arr.is), subst (λ (l : Lit). ItemPassed counts c.args.around.method [] before c.args.place (plain_item l) c.pass_array.new.closing) (sym c.in-Arr.is) (c.in_ok-pass_array-in-Arr.ensures.passed []))
