use Rattle.std.proofs.Common.{length, ap, arith}
use Rattle.std.specs.Vec.Iter.{into_iter_items}
use Rattle.fac_locals.specs.inner.Numbering.{plain_phrase}
use Rattle.fac_locals.proofs.TemplateNumbers.{step_elements, pass_element}
use Rattle.fac_locals.proofs.closing.close_elements.Goals as goal

pub loop-element-preserved : goal.loop-element-preserved
loop-element-preserved c =
    let at = c.loop-element in
    let next = c.in-Some.ensures.steps in
    let closes = c.in_ok-element.ensures in
    let counts = c.args.counts.now in
    let place = c.args.start.place in
    let m = c.args.start.method in
    let rest = into_iter_items at.element-iterator in
    let left = into_iter_items c.next.new.self in
    let behind = c.close_element.new.closing in
    record {
      elements_are = step_elements counts m _ at.closed _ rest left at.closing behind place c.in-Some.element _ at.invariant.elements_are next.0 closes.0 closes.1 c.in_ok-push.ensures.ok;
      passing = pass_element counts m c.args.closing.now (plain_phrase place (into_iter_items c.into_iter-element-iterator.result)) at.closing (plain_phrase place rest) behind c.in-Some.element place (plain_phrase place left) at.invariant.passing (ap (plain_phrase place) next.0) closes.1;
      count = omega (arith, ap length next.0, at.invariant.count, next.1);
    }
