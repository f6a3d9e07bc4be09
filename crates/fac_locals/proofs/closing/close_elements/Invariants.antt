use Rattle.std.proofs.Common.{◌≡◌, [], ◌++◌, length}
use Rattle.std.specs.Vec.Iter.{into_iter_items, into_iter_len}
use Rattle.fac_locals.specs.inner.Numbering.{closed_elements, plain_phrase, Passing}
use Rattle.fac_locals.proofs.closing.close_elements.Given as goal

abbrev pub invariant-loop-element : goal.invariant-loop-element
invariant-loop-element l = record {
  elements_are : closed_elements l.counts l.initial.closing.next (into_iter_items l.initial.element-iterator) ≡ l.closed ++ closed_elements l.counts l.closing.next (into_iter_items l.element-iterator);
  passing : Passing l.counts l.start.method [] l.initial.closing (plain_phrase l.start.place (into_iter_items l.initial.element-iterator)) [] l.closing (plain_phrase l.start.place (into_iter_items l.element-iterator));
  count : into_iter_len l.element-iterator ≡ length (into_iter_items l.element-iterator);
}
