use Rattle.std.proofs.Common.{◌≡◌, length}
use Rattle.fac_classes.specs.inner.Ordering.{HasPlaces}
use Rattle.fac_classes.proofs.order.put_places.Given as goal

abbrev pub invariant-loop-number : goal.invariant-loop-number
invariant-loop-number l = record {
  counted : l.place ≡ l.number-index;
  places : HasPlaces l.number-index l.numbers l.places.items;
  sized : length l.places.items ≡ length l.initial.places.items;
}
