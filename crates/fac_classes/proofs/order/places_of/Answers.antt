use Rattle.std.proofs.Common.{◌<◌, ℕ, List, length, get_or, sym, ap, subst, arith}
use Rattle.fac_classes.specs.inner.Ordering.{HasPlaces, IsOnce}
use Rattle.fac_classes.proofs.OrderLemmas.{numbers_length, numbers_low, numbers_once, all_places}
use Rattle.fac_classes.proofs.order.places_of.Goals as goal

pub put_places-requires-clause-once : goal.put_places-requires-clause-once
put_places-requires-clause-once c = subst (λ (xs : List ℕ). IsOnce xs) (sym c.as_slice.ensures.value) (numbers_once c.args.classes.now c.in_ok-numbers.numbers.items c.in_ok-numbers.ensures)

pub put_places-requires-clause-low : goal.put_places-requires-clause-low
put_places-requires-clause-low c =
    subst (λ (xs : List ℕ). (i : ℕ) → i < length xs → get_or xs i 0 < length c.in_ok-places.places.items) (sym c.as_slice.ensures.value)
    (λ i lt. let low = numbers_low c.args.classes.now c.in_ok-numbers.numbers.items c.in_ok-numbers.ensures i lt in omega (arith, low, c.in_ok-places.ensures.len))

pub put_places-requires-clause-count : goal.put_places-requires-clause-count
put_places-requires-clause-count c =
    let n = numbers_length c.args.classes.now c.in_ok-numbers.numbers.items c.in_ok-numbers.ensures in
    let e = ap length c.as_slice.ensures.value in
    omega (arith, n, e)

pub returns : goal.returns
returns c =
    all_places c.args.classes.now c.in_ok-numbers.numbers.items c.put_places.new.places.items c.in_ok-numbers.ensures (omega (arith, c.put_places.ensures.sized, c.in_ok-places.ensures.len))
    (subst (λ (xs : List ℕ). HasPlaces (length xs) xs c.put_places.new.places.items) c.as_slice.ensures.value c.put_places.ensures.places)
