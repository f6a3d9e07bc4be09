use Rattle.fac_expand.specs.inner.Pieces.{HasNone}
use Rattle.fac_expand.proofs.making.no_places.Given as goal

abbrev pub invariant-loop : goal.invariant-loop
invariant-loop l = HasNone l.places
