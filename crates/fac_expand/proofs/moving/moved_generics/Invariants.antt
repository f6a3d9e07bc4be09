use Rattle.std.proofs.Common.{◌≡◌, ◌++◌, drop, map}
use Rattle.fac_expand.specs.inner.Pieces.{moved_generic}
use Rattle.fac_expand.proofs.moving.moved_generics.Given as goal

abbrev pub invariant-loop-generic : goal.invariant-loop-generic
invariant-loop-generic l = map (moved_generic l.start l.places) l.generics ≡ l.rows ++ map (moved_generic l.start l.places) (drop l.generic-index l.generics)
