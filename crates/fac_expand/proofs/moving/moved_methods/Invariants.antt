use Rattle.std.proofs.Common.{◌≡◌, ◌++◌, drop, map}
use Rattle.fac_expand.specs.inner.Pieces.{moved_method}
use Rattle.fac_expand.proofs.moving.moved_methods.Given as goal

abbrev pub invariant-loop-method : goal.invariant-loop-method
invariant-loop-method l = map (moved_method l.start l.places) l.methods ≡ l.rows ++ map (moved_method l.start l.places) (drop l.method-index l.methods)
