use Rattle.std.proofs.Common.{◌≡◌}
use Rattle.fac_classes.specs.ClassKinds.{kinds_below}
use Rattle.fac_classes.proofs.classes.Classes.kinds.Given as goal

abbrev pub invariant-loop-kind : goal.invariant-loop-kind
invariant-loop-kind l = l.kinds ≡ kinds_below l.self l.class l.kind
