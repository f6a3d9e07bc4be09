use Rattle.std.proofs.Common.{◌≡◌, take}
use Rattle.fac_expand.proofs.copying.copied_kinds.Given as goal

abbrev pub invariant-loop-kind : goal.invariant-loop-kind
invariant-loop-kind l = l.copy ≡ take l.kind-index l.kind-items
