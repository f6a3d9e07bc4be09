use Rattle.std.proofs.Common.{◌≡◌, take}
use Rattle.fac_expand.proofs.copying.copied_array.Given as goal

abbrev pub invariant-loop-element : goal.invariant-loop-element
invariant-loop-element l = l.copy ≡ take l.element-index l.element-items
