use Rattle.std.proofs.Common.{◌≡◌, ◌++◌, take}
use Rattle.fac_explain.specs.Pictures.{plain}
use Rattle.fac_explain.proofs.pushing.push_plain.Given as goal

abbrev pub invariant-loop-byte : goal.invariant-loop-byte
invariant-loop-byte l = l.out ≡ l.initial.out ++ plain l.instead (take l.byte-index l.text)
