use Rattle.std.proofs.Common.{◌≡◌, ◌<◌, ◌^◌, drop}
use Rattle.fac_base.specs.Numbers.{digits_in, digits_from}
use Rattle.fac_num.specs.inner.NumberSteps.{capped_some}
use Rattle.fac_num.proofs.read.digits.Given as goal

abbrev pub invariant-loop-c : goal.invariant-loop-c
invariant-loop-c l = record {
  so_far : capped_some (digits_in l.base l.text) ≡ capped_some (digits_from l.base l.value (drop l.c-index l.text));
  small : l.value < 2 ^ 128;
}
