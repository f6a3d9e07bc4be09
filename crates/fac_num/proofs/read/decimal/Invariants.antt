use Rattle.std.proofs.Common.{◌≡◌, ◌<◌, ◌^◌, drop}
use Rattle.fac_base.specs.Numbers.{decimal_in}
use Rattle.fac_num.specs.inner.NumberSteps.{capped_some, grouped_from}
use Rattle.fac_num.proofs.read.decimal.Given as goal

abbrev pub invariant-loop-c : goal.invariant-loop-c
invariant-loop-c l = record {
  so_far : capped_some (decimal_in l.text) ≡ capped_some (grouped_from l.after_digit l.value (drop l.c-index l.text));
  small : l.value < 2 ^ 128;
}
