use Rattle.std.proofs.Common.{sym, ◌∙◌, ap, arith, true, false, drop, ◌+◌}
use Rattle.fac_base.specs.Numbers.{decimal_in}
use Rattle.fac_num.specs.inner.NumberSteps.{capped_some}
use Rattle.fac_num.proofs.IntegerForms.{decimal_grouped, groups_digit, groups_comma, groups_at}
use Rattle.fac_num.proofs.read.decimal.Goals as goal
use Rattle.fac_num.proofs.read.decimal.Goals.{in-Some, in_default+then-c-eq44+then-after_digit}

pub loop-c-init : goal.loop-c-init
loop-c-init c = record { so_far = ap capped_some (decimal_grouped c.args.text.now); small = omega arith }

pub loop-c-preserved : goal.loop-c-preserved
loop-c-preserved c = elim c.match-digit_in.branch [
  | in-Some w ↦ record {
    so_far = groups_at w.with_digit-value.result c.match-digit_in.value true c.match-digit_in.after_digit (drop (c.loop-c.c-index + 1) c.args.text.now) (capped_some (decimal_in c.args.text.now)) w.value-is w.after_digit-is
        (groups_digit c.loop-c.value w.in-Some.digit w.with_digit-value.result c.loop-c.c-index 0 c.loop-c.after_digit c.args.text.now (capped_some (decimal_in c.args.text.now)) c.loop-c.invariant.so_far c.loop-c-test.true (sym c.digit_in.ensures ∙ w.in-Some.is) w.with_digit-value.ensures);
    small = omega (arith, w.value-is, w.with_digit-value.type_inv);
  }
  | in_default+then-c-eq44+then-after_digit w ↦ record {
    so_far = groups_at c.loop-c.value c.match-digit_in.value false c.match-digit_in.after_digit (drop (c.loop-c.c-index + 1) c.args.text.now) (capped_some (decimal_in c.args.text.now)) w.value-is w.after_digit-is
        (groups_comma c.loop-c.value c.loop-c.c-index 0 c.loop-c.after_digit c.args.text.now (capped_some (decimal_in c.args.text.now)) c.loop-c.invariant.so_far c.loop-c-test.true w.if-c-eq44.true w.if-after_digit.true);
    small = omega (arith, w.value-is, c.loop-c.invariant.small);
  }
]
