use Rattle.std.proofs.Common.{sym, ◌∙◌}
use Rattle.fac_base.specs.Numbers.{digits_in}
use Rattle.fac_num.specs.inner.NumberSteps.{capped_some}
use Rattle.fac_num.proofs.IntegerForms.{digits_step, digits_end}
use Rattle.fac_num.proofs.read.digits.Goals as goal

pub loop-c-preserved : goal.loop-c-preserved
loop-c-preserved c = record {
  so_far = digits_step c.args.base c.loop-c.value c.in_ok-digit.digit c.with_digit-value.result c.loop-c.c-index 0 c.args.text.now (capped_some (digits_in c.args.base c.args.text.now)) c.loop-c.invariant.so_far c.loop-c-test.true (sym c.digit_in.ensures ∙ c.in_ok-digit.was) c.with_digit-value.ensures;
  small = c.with_digit-value.type_inv;
}

pub returns : goal.returns
returns c =
    digits_end c.args.base c.loop-c.value c.loop-c.c-index c.args.text.now (capped_some (digits_in c.args.base c.args.text.now)) c.loop-c.invariant.so_far c.loop-c-test.false c.loop-c.invariant.small
