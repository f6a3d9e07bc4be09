use Rattle.std.proofs.Common.{◌-◌, ◌≡◌, suc, ◌∙◌, arith}
use Rattle.fac_locals.specs.inner.Numbering.{stage_of}
use Rattle.fac_locals.proofs.ArraySteps.{closed_step, as_many_arrays, as_many_starts}
use Rattle.fac_locals.proofs.closing.close_arrays.Goals as goal

pub loop-left-preserved : goal.loop-left-preserved
loop-left-preserved c =
    let at = c.loop-left in
    let counts = c.args.counts.now in
    let a = at.left - 1 in
    let before = stage_of at.arrays.items at.closing in
    let behind = stage_of c.close_array.new.arrays.items c.close_array.new.closing in
    let closes = c.in_ok-close_array.ensures in
    let is_last : at.left ≡ suc a = omega (arith, c.loop-left-test.true) in
    let arrays = as_many_arrays counts a before behind closes in
    let starts = as_many_starts counts a before behind closes in
    record {
      onward = at.invariant.onward ∙ closed_step counts at.left a before behind is_last closes;
      within = omega (arith, at.invariant.within, arrays);
      as_many = omega (arith, at.invariant.as_many, arrays, starts);
    }
