use Rattle.std.proofs.Common.{arith}
use Rattle.fac_graph.proofs.ClimbLemmas.{all_met}
use Rattle.fac_graph.proofs.slots.count_all.Goals as goal

pub returns : goal.returns
returns c = all_met c.args.classes.now c.loop-class.counting c.loop-class.class c.loop-class.invariant.idle c.loop-class.invariant.met (omega (arith, c.loop-class-test.false, c.len-class-end.ensures))
