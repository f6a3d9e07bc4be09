use Rattle.std.proofs.Common.{arith}
use Rattle.fac_judge.proofs.KnownLemmas.{all_texts, one_step}
use Rattle.fac_judge.proofs.known_texts.known_behind.Goals as goal

pub loop-text-preserved : goal.loop-text-preserved
loop-text-preserved c =
    one_step c.args.texts.now c.loop-text.text-index c.loop-text.known c.in_ok-next.next c.text-item.result c.loop-text-test.true c.text-item.is c.loop-text.invariant c.in_ok-next.ensures

pub returns : goal.returns
returns c = all_texts c.args.texts.now c.loop-text.text-index c.loop-text.known (omega arith) c.loop-text.invariant
