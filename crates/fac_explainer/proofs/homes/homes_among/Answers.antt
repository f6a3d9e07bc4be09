use Rattle.fac_explainer.proofs.HomeLemmas.{one_more_home, all_homes}
use Rattle.fac_explainer.proofs.homes.homes_among.Goals as goal

pub loop-vocab-preserved : goal.loop-vocab-preserved
loop-vocab-preserved g c =
    one_more_home (λ vocab. vocab.now) c.args.name.now c.args.vocabs.now c.loop-vocab.vocab-index _ c.loop-vocab.homes c.add_home.new.homes c.loop-vocab-test.true c.loop-vocab.invariant c.in_ok-add_home.ensures

pub returns : goal.returns
returns g c = all_homes (λ vocab. vocab.now) c.args.name.now c.args.vocabs.now c.loop-vocab.vocab-index c.loop-vocab.homes c.loop-vocab-test.false c.loop-vocab.invariant
