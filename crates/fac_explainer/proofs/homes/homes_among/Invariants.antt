use Rattle.fac_explainer.proofs.HomeLemmas.{SoFar}
use Rattle.fac_explainer.proofs.homes.homes_among.Given as goal

abbrev pub invariant-loop-vocab : goal.invariant-loop-vocab
invariant-loop-vocab g l = SoFar (λ vocab. vocab.now) l.name l.vocabs l.vocab-index l.homes
