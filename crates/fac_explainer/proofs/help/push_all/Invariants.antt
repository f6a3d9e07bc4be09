use Rattle.fac_explainer.proofs.HelpLemmas.{SoFar}
use Rattle.fac_explainer.proofs.help.push_all.Given as goal

abbrev pub invariant-loop-pair : goal.invariant-loop-pair
invariant-loop-pair l = SoFar (λ pair. pair.1) l.given l.pair-index l.initial.names l.names
