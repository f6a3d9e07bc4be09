use Rattle.std.proofs.Common.{◌++◌, ◌∙◌, List, ℕ, ap, sym}
use Rattle.fac_vocab.proofs.TextLemmas.{companion_is, companion_not}
use Rattle.fac_vocab.proofs.search.is_companion.Goals as goal

pub returns-in-Some : goal.returns-in-Some
returns-in-Some c = c.eq.ensures ∙ companion_is c.args.text.now c.args.vocab.now c.in-Some.rest.now (c.in-Some.ensures.cases.1.1 ∙ ap (λ (xs : List ℕ). c.args.vocab.now ++ xs) (sym c.in-Some.ensures.cases.2))

pub returns-in-None : goal.returns-in-None
returns-in-None c = sym (companion_not c.args.text.now c.args.vocab.now c.in-None.ensures.cases)
