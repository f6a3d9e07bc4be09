use Rattle.std.proofs.Common.{ap, sym, ◌∙◌, ◌++◌, List, ℕ}
use Rattle.std.specs.Prelude.{codes}
use Rattle.fac_vocab.proofs.PublicLemmas.{ends_private, ends_otherwise}
use Rattle.fac_vocab.proofs.public_vocabs.is_private.Goals as goal

pub returns-in-Some : goal.returns-in-Some
returns-in-Some c = ends_private c.args.vocab.now c.in-Some._stem.now (c.in-Some.ensures.cases.1.1 ∙ ap (λ (xs : List ℕ). xs ++ codes ".private") (sym c.in-Some.ensures.cases.2))

pub returns-in-None : goal.returns-in-None
returns-in-None c = ends_otherwise c.args.vocab.now c.in-None.ensures.cases
