use Rattle.std.proofs.Common.{rules, ap, sym, ◌∙◌, ◌++◌, List, ℕ}
use Rattle.std.specs.Prelude.{codes}
use Rattle.fac_vocab.specs.inner.Roots.{root}
use Rattle.fac_vocab.proofs.RootLemmas.{root_companion, root_bare}
use Rattle.fac_vocab.proofs.named_vocabs.root_of.Goals as goal

pub loop-stem-preserved : goal.loop-stem-preserved
loop-stem-preserved c = (
  c.loop-stem.invariant.0
      ∙ ap root (c.in-Some.ensures.cases.1.1 ∙ ap (λ (xs : List ℕ). xs ++ codes ".private") (sym c.in-Some.ensures.cases.2))
      ∙ root_companion c.in-Some.stem.now,
  search rules,
)

pub returns : goal.returns
returns c = sym (c.loop-stem.invariant.0 ∙ root_bare c.loop-stem.rest.now c.in_default.ensures.cases)
