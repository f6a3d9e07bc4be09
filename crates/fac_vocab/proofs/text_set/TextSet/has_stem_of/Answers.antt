use Rattle.std.proofs.Common.{◌++◌, List, ℕ, ap, sym, ◌∙◌, rules}
use Rattle.std.specs.Prelude.{codes}
use Rattle.fac_vocab.proofs.TextLemmas.{named_exists, companion_exists, not_exists}
use Rattle.fac_vocab.proofs.text_set.TextSet.has_stem_of.Goals as goal

pub returns-then-contains : goal.returns-then-contains
returns-then-contains c = sym (c.loop-rest.invariant.0 ∙ named_exists c.args.self.now c.loop-rest.rest.now (sym c.if-contains.ensures))

pub loop-rest-preserved : goal.loop-rest-preserved
loop-rest-preserved c = (
  c.loop-rest.invariant.0
      ∙ companion_exists c.args.self.now c.in-Some.stem.now c.loop-rest.rest.now (c.in-Some.ensures.cases.1.1 ∙ ap (λ (xs : List ℕ). xs ++ codes ".private") (sym c.in-Some.ensures.cases.2)) (sym c.if-contains.ensures),
  search rules,
)

pub returns-in-None : goal.returns-in-None
returns-in-None c = sym (c.loop-rest.invariant.0 ∙ not_exists c.args.self.now c.loop-rest.rest.now c.in-None.ensures.cases (sym c.if-contains.ensures))
