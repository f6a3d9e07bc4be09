use Rattle.fac_abs.specs.RowVariables.{named_row}
use Rattle.fac_rows.proofs.BindingLemmas.{bound_tied}
use Rattle.fac_rows.proofs.binding.Binding.tie_row.Goals as goal

pub tie_bound-requires-clause-bound : goal.tie_bound-requires-clause-bound
tie_bound-requires-clause-bound c = (c.in-Some.ensures c.args.marks.now c.requires.there).0

pub returns-in-Some-clause-ties : goal.returns-in-Some-clause-ties
returns-in-Some-clause-ties c =
    bound_tied c.args.marks.now c.args.input c.args.outs (named_row c.args.name.now) c.in-Some.bound c.args.left c.args.self.now c.tie_bound.result c.tie_bound.ensures c.requires.there (c.in-Some.ensures c.args.marks.now c.requires.there).1
