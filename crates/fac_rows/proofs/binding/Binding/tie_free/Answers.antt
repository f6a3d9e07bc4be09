use Rattle.fac_abs.specs.RowVariables.{named_row}
use Rattle.fac_rows.proofs.BindingLemmas.{free_dead, free_few, free_rest}
use Rattle.fac_rows.proofs.binding.Binding.tie_free.Goals as goal

pub returns-in_ok-add-in-Dead-clause-ties : goal.returns-in_ok-add-in-Dead-clause-ties
returns-in_ok-add-in-Dead-clause-ties c =
    free_dead c.args.marks.now c.args.input c.args.outs (named_row c.args.name.now) c.args.left c.args.self.now c.requires.free c.add.new.self c.in-Dead.is c.in_ok-add-in-Dead.ensures.ok c.requires.there

pub returns-in-None-clause-ties : goal.returns-in-None-clause-ties
returns-in-None-clause-ties c =
    free_few c.args.marks.now c.args.input c.args.outs (named_row c.args.name.now) c.args.left c.args.self.now c.requires.free c.in-On.base c.in-On.stack c.rows.result c.in-On.is c.in-None.ensures c.rows.ensures

pub returns-in_ok-add-in-Some-clause-ties : goal.returns-in_ok-add-in-Some-clause-ties
returns-in_ok-add-in-Some-clause-ties c =
    free_rest c.args.marks.now c.args.input c.args.outs (named_row c.args.name.now) c.args.left c.args.self.now c.requires.free c.in-On.base c.in-On.stack c.in-Some.rest c.add-in-Some.new.self c.in-On.is c.in-Some.ensures c.in_ok-add-in-Some.ensures.ok c.requires.there
