use Rattle.std.proofs.Common.{ap, sym, ◌∙◌, arith}
use Rattle.fac_classes.specs.ClassKinds.{kind_total}
use Rattle.fac_classes.proofs.FillLemmas.{owners_total}
use Rattle.fac_classes.proofs.BuiltLemmas.{owners_few}
use Rattle.fac_classes.proofs.classes.assemble.Goals as goal

pub overflow_cast-width : goal.overflow_cast-width
overflow_cast-width c =
    let few = owners_few c.args.defs c.args.owners.now c.requires.owners in
    omega (arith, few)

pub overflow_add-width : goal.overflow_add-width
overflow_add-width c =
    let few = owners_few c.args.defs c.args.owners.now c.requires.owners in
    omega (arith, few)

pub kind_table-requires-clause-width : goal.kind_table-requires-clause-width
kind_table-requires-clause-width c = sym (owners_total c.args.defs c.args.owners.now c.requires.owners) ∙ ap kind_total (sym c.as_slice.ensures)
