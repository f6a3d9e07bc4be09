use Rattle.std.proofs.Common.{◌*◌, length, rules, ◌∙◌}
use Rattle.fac_classes.proofs.UnionLemmas.{blank_right}
use Rattle.fac_classes.proofs.kind_table.kind_table.Goals as goal

pub fill-requires-clause-right : goal.fill-requires-clause-right
fill-requires-clause-right c = blank_right c.args.classes.now c.args.width (length c.args.classes.now * c.args.width) c.as_mut_slice.result.now (c.as_mut_slice.ensures.value ∙ c.in_ok-cells.ensures.items_if_clones_equal (search rules))
