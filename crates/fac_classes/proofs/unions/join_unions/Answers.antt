use Rattle.std.proofs.Common.{length, rules, ◌∙◌}
use Rattle.fac_classes.proofs.UnionLemmas.{remembers_none}
use Rattle.fac_classes.proofs.unions.join_unions.Goals as goal

pub join_all-requires-clause-remembers : goal.join_all-requires-clause-remembers
join_all-requires-clause-remembers c = remembers_none c.args.classes.now c.args.width (length c.args.classes.now) c.args.cells.now c.as_mut_slice.result.now (c.as_mut_slice.ensures.value ∙ c.in_ok-last.ensures.items_if_clones_equal (search rules))
