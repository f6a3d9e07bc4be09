use Rattle.std.proofs.Common.{List, ◌++◌, length, map, ap, ◌∙◌, rules}
use Rattle.std.specs.List.{range_with_len}
use Rattle.fac_classes.specs.declared.visits.Visit.{Visit}
use Rattle.fac_classes.specs.declared.visits.Visit.TheVariants.{Enter}
use Rattle.fac_classes.proofs.VisitLemmas.{walk_begun}
use Rattle.fac_classes.proofs.visits.class_order.Goals as goal

pub explore-requires-clause-walk : goal.explore-requires-clause-walk
explore-requires-clause-walk c =
    walk_begun c.args.classes.now c.in_ok-vec.field-0.items c.new-2.result.items c.begin.new.stack.items (c.in_ok-vec.ensures.items_if_clones_equal (search rules)) c.new-2.ensures.items
    (c.in_ok-begin.ensures ∙ ap (λ (xs : List Visit). xs ++ map Enter (range_with_len 0 (length c.args.classes.now))) c.new.ensures.items)
