use Rattle.std.proofs.Common.{List, ◌++◌, ◌∷◌, [], map, ap, sym, ◌∙◌, append_assoc, arith}
use Rattle.std.specs.List.{range_with_len}
use Rattle.std.proofs.lemmas.List.FromFn.{map-range_with_len_more}
use Rattle.fac_classes.specs.declared.visits.Visit.{Visit}
use Rattle.fac_classes.specs.declared.visits.Visit.TheVariants.{Enter}
use Rattle.fac_classes.proofs.visits.begin.Goals as goal

pub loop-class-preserved : goal.loop-class-preserved
loop-class-preserved c =
    c.in_ok-push.ensures.items
    ∙ ap (λ (xs : List Visit). xs ++ Enter c.loop-class.class ∷ []) c.loop-class.invariant
    ∙ append_assoc c.args.stack.now.items (map Enter (range_with_len 0 c.loop-class.class)) (Enter c.loop-class.class ∷ [])
    ∙ ap (λ (xs : List Visit). c.args.stack.now.items ++ xs) (sym (map-range_with_len_more (λ x. Enter x) 0 c.loop-class.class c.loop-class.class (omega arith)))
