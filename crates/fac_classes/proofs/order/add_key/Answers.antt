use Rattle.std.proofs.Common.{ℕ, List, [], ◌∷◌, ◌++◌, map, ap, ◌∙◌}
use Rattle.std.proofs.lemmas.List.{map_push}
use Rattle.fac_classes.specs.inner.Ordering.{key_seen}
use Rattle.fac_classes.proofs.OrderLemmas.{key_is}
use Rattle.fac_classes.proofs.order.add_key.Goals as goal

pub returns : goal.returns
returns c =
    ap (map key_seen) c.in_ok-push.ensures.items
    ∙ map_push key_seen c.args.keys.now.items (c.count_kinds-count.result, c.in_ok-name.name, c.args.class)
    ∙ ap (λ (k : ℕ × List ℕ × ℕ). map key_seen c.args.keys.now.items ++ k ∷ [])
    (key_is c.args.classes.now c.args.width c.args.cells.now c.requires.table c.args.class c.requires.class c.index-classes-class.result c.count_kinds-count.result c.in_ok-name.name c.count_kinds-count.ensures c.in_ok-name.ensures)
