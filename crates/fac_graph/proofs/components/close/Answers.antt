use Rattle.std.proofs.Common.{◌≡◌, List, ℕ, length, ◌-◌, true, sym, subst}
use Rattle.fac_graph.specs.inner.Components.{are_below}
use Rattle.fac_graph.proofs.NumberLists.{below_part}
use Rattle.fac_graph.proofs.components.close.Goals as goal

pub finish-requires : goal.finish-requires
finish-requires c =
    let n = length c.args.search.now.standings.items in
    below_part n (length c.deref.result.now - c.args.first) c.args.first c.deref.result.now (subst (λ (xs : List ℕ). are_below n xs ≡ true) (sym c.deref.ensures.value) c.requires.path)
