use Rattle.std.proofs.Common.{map, ap, ◌∙◌}
use Rattle.std.proofs.lemmas.Result.{IfOk-weaker}
use Rattle.fac_classes.specs.inner.Ordering.{IsAscending}
use Rattle.fac_classes.proofs.OrderLemmas.{keys_ascending}
use Rattle.fac_classes.proofs.order.ascending.Goals as goal

pub returns : goal.returns
returns c =
    IfOk-weaker c.numbers_of.result _ (λ numbers. IsAscending c.args.classes.now numbers.items)
    (λ numbers e. keys_ascending c.args.classes.now c.in_ok-keys.keys.items c.sort.new.self.items numbers.items c.in_ok-keys.ensures c.in_ok-sort.ensures.permutation c.in_ok-sort.ensures.sorted (e ∙ ap (map (λ k. k.2)) c.as_slice.ensures.value)) c.numbers_of.ensures
