use Rattle.std.proofs.Common.{ℕ, List, [], get_or, ap, sym, ◌∙◌}
use Rattle.fac_abs.specs.inner.Stacks.{cover_numbers}
use Rattle.fac_abs.proofs.StackLemmas.{covers_same}
use Rattle.fac_abs.proofs.stack_nodes.StackNodes.covers_above.Goals as goal

pub returns : goal.returns
returns c =
    let i = c.loop-left.invariant in
    let ss : List (List ℕ) = c.args.self.now in
    let top : List ℕ = get_or ss c.loop-left.left [] in
    sym (i.2 ∙ ap (λ (k : ℕ). cover_numbers top (get_or ss k [])) (sym c.loop-left-test.false) ∙ covers_same top)
