use Rattle.std.proofs.Common.{ℕ, List, [], ◌++◌, get_or, ap, sym, ◌∙◌}
use Rattle.fac_abs.specs.inner.Stacks.{joined_numbers}
use Rattle.fac_abs.proofs.StackLemmas.{joined_same}
use Rattle.fac_abs.proofs.stack_nodes.StackNodes.differing.Goals as goal

pub returns : goal.returns
returns c =
    let i = c.loop-left.invariant in
    let ss : List (List ℕ) = c.args.self.now in
    let top : List ℕ = get_or ss c.loop-left.left [] in
    (i.0, i.3 ∙ ap (λ (k : ℕ). c.loop-left.marks.items ++ joined_numbers top (get_or ss k [])) (sym c.loop-left-test.false) ∙ ap (λ (t : List ℕ). c.loop-left.marks.items ++ t) (joined_same top))
