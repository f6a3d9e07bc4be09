use Rattle.std.proofs.Common.{List, ℕ, ◌++◌, ◌-◌, ap, sym, ◌∙◌}
use Rattle.std.specs.Prelude.{Option}
use Rattle.fac_lang.specs.Classes.{shape_at, parent_in}
use Rattle.fac_classes.specs.inner.Chains.{chain_within}
use Rattle.fac_classes.proofs.SlotLemmas.{chain_step}
use Rattle.fac_classes.proofs.slots.chain_of.Goals as goal

pub up-preserved : goal.up-preserved
up-preserved c =
    c.up.invariant
    ∙ ap (λ (o : Option ℕ). c.up.chain.items ++ chain_within c.up.left c.args.classes.now o) c.in-Some.is
    ∙ chain_step c.up.left c.args.classes.now c.up.chain.items c.in-Some.at c.up-test.true
    ∙ ap (λ (xs : List ℕ). xs ++ chain_within (c.up.left - 1) c.args.classes.now (parent_in (shape_at c.args.classes.now c.in-Some.at))) (sym c.in_ok-push-in-Some.ensures.items)
    ∙ ap (λ (o : Option ℕ). c.push.new.self.items ++ chain_within (c.up.left - 1) c.args.classes.now o) (sym c.parent_of-next.ensures)
