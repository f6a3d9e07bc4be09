use Rattle.std.proofs.Common.{List, ℕ, ◌++◌, ap, sym, ◌∙◌, append_assoc}
use Rattle.fac_lang.specs.Classes.{shape_at}
use Rattle.fac_classes.specs.inner.Chains.{slots_in, slots_down}
use Rattle.fac_classes.proofs.SlotLemmas.{slots_last}
use Rattle.fac_classes.proofs.slots.slots_of_chain.Goals as goal

pub loop-class-preserved : goal.loop-class-preserved
loop-class-preserved c =
    c.loop-class.invariant
    ∙ ap (λ (xs : List ℕ). c.loop-class.slots ++ slots_down c.args.classes.now xs) c.in-Some.ensures.cases.0
    ∙ ap (λ (xs : List (List ℕ)). c.loop-class.slots ++ xs) (slots_last c.args.classes.now c.in-Some.earlier.now c.in-Some.class.now)
    ∙ sym (append_assoc c.loop-class.slots (slots_in (shape_at c.args.classes.now c.in-Some.class.now)) (slots_down c.args.classes.now c.in-Some.earlier.now))
    ∙ ap (λ (xs : List (List ℕ)). xs ++ slots_down c.args.classes.now c.in-Some.earlier.now) (ap (λ (xs : List (List ℕ)). c.loop-class.slots ++ xs) (sym c.own_slots.ensures) ∙ sym c.in_ok-add_slots.ensures)
