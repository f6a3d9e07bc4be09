use Rattle.std.proofs.Common.{◌≡◌, length, ap, ◌∙◌}
use Rattle.std.proofs.lemmas.Result.{IfOk-weaker}
use Rattle.fac_lang.specs.Classes.{slots_within}
use Rattle.fac_classes.specs.inner.Chains.{slots_down}
use Rattle.fac_classes.proofs.SlotLemmas.{chain_slots}
use Rattle.fac_classes.proofs.slots.slots_of.Goals as goal

pub returns : goal.returns
returns c =
    IfOk-weaker c.slots_of_chain.result _ (λ slots. slots ≡ slots_within (length c.args.classes.now) c.args.classes.now c.args.class)
    (λ slots e. e ∙ ap (slots_down c.args.classes.now) (c.as_slice.ensures.value ∙ c.in_ok-chain.ensures) ∙ chain_slots (length c.args.classes.now) c.args.classes.now c.args.class) c.slots_of_chain.ensures
