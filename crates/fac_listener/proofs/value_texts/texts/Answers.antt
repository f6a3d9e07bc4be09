use Rattle.std.proofs.Common.{arith}
use Rattle.std.proofs.lemmas.Grind.{common_steps}
use Rattle.fac_listener.proofs.TextLemmas.{one_text_more}
use Rattle.fac_listener.specs.MachineTexts.{machine_text}
use Rattle.fac_store.specs.ValueTrees.{trees_of, value_in}
use Rattle.fac_store.specs.declared.value.Value.{Value as MachineValue}
use Rattle.fac_listener.proofs.value_texts.texts.Goals as goal

pub loop-value-preserved : goal.loop-value-preserved
loop-value-preserved c = λ w same.
    let f = λ (v : MachineValue). machine_text c.args.image.now w (value_in (trees_of c.args.store.now) v) in
    one_text_more f c.args.values.now c.loop-value.value-index _ c.loop-value.texts c.push.new.self c.in_ok-value_text.field-0 c.loop-value-test.true (c.loop-value.invariant w same) (c.in_ok-value_text.ensures w same) c.in_ok-push.ensures.ok

pub returns : goal.returns
returns c = λ w same. let all = c.loop-value.invariant w same in grind (arith, common_steps)
