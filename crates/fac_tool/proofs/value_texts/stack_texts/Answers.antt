use Rattle.fac_tool.proofs.EndLemmas.{stack_told}
use Rattle.fac_tool.proofs.value_texts.stack_texts.Goals as goal

pub returns : goal.returns
returns c = stack_told c.args.machine.now c.stack.result.now c.texts.result c.stack.ensures (rw (c.image.ensures, c.store.ensures) at c.texts.ensures)
