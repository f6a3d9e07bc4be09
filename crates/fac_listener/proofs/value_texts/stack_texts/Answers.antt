use Rattle.fac_listener.proofs.TextLemmas.{stack_told}
use Rattle.fac_listener.proofs.value_texts.stack_texts.Goals as goal

pub returns : goal.returns
returns c = stack_told c.args.machine.now c.stack.result.now c.texts.result c.stack.ensures (rw (c.image.ensures, c.store.ensures) at c.texts.ensures)
