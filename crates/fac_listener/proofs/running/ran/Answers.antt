use Rattle.std.proofs.Common.{refl}
use Rattle.fac_listener.proofs.running.ran.Goals as goal

pub returns-in-Ok-write_stack : goal.returns-in-Ok-write_stack
returns-in-Ok-write_stack g c = (c.in-Ok.texts, c.in-Ok.ensures, refl, c.in-Ok-write_stack.ensures)

pub returns-in-Failed : goal.returns-in-Failed
returns-in-Failed g c = (c.in-Ok.texts, c.in-Ok.ensures, refl, rw c.in-Failed.is at c.in-Err-write_stack.ensures)
