use Rattle.fac_carry.proofs.SamePrimitives.{stack_printed}
use Rattle.fac_carry.proofs.laws.printed_forms_are_equal.Goals as goal

pub returns : goal.returns
returns c = λ N T w vs. stack_printed T N w vs
