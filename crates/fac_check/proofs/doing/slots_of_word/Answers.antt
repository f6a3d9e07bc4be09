use Rattle.std.proofs.Common.{sym, subst}
use Rattle.std.specs.Prelude.{ℕ, Option}
use Rattle.fac_check.specs.inner.KnownClasses.{IsTupleWord}
use Rattle.fac_check.proofs.ClassDoings.{tells_class, tells_none}
use Rattle.fac_check.proofs.doing.slots_of_word.Goals as goal

pub returns-in-Some : goal.returns-in-Some
returns-in-Some c = subst (λ (o : Option ℕ). IsTupleWord c.args.closed.now c.args.word o) (sym c.slots_of.ensures) (tells_class c.args.closed.now c.args.word c.in-Some.class c.in-Some.ensures)

pub returns-in-None : goal.returns-in-None
returns-in-None c = tells_none c.args.closed.now c.args.word c.in-None.ensures
