use Rattle.std.proofs.Common.{◌≡◌, length}
use Rattle.fac_locals.proofs.closing.unfilled.Given as goal

abbrev pub invariant-loop : goal.invariant-loop
invariant-loop l = length l.templates.items ≡ l.counter
