use Rattle.std.proofs.Common.{◌≡◌, ◌+◌, ◌++◌, ℕ}
use Rattle.fac_lang.specs.Procedures.{places_from}
use Rattle.fac_expand.proofs.pieces.numbers.Given as goal

abbrev pub invariant-loop-number : goal.invariant-loop-number
invariant-loop-number l = (n : ℕ) → l.number + n ≡ l.count → l.numbers ++ places_from l.number n ≡ places_from 0 l.count
