use Rattle.std.proofs.Common.{◌≡◌, length}
use Rattle.fac_vocab.specs.inner.Rows.{entries_at, kept_numbers, least_with}
use Rattle.fac_vocab.proofs.search.least_used.Given as goal

abbrev pub invariant-loop-number : goal.invariant-loop-number
invariant-loop-number l = least_with l.used l.entries l.numbers (entries_at l.entries (kept_numbers l.fn.kept)) ≡ least_with l.used l.entries l.rest (entries_at l.entries (kept_numbers l.least))

abbrev pub decreases-loop-number : goal.decreases-loop-number
decreases-loop-number l = length l.rest
