use Rattle.std.proofs.Common.{◌≡◌, ℕ, ◌||◌, nat_eq, drop}
use Rattle.std.specs.List.{list_any}
use Rattle.fac_locals.proofs.numbers.Numbers.insert_all.Given as goal

abbrev pub invariant-loop-number : goal.invariant-loop-number
invariant-loop-number l = (n : ℕ) → list_any (nat_eq n) l.numbers || list_any (nat_eq n) l.initial.self ≡ list_any (nat_eq n) (drop l.number-index l.numbers) || list_any (nat_eq n) l.self
