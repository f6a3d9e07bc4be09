use Rattle.std.proofs.Common.{◌≡◌, ◌++◌, drop}
use Rattle.fac_explain.specs.Sentences.{more_homes}
use Rattle.fac_explain.proofs.hints.push_more.Given as goal

abbrev pub invariant-loop-home : goal.invariant-loop-home
invariant-loop-home l = l.out ++ more_homes (drop l.home-index l.homes) ≡ l.initial.out ++ more_homes l.homes
