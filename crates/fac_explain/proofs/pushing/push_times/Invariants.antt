use Rattle.std.proofs.Common.{◌≡◌, ◌≤◌, ◌-◌, ◌++◌, replicate}
use Rattle.fac_explain.proofs.pushing.push_times.Given as goal

abbrev pub invariant-loop-pushed : goal.invariant-loop-pushed
invariant-loop-pushed l = record { so_far : l.out ≡ l.initial.out ++ replicate l.pushed l.byte; few : l.pushed ≤ l.count }

abbrev pub decreases-loop-pushed : goal.decreases-loop-pushed
decreases-loop-pushed l = l.count - l.pushed
