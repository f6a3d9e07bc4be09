use Rattle.std.proofs.Common.{◌≡◌, ◌+◌, length}
use Rattle.fac_tool.proofs.ReadingLemmas.{TakenBetween}
use Rattle.fac_tool.proofs.reading.take_in_turn.Given as goal

abbrev pub invariant-texts : goal.invariant-texts
invariant-texts l = record { taken : TakenBetween l.fn.texts l.left l.fn.before l.fn.count l.file l.sum l.initial.resolver l.resolver; all : l.file + length l.left ≡ l.fn.before + length l.fn.texts }

abbrev pub decreases-texts : goal.decreases-texts
decreases-texts l = length l.left
