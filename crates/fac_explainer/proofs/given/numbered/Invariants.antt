use Rattle.std.proofs.Common.{◌≡◌, ◌+◌, ◌++◌, length}
use Rattle.fac_explainer.specs.inner.GivenTexts.{numbered_texts}
use Rattle.fac_explainer.proofs.given.numbered.Given as goal

abbrev pub invariant-texts : goal.invariant-texts
invariant-texts l = record { so_far : l.given ++ numbered_texts l.number l.left ≡ numbered_texts 1 l.fn.texts; all : l.number + length l.left ≡ 1 + length l.fn.texts }

abbrev pub decreases-texts : goal.decreases-texts
decreases-texts l = length l.left
