use Rattle.std.proofs.Common.{take}
use Rattle.fac_endings.specs.inner.Finishes.{AreFinishes}
use Rattle.fac_endings.proofs.finishing.finishes_of.Given as goal

abbrev pub invariant-loop-draft : goal.invariant-loop-draft
invariant-loop-draft l = AreFinishes l.table.drafts.now l.table.classes.now (take l.draft-index l.table.drafts.now) l.finishes.items
