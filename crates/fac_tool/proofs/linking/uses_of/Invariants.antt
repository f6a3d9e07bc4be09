use Rattle.std.proofs.Common.{take}
use Rattle.std.specs.List.{AllZip}
use Rattle.fac_tool.specs.inner.Uses.{SuitsUse}
use Rattle.fac_tool.proofs.linking.uses_of.Given as goal

abbrev pub invariant-loop-word : goal.invariant-loop-word
invariant-loop-word l = AllZip SuitsUse (take l.word-index l.word-items) l.uses
