use Rattle.std.proofs.Common.{take}
use Rattle.fac_judge.specs.KnownTexts.{IsKnownBehind}
use Rattle.fac_judge.proofs.known_texts.known_behind.Given as goal

abbrev pub invariant-loop-text : goal.invariant-loop-text
invariant-loop-text l = IsKnownBehind (take l.text-index l.texts) l.known
