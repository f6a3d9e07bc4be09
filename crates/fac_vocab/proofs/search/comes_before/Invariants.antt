use Rattle.std.proofs.Common.{◌≡◌, ◌-◌, drop, length}
use Rattle.fac_lang.specs.Classes.{bytes_before}
use Rattle.fac_vocab.specs.Scopes.{full_text}
use Rattle.fac_vocab.proofs.search.comes_before.Given as goal

abbrev pub invariant-loop-before : goal.invariant-loop-before
invariant-loop-before l = bytes_before (full_text l.entry) (full_text l.other) ≡ bytes_before (drop l.index (full_text l.entry)) (drop l.index (full_text l.other))

abbrev pub decreases-loop-before : goal.decreases-loop-before
decreases-loop-before l = length (full_text l.entry) - l.index
