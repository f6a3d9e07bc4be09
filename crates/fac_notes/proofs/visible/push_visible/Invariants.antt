use Rattle.std.proofs.Common.{◌≡◌, ◌++◌, length}
use Rattle.fac_notes.specs.Visible.{visible}
use Rattle.fac_notes.proofs.VisibleLemmas.{left_of}
use Rattle.fac_notes.proofs.visible.push_visible.Given as goal

-- what was added and what is left
abbrev pub invariant-loop-c : goal.invariant-loop-c
invariant-loop-c l = l.line ++ left_of (length l.yielded) l.name ≡ l.initial.line ++ visible l.name
