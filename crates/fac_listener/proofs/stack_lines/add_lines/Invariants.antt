use Rattle.std.proofs.Common.{◌≡◌, ◌++◌, drop}
use Rattle.std.specs.Prelude.{string_bytes}
use Rattle.fac_notes.specs.Told.{stack_lines}
use Rattle.fac_listener.proofs.stack_lines.add_lines.Given as goal

abbrev pub invariant-loop-text : goal.invariant-loop-text
invariant-loop-text l = string_bytes l.initial.lines ++ stack_lines l.texts ≡ string_bytes l.lines ++ stack_lines (drop l.text-index l.texts)
