use Rattle.std.proofs.Common.{◌≡◌, ◌≤◌, ◌++◌, length, string_bytes}
use Rattle.fac_lang.specs.Printed.{escaped_all}
use Rattle.fac_show.proofs.PrintedLemmas.{left_of}
use Rattle.fac_show.proofs.escaping.add_all_escaped.Given as goal

-- what was added and what is left, and that the line stays within the limit
abbrev pub invariant-loop-c : goal.invariant-loop-c
invariant-loop-c l = (string_bytes l.line ++ left_of (length l.yielded) l.text ≡ string_bytes l.initial.line ++ escaped_all l.text) × (length (string_bytes l.initial.line) ≤ l.limit → length (string_bytes l.line) ≤ l.limit)
