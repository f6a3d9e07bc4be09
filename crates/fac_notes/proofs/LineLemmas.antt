-- The line of a report is never empty.
use Rattle.std.proofs.Common.{◌<◌, ℕ, List, length, arith}
use Rattle.fac_notes.specs.declared.report.Report.{Report}
use Rattle.fac_notes.specs.declared.report.Report.TheVariants as report
use Rattle.fac_notes.specs.Notes.{line_of}

pub some_bytes : (names : List (List ℕ)) (why : Report) → 0 < length (line_of names why)
some_bytes names (report.Bytes file at why) = omega arith
some_bytes names (report.Syntax file at why) = omega arith
some_bytes names (report.Name fault) = omega arith
some_bytes names (report.Check refusal word) = omega arith
some_bytes names (report.Error name word value) = omega arith
some_bytes names (report.Spent ticks) = omega arith
some_bytes names (report.Image at) = omega arith
some_bytes names (report.Trap pc why) = omega arith
some_bytes names (report.File name) = omega arith
some_bytes names (report.TooLong name limit) = omega arith
