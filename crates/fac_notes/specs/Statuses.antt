-- The exit status of each report.
use Rattle.std.specs.Prelude.{ℕ}
use Rattle.fac_notes.specs.declared.status.TheConstants.{RUN_ERROR, SYNTAX_REFUSED, NAME_REFUSED, CHECK_REFUSED, BUDGET_SPENT, BAD_IMAGE, FILE_FAULT, TOO_LONG}
use Rattle.fac_notes.specs.declared.report.Report.{Report}
use Rattle.fac_notes.specs.declared.report.Report.TheVariants as report

abbrev pub status_of : Report → ℕ
status_of (report.Error name word value) = RUN_ERROR
status_of (report.Bytes file at why) = SYNTAX_REFUSED
status_of (report.Syntax file at why) = SYNTAX_REFUSED
status_of (report.Name fault) = NAME_REFUSED
status_of (report.Check refusal word) = CHECK_REFUSED
status_of (report.Spent ticks) = BUDGET_SPENT
status_of (report.Image at) = BAD_IMAGE
status_of (report.Trap pc why) = BAD_IMAGE
status_of (report.File name) = FILE_FAULT
status_of (report.TooLong name limit) = TOO_LONG
