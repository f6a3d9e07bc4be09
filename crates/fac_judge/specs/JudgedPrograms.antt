-- The verdict on a program, as the code answers it.
use Rattle.std.specs.Prelude.{◌≡◌, ℕ, Some, None}
use Rattle.fac_lang.specs.declared.program.Program.{Program}
use Rattle.fac_lang.specs.Whole.{IsWhole}
use Rattle.fac_locals.specs.Closed.{Closes}
use Rattle.fac_locals.specs.declared.closing.Closed.{Closed}
use Rattle.fac_check.specs.Promises.{IsSafe}
use Rattle.fac_check.specs.Verdicts.{verdict}
use Rattle.fac_check.specs.declared.refusal.Broken.{Broken}
use Rattle.fac_notes.specs.Told.{refusal_of}
use Rattle.fac_notes.specs.WordNames.{name_text, word_name}
use Rattle.fac_notes.specs.declared.report.Report.{Report}
use Rattle.fac_notes.specs.declared.report.Report.TheVariants as report
use Rattle.fac_judge.specs.declared.judging.Judged.{Judged}
use Rattle.fac_judge.specs.declared.judging.Judged.TheVariants as judged

-- a closed program stands for this one, which is accepted where its top-level phrase starts on so many values, so that it is safe
pub record StandsFor (closed : Closed) (P : Program) (count : ℕ) : Type 0 where
  pub closes : Closes P closed.program closed.templates
  pub whole : IsWhole P
  pub safe : IsSafe P count
  pub start : closed.start ≡ count

-- the report of a broken rule of a program
abbrev pub check_report : Program → ℕ × Broken → Report
check_report P first = report.Check (refusal_of first) (name_text (word_name P first.0))

-- a program is refused with this report
pub record IsRefused (P : Program) (count : ℕ) (why : Report) : Type 0 where
  pub first : ℕ × Broken
  pub verdict_is : verdict P count ≡ Some first
  pub report_is : why ≡ check_report P first

-- a program is accepted, and this closed one stands for it
pub record IsAccepted (P : Program) (count : ℕ) (closed : Closed) : Type 0 where
  pub verdict_is : verdict P count ≡ None
  pub stands : StandsFor closed P count

-- what is answered of a program whose top-level phrase starts on so many values: the verdict, or want of memory
abbrev pub IsJudged : Program → ℕ → Judged → Type 0
IsJudged P count (judged.Accepted checked) = IsAccepted P count checked.closed
IsJudged P count (judged.Refused why) = IsRefused P count why
IsJudged P count judged.Memory = Unit {0}
