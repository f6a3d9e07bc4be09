-- The verdict on a program.
use Rattle.std.proofs.Common.{◌≡◌, ℕ, List, None, refl, ap, sym, subst, ◌∙◌}
use Rattle.std.specs.Prelude.{Some}
use Rattle.fac_lang.specs.declared.program.Program.{Program}
use Rattle.fac_lang.specs.Whole.{IsWhole}
use Rattle.fac_locals.specs.Closed.{Closes}
use Rattle.fac_locals.specs.declared.closing.Closed.{Closed}
use Rattle.fac_check.specs.Judged.{refusal_seen}
use Rattle.fac_check.specs.Promises.{AcceptedAreSafe}
use Rattle.fac_check.specs.Verdicts.{verdict}
use Rattle.fac_check.specs.declared.refusal.Refusal.{Refusal}
use Rattle.fac_notes.specs.WordNames.{word_name, name_text}
use Rattle.fac_notes.specs.declared.report.Report.TheVariants as report
use Rattle.fac_judge.specs.JudgedPrograms.{IsAccepted, IsRefused}
use Rattle.fac_judge.specs.inner.ClosedNames.{SameNames}

-- a program is refused, whose words have the names of this one
pub refused_by : (P C : Program) (count : ℕ) (r : Refusal) (word : List ℕ) → SameNames P C → verdict P count ≡ Some (refusal_seen r) → word ≡ name_text (word_name C r.word) → IsRefused P count (report.Check r word)
refused_by P C count r word same e named = record { first = refusal_seen r; verdict_is = e; report_is = ap (report.Check r) (named ∙ ap name_text (same r.word)) }

-- or accepted
pub accepted_by : AcceptedAreSafe → (P : Program) (closed checked : Closed) → checked ≡ closed → Closes P closed.program closed.templates → IsWhole P → verdict P closed.start ≡ None → IsAccepted P closed.start checked
accepted_by law P closed checked is closes whole accepts =
    subst (λ (c : Closed). IsAccepted P closed.start c) (sym is) (record { verdict_is = accepts; stands = record { closes = closes; whole = whole; safe = law P closed.start whole accepts; start = refl } })
