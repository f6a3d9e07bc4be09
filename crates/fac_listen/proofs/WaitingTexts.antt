-- When a line is said to wait.
use Rattle.std.proofs.Common.{◌≡◌, ℕ, List, [], ◌∷◌, length, Option, Some, None, Result, Ok, Err, refl, sym, ap, subst, ◌∙◌}
use Rattle.fac_base.specs.declared.limits.TheConstants.{TICKS}
use Rattle.fac_lang.specs.Phrases.{Phrase, end, then}
use Rattle.fac_lang.specs.Eval.{Result as Run, Done, Failed, Spent, Stuck}
use Rattle.fac_lang.specs.Meaning.{word_phrase}
use Rattle.fac_source.specs.declared.refusal.NameFault.{NameFault}
use Rattle.fac_source.specs.declared.tree.Form.{Form}
use Rattle.fac_parse.specs.declared.reader.Why.{Why}
use Rattle.fac_parse.specs.declared.reader.Why.TheVariants.{End, Other}
use Rattle.fac_names.specs.Resolved.{going_on}
use Rattle.fac_names.specs.declared.known.Known.{Known}
use Rattle.fac_check.specs.Verdicts.{verdict}
use Rattle.fac_check.specs.declared.refusal.Broken.{Broken}
use Rattle.fac_notes.specs.declared.report.Report.{Report}
use Rattle.fac_notes.specs.declared.report.Report.TheVariants as report
use Rattle.fac_notes.specs.Sources.{Source, no_tokens, no_tree, tree}
use Rattle.fac_session.specs.Sessions.{Session, Meant, waits, refuses, goes_on, on_verdict, on_names, on_no_tree, meant}
use Rattle.fac_session.specs.SessionLines.{Said, more, defined, ran, refused, failed, spent, Behind, behind_waiting, of_run, of_phrase, on_meant, line, line_run}

-- Nothing but a text without a tree waits.

run_waits_never : (s : Session) (k : Known) (r : Run) (why : Report) → (of_run s k TICKS r).said ≡ more why → ⊥
run_waits_never s k (Done st n) why e = absurd (cc)
run_waits_never s k (Failed x st n) why e = absurd (cc)
run_waits_never s k (Spent st i) why e = absurd (cc)
run_waits_never s k Stuck why e = absurd (cc)

phrase_waits_never : (s : Session) (k : Known) (t : Phrase) (input : List ℕ) (why : Report) → (of_phrase s k t input).said ≡ more why → ⊥
phrase_waits_never s k end input why e = absurd (cc)
phrase_waits_never s k (then i p t) input why e = run_waits_never s k (line_run s k.program input TICKS) why e

verdict_waits_never : (s : Session) (text input : List ℕ) (k : Known) (o : Option (ℕ × Broken)) (why : Report) → (on_meant s text input (on_verdict k o)).said ≡ more why → ⊥
verdict_waits_never s text input k (Some first) why e = absurd (cc)
verdict_waits_never s text input k None why e = phrase_waits_never s k (word_phrase k.program k.program.top) input why e

names_wait_never : (s : Session) (text input : List ℕ) (count : ℕ) (r : Result Known NameFault) (why : Report) → (on_meant s text input (on_names count r)).said ≡ more why → ⊥
names_wait_never s text input count (Err fault) why e = absurd (cc)
names_wait_never s text input count (Ok k) why e = verdict_waits_never s text input k (verdict k.program count) why e

-- what a text comes to that waits
pub record WaitsFor (source : Source) (why : Report) : Type 0 where
  pub at : ℕ
  pub is : source ≡ no_tree at End
  pub told : why ≡ report.Syntax 1 at End

no_tree_waits : (s : Session) (text input : List ℕ) (at : ℕ) (reason : Why) (why : Report) → (on_meant s text input (on_no_tree at reason)).said ≡ more why → WaitsFor (no_tree at reason) why
no_tree_waits s text input at End told e = record { at = at; is = refl; told = cc }
no_tree_waits s text input at Other told e = absurd (cc)

text_waits : (s : Session) (text input : List ℕ) (source : Source) (why : Report) → (on_meant s text input (meant s.known (length s.stack) source)).said ≡ more why → WaitsFor source why
text_waits s text input (no_tokens at fault) why e = absurd (cc)
text_waits s text input (no_tree at reason) why e = no_tree_waits s text input at reason why e
text_waits s text input (tree forms) why e = absurd (names_wait_never s text input (length s.stack) (going_on s.known forms) why e)

pub line_waits : (source : List ℕ → Source) (s : Session) (bytes input : List ℕ) (why : Report) → (line source s bytes input).said ≡ more why → WaitsFor (source (behind_waiting s.waiting bytes)) why
line_waits source s bytes input why e = text_waits s (behind_waiting s.waiting bytes) input (source (behind_waiting s.waiting bytes)) why e
