-- What the prelude comes to: its refusal and the note of it, or a session in which nothing waits.
use Rattle.std.proofs.Common.{◌≡◌, ◌≤◌, ℕ, List, [], ◌∷◌, Option, Some, None, Result, Ok, Err, refl, sym, ap, subst, arith}
use Rattle.fac_source.specs.declared.refusal.NameFault.{NameFault}
use Rattle.fac_check.specs.Verdicts.{verdict}
use Rattle.fac_check.specs.declared.refusal.Broken.{Broken}
use Rattle.fac_names.specs.declared.known.Known.{Known}
use Rattle.fac_notes.specs.declared.report.Report.{Report}
use Rattle.fac_notes.specs.declared.report.Report.TheVariants as report
use Rattle.fac_notes.specs.Notes.{line_of as note_of}
use Rattle.fac_notes.specs.Sources.{Source, no_tokens, no_tree, tree}
use Rattle.fac_notes.specs.Statuses.{status_of}
use Rattle.fac_notes.specs.Told.{refusal_of}
use Rattle.fac_notes.specs.WordNames.{word_name, name_text}
use Rattle.fac_session.specs.Heard.{file_names, last_note}
use Rattle.fac_session.specs.Sessions.{Session, first_known, first_session, on_first_verdict, on_first_names, session_of}
use Rattle.fac_judge.specs.KnownTexts.{RefusesSession}

-- the status of a session that there isn't, and the note of it, are those of its report
pub record IsTold (why : Report) : Type 0 where
  pub note : last_note (Some why) ≡ note_of file_names why
  pub most : status_of why ≤ 5
  pub least : 3 ≤ status_of why

as_told : (why other : Report) → IsTold other → other ≡ why → IsTold why
as_told why other h e = subst (λ (r : Report). IsTold r) e h

verdict_told : (k : Known) (o : Option (ℕ × Broken)) (why : Report) → on_first_verdict k o ≡ Err why → IsTold why
verdict_told k (Some first) why e = as_told why (report.Check (refusal_of first) (name_text (word_name k.program first.0))) (record { note = refl; most = omega arith; least = omega arith }) (cc)
verdict_told k None why e = absurd (cc)

names_told : (r : Result Known NameFault) (why : Report) → on_first_names r ≡ Err why → IsTold why
names_told (Err fault) why e = as_told why (report.Name fault) (record { note = refl; most = omega arith; least = omega arith }) (cc)
names_told (Ok k) why e = verdict_told k (verdict k.program 0) why e

pub refusal_told : (source : Source) (why : Report) → session_of source ≡ Err why → IsTold why
refusal_told (no_tokens at fault) why e = as_told why (report.Bytes 0 at fault) (record { note = refl; most = omega arith; least = omega arith }) (cc)
refusal_told (no_tree at reason) why e = as_told why (report.Syntax 0 at reason) (record { note = refl; most = omega arith; least = omega arith }) (cc)
refusal_told (tree forms) why e = names_told (first_known forms) why e

pub is_refused : (source : Source) (why : Report) → RefusesSession source why → session_of source ≡ Err why
unfolding RefusesSession
is_refused source why e = e

pub prelude_note : (source : Source) (why : Report) → RefusesSession source why → last_note (Some why) ≡ note_of file_names why
prelude_note source why e = (refusal_told source why (is_refused source why e)).note

-- Nothing waits before the first line.

verdict_begins : (k : Known) (o : Option (ℕ × Broken)) (s : Session) → on_first_verdict k o ≡ Ok s → s.waiting ≡ []
verdict_begins k (Some first) s e = absurd (cc)
verdict_begins k None s e = let same : first_session k ≡ s = cc in ap (λ (x : Session). x.waiting) (sym same)

names_begin : (r : Result Known NameFault) (s : Session) → on_first_names r ≡ Ok s → s.waiting ≡ []
names_begin (Err fault) s e = absurd (cc)
names_begin (Ok k) s e = verdict_begins k (verdict k.program 0) s e

pub first_waits_never : (source : Source) (s : Session) → session_of source ≡ Ok s → s.waiting ≡ []
first_waits_never (no_tokens at fault) s e = absurd (cc)
first_waits_never (no_tree at reason) s e = absurd (cc)
first_waits_never (tree forms) s e = names_begin (first_known forms) s e
