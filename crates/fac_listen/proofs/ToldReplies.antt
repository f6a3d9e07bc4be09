-- What is done by a reply, by what was written of it.
use Rattle.std.proofs.Common.{◌≡◌, ◌<◌, ℕ, List, [], ◌∷◌, length, map, Bool, false, Option, Some, None, refl, sym, ap, ◌∙◌, subst}
use Rattle.fac_notes.specs.Notes.{line_of as note_of}
use Rattle.fac_notes.specs.declared.report.Report.{Report}
use Rattle.fac_notes.specs.declared.report.Report.TheVariants as report
use Rattle.fac_notes.specs.declared.status.TheConstants.{INPUT_FAULT, WRITE_FAULT, NO_MEMORY}
use Rattle.fac_notes.proofs.LineLemmas.{some_bytes}
use Rattle.fac_listener.specs.Replies.{ends_session}
use Rattle.fac_listener.specs.declared.reply.Reply.{Reply}
use Rattle.fac_listener.specs.declared.reply.Reply.TheVariants as reply
use Rattle.fac_listen.specs.SessionNotes.{NotesTold, AreNoted, EndsByLine, EndsTold, EndsToldIfMemory, IsNoted, TellsLine, bare, fault_note, memory_note}
use Rattle.fac_listen.specs.declared.heard.Heard.{Heard}
use Rattle.fac_listen.specs.declared.hearing.Hearing.{Hearing}
use Rattle.fac_listen.specs.inner.Hearings.{GoesOnBehind, OnReply, passed, ticks_behind, told_in, waits_in}
use Rattle.fac_listen.proofs.NoteLemmas.{none_noted, one_noted}

-- nothing is told
silent : (old new : Hearing) (r : Reply) (notes : NotesTold) → ends_session r ≡ false → told_in r ≡ [] → waits_in r ≡ None → new ≡ passed old r → GoesOnBehind old new r notes notes
silent old new r notes stays told waits e = record {
  stays = stays;
  session = ap (λ (h : Hearing). h.session) e;
  names = ap (λ (h : Hearing). h.names) e;
  waits = ap (λ (h : Hearing). h.waits) e ∙ sym waits;
  ticks = ap (λ (h : Hearing). h.ticks) e;
  noted = subst (λ (rs : List Report). AreNoted (map (note_of old.names) rs) notes notes) (sym told) (none_noted notes);
}

-- a text waits
waiting : (old mid new : Hearing) (why : Report) (notes : NotesTold) → mid ≡ passed old (reply.More why) → new ≡ record mid { waits = Some why } → GoesOnBehind old new (reply.More why) notes notes
waiting old mid new why notes e f = record {
  stays = refl;
  session = ap (λ (h : Hearing). h.session) f ∙ ap (λ (h : Hearing). h.session) e;
  names = ap (λ (h : Hearing). h.names) f ∙ ap (λ (h : Hearing). h.names) e;
  waits = ap (λ (h : Hearing). h.waits) f;
  ticks = ap (λ (h : Hearing). h.ticks) f ∙ ap (λ (h : Hearing). h.ticks) e;
  noted = none_noted notes;
}

-- a report is told
told_on : (old new : Hearing) (r : Reply) (why : Report) (before now : NotesTold) → ends_session r ≡ false → told_in r ≡ why ∷ [] → waits_in r ≡ None → new ≡ passed old r → IsNoted (note_of new.names why) before now → GoesOnBehind old new r before now
told_on old new r why before now stays told waits e noted = record {
  stays = stays;
  session = ap (λ (h : Hearing). h.session) e;
  names = ap (λ (h : Hearing). h.names) e;
  waits = ap (λ (h : Hearing). h.waits) e ∙ sym waits;
  ticks = ap (λ (h : Hearing). h.ticks) e;
  noted =
      subst (λ (rs : List Report). AreNoted (map (note_of old.names) rs) before now) (sym told)
      (subst (λ (names : List (List ℕ)). AreNoted (note_of names why ∷ []) before now) (ap (λ (h : Hearing). h.names) e) (one_noted (note_of new.names why) before now (some_bytes new.names why) noted));
}

ends_by : (old new : Hearing) (r : Reply) (why : Report) (before now : NotesTold) (ending : Heard) → new ≡ passed old r → EndsByLine (note_of new.names why) new.ticks before now ending → EndsByLine (note_of old.names why) (ticks_behind old r) before now ending
ends_by old new r why before now ending e h = subst (λ (x : Hearing). EndsByLine (note_of x.names why) x.ticks before now ending) e h

told_refused : (old new : Hearing) (why : Report) (before now : NotesTold) (result : Option Heard) → new ≡ passed old (reply.Refused why) → TellsLine (note_of new.names why) new.ticks before now result → OnReply old new (reply.Refused why) before now result
told_refused old new why before now None e h = told_on old new (reply.Refused why) why before now refl refl refl e h
told_refused old new why before now (Some ending) e h = ends_by old new (reply.Refused why) why before now ending e h

told_failed : (old new : Hearing) (why : Report) (n : ℕ) (before now : NotesTold) (result : Option Heard) → new ≡ passed old (reply.Failed why n) → TellsLine (note_of new.names why) new.ticks before now result → OnReply old new (reply.Failed why n) before now result
told_failed old new why n before now None e h = told_on old new (reply.Failed why n) why before now refl refl refl e h
told_failed old new why n before now (Some ending) e h = ends_by old new (reply.Failed why n) why before now ending e h

told_spent : (old new : Hearing) (n : ℕ) (before now : NotesTold) (result : Option Heard) → new ≡ passed old (reply.Spent n) → TellsLine (note_of new.names (report.Spent n)) new.ticks before now result → OnReply old new (reply.Spent n) before now result
told_spent old new n before now None e h = told_on old new (reply.Spent n) (report.Spent n) before now refl refl refl e h
told_spent old new n before now (Some ending) e h = ends_by old new (reply.Spent n) (report.Spent n) before now ending e h

-- By what was answered.

pub on_silent : (old new : Hearing) (r s : Reply) (notes : NotesTold) → r ≡ s → ends_session s ≡ false → told_in s ≡ [] → waits_in s ≡ None → new ≡ passed old r → GoesOnBehind old new r notes notes
on_silent old new r s notes is stays told waits e = subst (λ (x : Reply). new ≡ passed old x → GoesOnBehind old new x notes notes) (sym is) (silent old new s notes stays told waits) e

pub on_more : (old mid new : Hearing) (r : Reply) (why : Report) (notes : NotesTold) → r ≡ reply.More why → mid ≡ passed old r → new ≡ record mid { waits = Some why } → GoesOnBehind old new r notes notes
on_more old mid new r why notes is e f = subst (λ (x : Reply). mid ≡ passed old x → GoesOnBehind old new x notes notes) (sym is) (λ h. waiting old mid new why notes h f) e

pub on_refused : (old new : Hearing) (r : Reply) (why : Report) (before now : NotesTold) (result : Option Heard) → r ≡ reply.Refused why → new ≡ passed old r → TellsLine (note_of new.names why) new.ticks before now result → OnReply old new r before now result
on_refused old new r why before now result is e h = subst (λ (x : Reply). new ≡ passed old x → OnReply old new x before now result) (sym is) (λ f. told_refused old new why before now result f h) e

pub on_failed : (old new : Hearing) (r : Reply) (why : Report) (n : ℕ) (before now : NotesTold) (result : Option Heard) → r ≡ reply.Failed why n → new ≡ passed old r → TellsLine (note_of new.names why) new.ticks before now result → OnReply old new r before now result
on_failed old new r why n before now result is e h = subst (λ (x : Reply). new ≡ passed old x → OnReply old new x before now result) (sym is) (λ f. told_failed old new why n before now result f h) e

pub on_spent : (old new : Hearing) (r : Reply) (n : ℕ) (before now : NotesTold) (result : Option Heard) → r ≡ reply.Spent n → new ≡ passed old r → TellsLine (note_of new.names (report.Spent n)) new.ticks before now result → OnReply old new r before now result
on_spent old new r n before now result is e h = subst (λ (x : Reply). new ≡ passed old x → OnReply old new x before now result) (sym is) (λ f. told_spent old new n before now result f h) e

-- a fault, or want of memory

ticks_told : (old new : Hearing) (r : Reply) (P : ℕ → Type 0) → new ≡ passed old r → P new.ticks → P (ticks_behind old r)
ticks_told old new r P e h = subst (λ (x : Hearing). P x.ticks) e h

pub on_input_fault :
    (old new : Hearing) (r : Reply) (n : ℕ) (before now : NotesTold) (ending : Heard) → r ≡ reply.InputFault n → new ≡ passed old r → EndsToldIfMemory (fault_note INPUT_FAULT new.ticks) (bare INPUT_FAULT new.ticks) before now ending → OnReply old new r before now (Some ending)
on_input_fault old new r n before now ending is e h =
    subst (λ (x : Reply). new ≡ passed old x → OnReply old new x before now (Some ending)) (sym is) (λ f. ticks_told old new (reply.InputFault n) (λ k. EndsToldIfMemory (fault_note INPUT_FAULT k) (bare INPUT_FAULT k) before now ending) f h) e

pub on_write_fault :
    (old new : Hearing) (r : Reply) (n : ℕ) (before now : NotesTold) (ending : Heard) → r ≡ reply.WriteFault n → new ≡ passed old r → EndsToldIfMemory (fault_note WRITE_FAULT new.ticks) (bare WRITE_FAULT new.ticks) before now ending → OnReply old new r before now (Some ending)
on_write_fault old new r n before now ending is e h =
    subst (λ (x : Reply). new ≡ passed old x → OnReply old new x before now (Some ending)) (sym is) (λ f. ticks_told old new (reply.WriteFault n) (λ k. EndsToldIfMemory (fault_note WRITE_FAULT k) (bare WRITE_FAULT k) before now ending) f h) e

pub on_memory :
    (old new : Hearing) (r : Reply) (n : ℕ) (before now : NotesTold) (ending : Heard) → r ≡ reply.Memory n → new ≡ passed old r → EndsTold memory_note (bare NO_MEMORY new.ticks) before now ending → OnReply old new r before now (Some ending)
on_memory old new r n before now ending is e h =
    subst (λ (x : Reply). new ≡ passed old x → OnReply old new x before now (Some ending)) (sym is) (λ f. ticks_told old new (reply.Memory n) (λ k. EndsTold memory_note (bare NO_MEMORY k) before now ending) f h) e
