-- The cause of each answer, out of the whole clause.
use Rattle.std.proofs.Common.{◌≡◌, ◌≢◌, ℕ, List, [], ◌∷◌, None, Some, ◌⊎◌, inl, inr, refl, ap, sym, subst, ◌∙◌, arith}
use Rattle.std.specs.declared.option.Option.{Option}
use Rattle.fac_io.specs.Faults.{Rose}
use Rattle.fac_tool.specs.declared.ended.Ended.{Ended}
use Rattle.fac_tool.specs.SeenObjects.{SinkSeen, FilesSeen, InputSeen}
use Rattle.fac_command.specs.Command.{Command, Request, listen, work as asked, files_of}
use Rattle.fac_command.specs.Command as command
use Rattle.fac_lang.specs.declared.program.Program.{Program}
use Rattle.fac_code.specs.declared.image.Image.{Image}
use Rattle.fac_gen.specs.Generated.{generated}
use Rattle.fac_tool.specs.Answer.{Answer, Sources, answer_on, come_to, accepted, stack_behind}
use Rattle.fac_tool.specs.Ends.{ending_of, EndsBy, EndsAs, Work, idle, work_of}
use Rattle.fac_tool.specs.Loads.{LoadsEnd}
use Rattle.fac_tool.specs.Saved.{since, Saves}
use Rattle.fac_tool.specs.Executed.{BadImage, NoImageMemory, ExecutesBy, Executes, OnImage, DoesOnBytes, not_decoded, decoded, executed, listed, listed_answer}
use Rattle.fac_tool.specs.Plans.{Task, SavesTask, DoesOnSources, DoesOnImage, checking, running, running_then, saving, summing_up, plan_of}
use Rattle.fac_tool.specs.Answers.{Tells, ReachesBy, AnswersBy, HearsSession, TellsUsage, devices_before, devices_now, notes_before, notes_now, numbered_names}
use Rattle.fac_listen.proofs.SessionCauses.{HasCauses, session_caused}

-- a status that is neither a write fault nor want of memory is the one that was reached
pub status-Tells : (n : ℕ) (names : List (List ℕ)) (reached : Ended) (notes : SinkSeen) (ended : Ended) → n ≢ 10 → n ≢ 12 → Tells names reached notes ended → ended.status ≡ n → reached.status ≡ n
status-Tells n names reached notes ended a b (inl (inl whole)) e = ap (λ (x : Ended). x.status) (sym whole.same) ∙ e
status-Tells n names reached notes ended a b (inl (inr part)) e = absurd (a (sym e ∙ part.status))
status-Tells n names reached notes ended a b (inr none) e =
    elim none.noted [ inl noted ↦ absurd (b (sym e ∙ ap (λ (x : Ended). x.status) noted.same)) | inr part ↦ absurd (a (sym e ∙ part.status)) ]

ten_of : (names : List (List ℕ)) (reached : Ended) (notes : SinkSeen) (ended : Ended) → Tells names reached notes ended → ended.status ≡ 10 → (reached.status ≡ 10) ⊎ Rose notes.faults_before notes.faults_now
ten_of names reached notes ended (inl (inl whole)) e = inl (ap (λ (x : Ended). x.status) (sym whole.same) ∙ e)
ten_of names reached notes ended (inl (inr part)) e = inr part.rose
ten_of names reached notes ended (inr none) e =
    elim none.noted [ inl noted ↦ let twelve : ended.status ≡ 12 = ap (λ (x : Ended). x.status) noted.same in absurd (omega (arith, twelve, e)) | inr part ↦ inr part.rose ]

-- usage and a write fault are the statuses of words that meet no form
of_usage : (notes : SinkSeen) (ended : Ended) → TellsUsage notes ended → (ended.status ≡ 2) ⊎ ((ended.status ≡ 10) × Rose notes.faults_before notes.faults_now)
of_usage notes ended (inl whole) = inl (ap (λ (x : Ended). x.status) whole.same)
of_usage notes ended (inr part) = inr (part.status, part.rose)

-- what the work of a command says of causes: it never tells of usage, and a fault that it tells was counted
record Causes (files : FilesSeen) (seen : InputSeen) (out : SinkSeen) (ended : Ended) : Type 0 where
  usage : ended.status ≡ 2 → ⊥
  file : ended.status ≡ 8 → Rose files.faults_before files.faults_now
  input : ended.status ≡ 9 → Rose seen.faults_before seen.faults_now
  write : ended.status ≡ 10 → Rose out.faults_before out.faults_now

-- another status has no cause
no_cause : (n : ℕ) (files : FilesSeen) (seen : InputSeen) (out : SinkSeen) (ended : Ended) → n ≢ 2 → n ≢ 8 → n ≢ 9 → n ≢ 10 → ended.status ≡ n → Causes files seen out ended
no_cause n files seen out ended a b c d is =
    record { usage = λ e. a (sym is ∙ e); file = λ e. absurd (b (sym is ∙ e)); input = λ e. absurd (c (sym is ∙ e)); write = λ e. absurd (d (sym is ∙ e)) }

no_memory : (files : FilesSeen) (seen : InputSeen) (out : SinkSeen) (ended : Ended) → ended.status ≡ 12 → Causes files seen out ended
no_memory files seen out ended is = no_cause 12 files seen out ended (omega arith) (omega arith) (omega arith) (omega arith) is

too_long : (files : FilesSeen) (seen : InputSeen) (out : SinkSeen) (ended : Ended) → ended.status ≡ 11 → Causes files seen out ended
too_long files seen out ended is = no_cause 11 files seen out ended (omega arith) (omega arith) (omega arith) (omega arith) is

file_failed : (files : FilesSeen) (seen : InputSeen) (out : SinkSeen) (ended : Ended) → ended.status ≡ 8 → Rose files.faults_before files.faults_now → Causes files seen out ended
file_failed files seen out ended is rose =
    record { usage = λ e. omega (arith, is, e); file = λ e. rose; input = λ e. absurd (omega (arith, is, e)); write = λ e. absurd (omega (arith, is, e)) }

-- the ending of work at a given status
ends_at : (n : ℕ) (answer : Answer) (work : Work) (seen : InputSeen) (out : SinkSeen) (left : List ℕ) (ended : Ended) → EndsAs answer work out seen left ended → ended.status ≡ n → EndsBy (ending_of n) answer work out seen left ended
ends_at n answer work seen out left ended h e = subst (λ (m : ℕ). EndsBy (ending_of m) answer work out seen left ended) e h

of_ends : (answer : Answer) (work : Work) (files : FilesSeen) (seen : InputSeen) (out : SinkSeen) (left : List ℕ) (ended : Ended) → EndsAs answer work out seen left ended → Causes files seen out ended
of_ends answer work files seen out left ended h = record {
  usage = λ e. ends_at 2 answer work seen out left ended h e;
  file = λ e. absurd (ends_at 8 answer work seen out left ended h e);
  input = λ e. (ends_at 9 answer work seen out left ended h e).0;
  write = λ e. (ends_at 10 answer work seen out left ended h e).0;
}

-- likewise of the run of an image
executes_at : (n : ℕ) (M : Image) (budget : ℕ) (input left : List ℕ) (seen : InputSeen) (out : SinkSeen) (ended : Ended) → Executes M budget input left seen out ended → ended.status ≡ n → ExecutesBy (ending_of n) M budget input left seen out ended
executes_at n M budget input left seen out ended h e = subst (λ (m : ℕ). ExecutesBy (ending_of m) M budget input left seen out ended) e h

of_execution : (M : Image) (budget : ℕ) (input left : List ℕ) (files : FilesSeen) (seen : InputSeen) (out : SinkSeen) (ended : Ended) → Executes M budget input left seen out ended → Causes files seen out ended
of_execution M budget input left files seen out ended h = record {
  usage = λ e. executes_at 2 M budget input left seen out ended h e;
  file = λ e. absurd (executes_at 8 M budget input left seen out ended h e);
  input = λ e. (executes_at 9 M budget input left seen out ended h e).0;
  write = λ e. (executes_at 10 M budget input left seen out ended h e).0;
}

-- loads that end the call
of_loads : (names : List (List ℕ)) (limit : ℕ) (files : FilesSeen) (seen : InputSeen) (out : SinkSeen) (ended : Ended) → LoadsEnd names limit files ended → Causes files seen out ended
of_loads names limit files seen out ended (inl none) = no_memory files seen out ended none.status
of_loads names limit files seen out ended (inr (inl fails)) = file_failed files seen out ended fails.status fails.rose
of_loads names limit files seen out ended (inr (inr long)) = too_long files seen out ended long.status

-- bytes that weren't decoded
of_bytes : (bytes : List ℕ) (files : FilesSeen) (seen : InputSeen) (out : SinkSeen) (ended : Ended) → BadImage bytes ended ⊎ NoImageMemory ended → Causes files seen out ended
of_bytes bytes files seen out ended (inl bad) = no_cause 7 files seen out ended (omega arith) (omega arith) (omega arith) (omega arith) bad.status
of_bytes bytes files seen out ended (inr none) = no_memory files seen out ended none.status

-- what is done with sources
of_save : (P : Program) (name : List ℕ) (files : FilesSeen) (seen : InputSeen) (out : SinkSeen) (ended : Ended) → Saves P name files ended → Causes files seen out ended
of_save P name files seen out ended (inl saved) = no_cause 0 files seen out ended (omega arith) (omega arith) (omega arith) (omega arith) saved.status
of_save P name files seen out ended (inr (inl fails)) = file_failed files seen out ended fails.status fails.rose
of_save P name files seen out ended (inr (inr none)) = no_memory files seen out ended none.status

of_saves : (saves : Option (List ℕ)) (sources : Sources) (files : FilesSeen) (seen : InputSeen) (out : SinkSeen) (ended : Ended) → SavesTask saves sources files seen out ended → Causes files seen out ended
of_saves None sources files seen out ended h = absurd h
of_saves (Some image) sources files seen out ended h = of_save h.P image files seen out ended h.saves

of_sources : (task : Task) (texts : List (List ℕ)) (files : FilesSeen) (seen : InputSeen) (out : SinkSeen) (ended : Ended) → DoesOnSources task texts files seen out ended → Causes files seen out ended
of_sources task texts files seen out ended does =
    let sources = come_to does.sources in
    elim does.ends [
      | inl told ↦ of_ends (answer_on task.answer sources told.ends.input) (work_of task.work (accepted sources) told.ends.input) files seen out told.ends.left ended told.ends.holds.ends
      | inr saved ↦ of_saves task.saves sources files seen out ended saved
    ]

-- what is done with an image, by the causes of that
of_decoded :
    (On : OnImage) (bytes : List ℕ) (files : FilesSeen) (seen : InputSeen) (out : SinkSeen) (ended : Ended) → ((M : Image) (input left : List ℕ) → On M seen out ended input left → Causes files seen out ended) →
    DoesOnBytes On bytes seen out ended → Causes files seen out ended
of_decoded On bytes files seen out ended causes (not_decoded none unread) = of_bytes bytes files seen out ended none.why
of_decoded On bytes files seen out ended causes (decoded M spelled on) = causes M on.input on.left on.holds

of_image :
    (On : OnImage) (texts : List (List ℕ)) (files : FilesSeen) (seen : InputSeen) (out : SinkSeen) (ended : Ended) → ((M : Image) (input left : List ℕ) → On M seen out ended input left → Causes files seen out ended) →
    DoesOnImage On texts files seen out ended → Causes files seen out ended
of_image On texts files seen out ended causes does = of_decoded On does.bytes files seen out ended causes does.does

-- the row of each command
of_plan : (c : Command) (texts : List (List ℕ)) (files : FilesSeen) (seen : InputSeen) (out : SinkSeen) (ended : Ended) → (plan_of c).Does texts files seen out ended → Causes files seen out ended
of_plan (command.check names) texts files seen out ended does = of_sources checking texts files seen out ended does
of_plan (command.run budget names) texts files seen out ended does = of_sources (running budget) texts files seen out ended does
of_plan (command.run_stack budget names) texts files seen out ended does = of_sources (running_then stack_behind budget) texts files seen out ended does
of_plan (command.build names image) texts files seen out ended does = of_sources (saving image) texts files seen out ended does
of_plan (command.exec budget image) texts files seen out ended does = of_image (executed budget) texts files seen out ended (λ M input left h. of_execution M budget input left files seen out ended h) does
of_plan (command.generate budget name seed words) texts files seen out ended does = of_sources (summing_up words (generated seed words) budget) (generated seed words ∷ []) files seen out ended does
of_plan (command.list image) texts files seen out ended does = of_image listed texts files seen out ended (λ M input left h. of_ends (listed_answer M input) idle files seen out left ended h.ends) does

-- files that nothing but this part of the work failed on
earlier : (before mid now : ℕ) → mid ≡ before → Rose mid now → Rose before now
earlier before mid now same rose = subst (λ (n : ℕ). Rose n now) same rose

of_command : (c : Command) (files : FilesSeen) (seen : InputSeen) (out : SinkSeen) (ended : Ended) → ReachesBy (plan_of c) files seen out ended → Causes files seen out ended
of_command c files seen out ended (inl none) = of_loads (plan_of c).files (plan_of c).limit files seen out ended none.ends
of_command c files seen out ended (inr loaded) =
    let causes = of_plan c loaded.texts (since files loaded.loaded) seen out ended loaded.does in
    record { usage = causes.usage; file = λ e. earlier files.faults_before loaded.loaded.faults files.faults_now loaded.loads.faults (causes.file e); input = causes.input; write = causes.write }

-- a session
of_session : (seen : InputSeen) (out notes : SinkSeen) (ended : Ended) → HearsSession seen out notes ended → HasCauses (devices_before seen out) (devices_now seen out) (notes_before notes) (notes_now notes) (record { status = ended.status; ticks = ended.ticks; refusal = ended.refusal })
of_session seen out notes ended h =
    let causes = session_caused h.listens.input h.listens.left (devices_before seen out) (devices_now seen out) (notes_before notes) (notes_now notes) h.heard h.listens.holds in
    let same : h.heard.status ≡ ended.status = sym (ap (λ (x : Ended). x.status) h.same) in
    record { usage = λ e. causes.usage (same ∙ e); file = λ e. causes.file (same ∙ e); input = λ e. causes.input (same ∙ e); write = λ e. causes.write (same ∙ e) }

pub file_cause : (c : Option Request) (files : FilesSeen) (seen : InputSeen) (out notes : SinkSeen) (ended : Ended) → AnswersBy c files seen out notes ended → ended.status ≡ 8 → Rose files.faults_before files.faults_now
file_cause None files seen out notes ended h e = elim (of_usage notes ended h.1) [ inl r ↦ absurd (omega (arith, r, e)) | inr r ↦ absurd (omega (arith, r.0, e)) ]
file_cause (Some listen) files seen out notes ended h e = absurd ((of_session seen out notes ended h.1).file e)
file_cause (Some (asked c)) files seen out notes ended h e =
    (of_command c files seen out h.0 h.1.ending).file (status-Tells 8 (numbered_names (files_of c)) h.0 notes ended (omega arith) (omega arith) h.2 e)

pub input_cause : (c : Option Request) (files : FilesSeen) (seen : InputSeen) (out notes : SinkSeen) (ended : Ended) → AnswersBy c files seen out notes ended → ended.status ≡ 9 → Rose seen.faults_before seen.faults_now
input_cause None files seen out notes ended h e = elim (of_usage notes ended h.1) [ inl r ↦ absurd (omega (arith, r, e)) | inr r ↦ absurd (omega (arith, r.0, e)) ]
input_cause (Some listen) files seen out notes ended h e = (of_session seen out notes ended h.1).input e
input_cause (Some (asked c)) files seen out notes ended h e =
    (of_command c files seen out h.0 h.1.ending).input (status-Tells 9 (numbered_names (files_of c)) h.0 notes ended (omega arith) (omega arith) h.2 e)

pub write_cause :
    (c : Option Request) (files : FilesSeen) (seen : InputSeen) (out notes : SinkSeen) (ended : Ended) → AnswersBy c files seen out notes ended → ended.status ≡ 10 → Rose out.faults_before out.faults_now ⊎ Rose notes.faults_before notes.faults_now
write_cause None files seen out notes ended h e = elim (of_usage notes ended h.1) [ inl r ↦ absurd (omega (arith, r, e)) | inr r ↦ inr r.1 ]
write_cause (Some listen) files seen out notes ended h e = (of_session seen out notes ended h.1).write e
write_cause (Some (asked c)) files seen out notes ended h e =
    elim (ten_of (numbered_names (files_of c)) h.0 notes ended h.2 e) [ inl r ↦ inl ((of_command c files seen out h.0 h.1.ending).write r) | inr r ↦ inr r ]

pub usage_cause : (c : Option Request) (files : FilesSeen) (seen : InputSeen) (out notes : SinkSeen) (ended : Ended) → AnswersBy c files seen out notes ended → ended.status ≡ 2 → c ≡ None
usage_cause None files seen out notes ended h e = refl
usage_cause (Some listen) files seen out notes ended h e = absurd ((of_session seen out notes ended h.1).usage e)
usage_cause (Some (asked c)) files seen out notes ended h e =
    absurd ((of_command c files seen out h.0 h.1.ending).usage (status-Tells 2 (numbered_names (files_of c)) h.0 notes ended (omega arith) (omega arith) h.2 e))
