-- The steps of a command, one behind the other.
use Rattle.std.proofs.Common.{◌≡◌, ℕ, List, [], ◌∷◌, map, Some, None, Result, Ok, Err, refl, sym, ap, subst, inl, inr, ◌∙◌}
use Rattle.std.specs.Result.{IsErrAnd}
use Rattle.fac_base.specs.declared.limits.TheConstants.{MOST_IMAGE_BYTES}
use Rattle.fac_lang.specs.declared.program.Program.{Program}
use Rattle.fac_source.specs.declared.tree.Form.{Form}
use Rattle.fac_source.specs.declared.refusal.NameFault.{NameFault}
use Rattle.fac_names.specs.Resolution.{resolved, ResolvedAreWhole}
use Rattle.fac_check.specs.Verdicts.{verdict}
use Rattle.fac_check.specs.Promises.{AcceptedAreSafe}
use Rattle.fac_io.specs.declared.files.Asked.TheVariants.{Load}
use Rattle.fac_io.specs.Told.{Stays-same, TookNothing-same, GrowsByPrefix-stays}
use Rattle.fac_lines.specs.Channels.{ChannelsTold}
use Rattle.fac_tool.specs.declared.accepting.Accepted.{Accepted}
use Rattle.fac_tool.specs.declared.accepting.NamedProgram.{NamedProgram}
use Rattle.fac_notes.specs.declared.report.Report.TheVariants as report
use Rattle.fac_tool.specs.declared.ended.Ended.{Ended}
use Rattle.fac_tool.specs.Answer.{OnAccepted, Sources, trees, come_to, accepted, answer_on, limit, own_definitions, on_resolved, on_verdict}
use Rattle.fac_tool.specs.SeenObjects.{SinkSeen, FilesSeen, InputSeen, OnInput, input_seen, output_seen}
use Rattle.fac_tool.specs.Ends.{Work, idle, runs, runs_and_writes, EndsOn, UnreadBy, work_of}
use Rattle.fac_tool.specs.inner.Stops.{StandsForSafe}
use Rattle.fac_tool.specs.Loads.{LoadsGive, LoadsEnd}
use Rattle.fac_tool.specs.Saved.{FilesTold, until, since, Saves}
use Rattle.fac_tool.specs.Executed.{OnImage, DoesOnBytes}
use Rattle.fac_tool.specs.Plans.{Plan, Task, AreKept, AnswersTask, DoesOnSources, on_sources, on_text, on_image, saving}
use Rattle.fac_tool.specs.Answers.{NoTexts, Loaded, ReachesBy}
use Rattle.fac_tool.specs.inner.StepEnds.{bare, reported, still_files, EndsEarly, StepsEnd, ended_by, EndsRead, AreTrees, AreAccepted}
use Rattle.fac_tool.specs.inner.FormsTaken.{AreNamed}
use Rattle.fac_tool.proofs.EarlyEnds.{is_refused}
use Rattle.fac_tool.proofs.InputLemmas.{onward, on_still, still_unread}
use Rattle.fac_tool.proofs.LoadLemmas.{no_loads}
use Rattle.fac_tool.proofs.SourceLemmas.{accepted_safe}

-- a refused name is the answer
pub ends_on_name :
    (on : OnAccepted) (files : List (List Form)) (fault : NameFault) (ended : Ended) → resolved files ≡ Err fault → ended ≡ reported 0 (report.Name fault) → EndsEarly (on_resolved on (own_definitions files) (resolved files)) ended
ends_on_name on files fault ended e is = rw e (is_refused (report.Name fault) ended refl is)

-- names that don't resolve, a refusal and want of memory end the work on the trees of texts
pub ends_on_trees : (texts : List (List ℕ)) (files : List (List Form)) (ended : Ended) → AreTrees texts files → ((on : OnAccepted) → EndsEarly (on_resolved on (own_definitions files) (resolved files)) ended) → EndsRead texts ended
ends_on_trees texts files ended are ends =
    record { sources = are.sources; are_read = are.are_read; ends = λ on. subst (λ (s : Sources). EndsEarly (answer_on on s) ended) (sym are.come) (ends on) }

pub ends_on_program :
    (texts : List (List ℕ)) (files : List (List Form)) (P : Program) (ended : Ended) → AreTrees texts files → resolved files ≡ Ok P → ((on : OnAccepted) → EndsEarly (on_verdict on (own_definitions files) P (verdict P 0)) ended) → EndsRead texts ended
ends_on_program texts files P ended are resolves ends = ends_on_trees texts files ended are (λ on. rw resolves (ends on))

-- what a `?` returns is the ending of its step
pub passed_on : {A : Type 0} (r : Result A Ended) (ended : Ended) → IsErrAnd r (λ other. other ≡ ended) → r ≡ Err ended
passed_on (Ok x) ended h = absurd h
passed_on (Err other) ended h = ap Err h

-- the last step of reading
pub accepts_checked :
    (texts : List (List ℕ)) (named : NamedProgram) (accepted : Accepted) →
    AreNamed texts named → (verdict named.program 0 ≡ None) × StandsForSafe accepted.checked.closed named.program → accepted.definitions ≡ named.definitions → AreAccepted texts accepted
accepts_checked texts named accepted are h same =
    record { files = are.files; P = named.program; are_trees = are.are_trees; resolves = are.resolves; accepts = h.0; stands = h.1; count = same ∙ are.counts }

-- an accepted program has the answer of what is done with it
accepted_ends :
    (task : Task) (s : Sources) (files : List (List Form)) (P : Program) (out : SinkSeen) (seen : InputSeen) (ended : Ended) (input left : List ℕ) → s ≡ trees files → resolved files ≡ Ok P → verdict P 0 ≡ None →
    EndsOn (task.answer (own_definitions files) P) (work_of task.work (Some P)) out seen ended input left → EndsOn (answer_on task.answer s) (work_of task.work (accepted s)) out seen ended input left
accepted_ends task s files P out seen ended input left come resolves accepts h = record { ends = rw (come, resolves, accepts) h.ends; unread = rw (come, resolves, accepts) h.unread }

-- work that wasn't begun takes nothing of the input
unread_by : (work : Work) (still : ChannelsTold) → UnreadBy work (input_seen still still)
unread_by idle still = still_unread still
unread_by (runs P input budget) still = tt
unread_by (runs_and_writes behind P input budget) still = tt

-- what files tell behind what was done with them, and from then on
abbrev pub told_behind : FilesSeen → FilesTold
told_behind files = record { held = files.held_now; asked = files.asked_now; faults = files.faults_now }

are_kept : (files : FilesTold) → AreKept (still_files files)
are_kept files = record { held = Stays-same files.held; asked = Stays-same files.asked; faults = refl }

-- the steps of a command: the loads gave no texts
pub reaches_no_texts :
    (plan : Plan) (files : FilesSeen) (still : ChannelsTold) (r : Result Ended Ended) (ended : Ended) →
    IsErrAnd r (λ other. other ≡ ended) → LoadsEnd plan.files plan.limit files ended → ReachesBy plan files (input_seen still still) (output_seen still still) (ended_by r)
reaches_no_texts plan files still (Ok x) ended same none = absurd same
reaches_no_texts plan files still (Err other) ended same none =
    inl (subst (λ (x : Ended). NoTexts plan.files plan.limit files (input_seen still still) (output_seen still still) x) (sym same) (record { ends = none; unread = still_unread still; out_is = TookNothing-same still.output }))

-- the work on texts ended early
pub does_early :
    AcceptedAreSafe → ResolvedAreWhole → (task : Task) (texts : List (List ℕ)) (still : ChannelsTold) (r : Result Ended Ended) (ended : Ended) →
    IsErrAnd r (λ other. other ≡ ended) → EndsRead texts ended → (files : FilesTold) → DoesOnSources task texts (still_files files) (input_seen still still) (output_seen still still) (ended_by r)
does_early law whole task texts still (Ok x) ended same read files = absurd same
does_early law whole task texts still (Err other) ended same read files =
    let work : List ℕ → Work = work_of task.work (accepted (come_to read.sources)) in
    let answers : AnswersTask task (come_to read.sources) (still_files files) (input_seen still still) (output_seen still still) ended = record {
      kept = are_kept files;
      ends = on_still still (λ input. record { ends = read.ends task.answer input (work input) still.output still.output_faults (input_seen still still) (still_unread still); unread = unread_by (work input) still });
    } in
    let early : DoesOnSources task texts (still_files files) (input_seen still still) (output_seen still still) ended = record {
      sources = read.sources;
      are_read = read.are_read;
      sound = accepted_safe law whole texts read.sources read.are_read;
      ends = inl answers;
    } in
    subst (λ (x : Ended). DoesOnSources task texts (still_files files) (input_seen still still) (output_seen still still) x) (sym same) early

-- or their program was accepted, and this is how the task ended that was carried out on it
pub does_end :
    AcceptedAreSafe → ResolvedAreWhole → (task : Task) (texts : List (List ℕ)) (before now : ChannelsTold) (accepted : Accepted) (r : Result Ended Ended) →
    (there : AreAccepted texts accepted) → StepsEnd accepted.checked.closed (task.answer accepted.definitions) task.work before now r →
    (files : FilesTold) → DoesOnSources task texts (still_files files) (input_seen before now) (output_seen before now) (ended_by r)
does_end law whole task texts before now accepted r there ends files =
    let seen = input_seen before now in
    let out = output_seen before now in
    let are = there.are_trees in
    let carried : OnInput seen (EndsOn (task.answer accepted.definitions there.P) (work_of task.work (Some there.P)) out seen (ended_by r)) = onward (λ input left h. h there.P there.stands) ends in
    let counted = subst (λ (n : ℕ). OnInput seen (EndsOn (task.answer n there.P) (work_of task.work (Some there.P)) out seen (ended_by r))) there.count carried in
    let answers : AnswersTask task (come_to are.sources) (still_files files) seen out (ended_by r) = record {
      kept = are_kept files;
      ends = onward (λ input left h. accepted_ends task (come_to are.sources) there.files there.P out seen (ended_by r) input left are.come there.resolves there.accepts h) counted;
    } in
    record { sources = are.sources; are_read = are.are_read; sound = accepted_safe law whole texts are.sources are.are_read; ends = inl answers }

-- or texts were loaded, and this was done with them
pub reaches_texts :
    (names : List (List ℕ)) (task : Task) (files : FilesSeen) (texts : List (List ℕ)) (seen : InputSeen) (out : SinkSeen) (ended : Ended) →
    LoadsGive names limit files texts → ((told : FilesTold) → DoesOnSources task texts (still_files told) seen out ended) → ReachesBy (on_sources names task) files seen out ended
reaches_texts names task files texts seen out ended loads does = inr (record { texts = texts; loaded = told_behind files; loads = loads; does = does (told_behind files) })

-- or the work on them ended early
pub reaches_early :
    AcceptedAreSafe → ResolvedAreWhole → (names : List (List ℕ)) (task : Task) (files : FilesSeen) (texts : List (List ℕ)) (still : ChannelsTold) (r : Result Ended Ended) (ended : Ended) →
    IsErrAnd r (λ other. other ≡ ended) → LoadsGive names limit files texts → EndsRead texts ended → ReachesBy (on_sources names task) files (input_seen still still) (output_seen still still) (ended_by r)
reaches_early law whole names task files texts still r ended same loads read =
    reaches_texts names task files texts (input_seen still still) (output_seen still still) (ended_by r) loads (does_early law whole task texts still r ended same read)

-- the steps of a command on a text of its own: it was made, and this was done with it
pub reaches_made :
    (text : List ℕ) (task : Task) (texts : List (List ℕ)) (told : FilesTold) (seen : InputSeen) (out : SinkSeen) (ended : Ended) →
    texts ≡ text ∷ [] → ((files : FilesTold) → DoesOnSources task texts (still_files files) seen out ended) → ReachesBy (on_text text task) (still_files told) seen out ended
reaches_made text task texts told seen out ended is does =
    inr (record {
      texts = [];
      loaded = told;
      loads = no_loads limit told.held told.asked told.faults;
      does = subst (λ (ts : List (List ℕ)). DoesOnSources task ts (still_files told) seen out ended) is (does told);
    })

-- or there was no memory for it
pub reaches_unmade :
    (text : List ℕ) (task : Task) (told : FilesTold) (still : ChannelsTold) (ended : Ended) → ended ≡ bare 12 0 → ReachesBy (on_text text task) (still_files told) (input_seen still still) (output_seen still still) ended
reaches_unmade text task told still ended is =
    inl (record {
      ends = inl (record {
        status = ap (λ (x : Ended). x.status) is;
        ticks = ap (λ (x : Ended). x.ticks) is;
        bare = record { stack = ap (λ (x : Ended). x.stack) is; refusal = ap (λ (x : Ended). x.refusal) is };
        held = Stays-same told.held;
        asked = GrowsByPrefix-stays told.asked told.asked (map Load []) (Stays-same told.asked);
        faults = refl;
      });
      unread = still_unread still;
      out_is = TookNothing-same still.output;
    })

-- the steps of `build`, where the program was accepted: this is how its image was saved
pub reaches_saved :
    AcceptedAreSafe → ResolvedAreWhole → (names : List (List ℕ)) (image : List ℕ) (files : FilesSeen) (loaded : FilesTold) (texts : List (List ℕ)) (still : ChannelsTold) (accepted : Accepted) (ended : Ended) →
    LoadsGive names limit (until files loaded) texts → (there : AreAccepted texts accepted) → ((P : Program) → StandsForSafe accepted.checked.closed P → Saves P image (since files loaded) ended) →
    ReachesBy (on_sources names (saving image)) files (input_seen still still) (output_seen still still) ended
reaches_saved law whole names image files loaded texts still accepted ended loads there saves =
    let are = there.are_trees in
    inr (record {
      texts = texts;
      loaded = loaded;
      loads = loads;
      does = record {
        sources = are.sources;
        are_read = are.are_read;
        sound = accepted_safe law whole texts are.sources are.are_read;
        ends = inr (record { P = there.P; is = rw (are.come, there.resolves, there.accepts) refl; saves = saves there.P there.stands; unread = still_unread still; out_is = TookNothing-same still.output });
      };
    })

-- the steps of a command on an image, whose bytes were loaded
pub reaches_image :
    (name : List ℕ) (On : OnImage) (files : FilesSeen) (bytes slice : List ℕ) (seen : InputSeen) (out : SinkSeen) (ended : Ended) →
    slice ≡ bytes → LoadsGive (name ∷ []) MOST_IMAGE_BYTES files (bytes ∷ []) → DoesOnBytes On slice seen out ended → ReachesBy (on_image name On) files seen out ended
reaches_image name On files bytes slice seen out ended same loads does =
    inr (record {
      texts = bytes ∷ [];
      loaded = told_behind files;
      loads = loads;
      does = record { bytes = bytes; is = refl; kept = are_kept (told_behind files); does = subst (λ (bs : List ℕ). DoesOnBytes On bs seen out ended) same does };
    })
