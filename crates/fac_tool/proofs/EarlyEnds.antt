-- Endings before a run, and of one that was cut short.
use Rattle.std.proofs.Common.{◌≡◌, ℕ, List, [], None, Some, inl, refl, sym, subst, ◌∙◌, arith}
use Rattle.std.proofs.lemmas.List.{append-nil}
use Rattle.std.specs.declared.option.Option.{Option}
use Rattle.fac_io.specs.Told.{Grows, SinkTold, Stays, Stays-same, TookNothing, TookNothing-same, GrowsByPrefix-stays}
use Rattle.fac_lang.specs.declared.program.Program.{Program}
use Rattle.fac_notes.specs.declared.report.Report.{Report}
use Rattle.fac_notes.specs.Statuses.{status_of}
use Rattle.fac_tool.specs.declared.ended.Ended.{Ended}
use Rattle.fac_tool.specs.Answer.{Answer, refused, meaning}
use Rattle.fac_tool.specs.SeenObjects.{SinkSeen, InputSeen, IsUnread}
use Rattle.fac_tool.specs.Ends.{Ending, Told, ending_of, EndsBy, Work, idle, runs, runs_and_writes, run_output, RunPieces, MemoryInRun, OutputWhole, OutputBefore, UnreadBy, EndsOn}
use Rattle.fac_tool.specs.inner.StepEnds.{bare, reported, still, EndsEarly}

-- what stays grows by nothing
stays_grow : {A : Type 0} (before now : Option (List A)) → Stays before now → Grows before now []
stays_grow None now same = tt
stays_grow (Some xs) None same = absurd same
stays_grow (Some xs) (Some ys) same = same ∙ sym (append-nil xs)

pub grows_nothing : {A : Type 0} (told : Option (List A)) → Grows told told []
grows_nothing told = stays_grow told told (Stays-same told)

-- nothing was taken of the output of a run
none_taken : (P : Program) (input : List ℕ) (out : SinkSeen) → TookNothing out.before out.now → RunPieces P input 0 [] out
none_taken P input out none = record { wrote_in = 0; within = omega arith; taken = stays_grow out.before.taken out.now.taken none.taken; pieces = stays_grow out.before.pieces out.now.pieces none.pieces }

run_of_none : (P : Program) (input : List ℕ) (told : SinkTold) (m : ℕ) → RunPieces P input 0 [] (still told m)
run_of_none P input told m = none_taken P input (still told m) (TookNothing-same told)

-- memory was wanted before a run was begun
pub memory_first : (P : Program) (input : List ℕ) (budget : ℕ) (left : List ℕ) (seen : InputSeen) (out : SinkSeen) → IsUnread seen → TookNothing out.before out.now → MemoryInRun P input budget left 0 seen out
memory_first P input budget left seen out unread none = record {
  stops = record { within = omega arith; spent_before = λ some. absurd (omega (arith, some)); at_most = GrowsByPrefix-stays out.before.taken out.now.taken (run_output (meaning P input 0)) none.taken };
  pieces = none_taken P input out none;
  wanted = inl (record { none = refl; unread = unread; out_is = none });
}

none_before : (work : Work) (left : List ℕ) (told : SinkTold) (m : ℕ) (seen : InputSeen) → IsUnread seen → OutputBefore work left 0 seen (still told m)
none_before idle left told m seen unread = (refl, TookNothing-same told)
none_before (runs P input budget) left told m seen unread = memory_first P input budget left seen (still told m) unread (TookNothing-same told)
none_before (runs_and_writes behind P input budget) left told m seen unread = memory_first P input budget left seen (still told m) unread (TookNothing-same told)

-- which is the whole of an empty output
none_at_all : (why : Report) (input : List ℕ) (work : Work) (told : SinkTold) (m : ℕ) → OutputWhole work (refused why input) 0 (still told m)
none_at_all why input idle told m = grows_nothing told.pieces
none_at_all why input (runs P bytes budget) told m = run_of_none P bytes told m
none_at_all why input (runs_and_writes behind P bytes budget) told m = run_of_none P bytes told m

-- memory was wanted
pub no_memory : (answer : List ℕ → Answer) (ended : Ended) → ended ≡ bare 12 0 → EndsEarly answer ended
no_memory answer ended e =
    subst (λ (x : Ended). EndsEarly answer x) (sym e) (λ input work told m seen unread. (record { stack = refl; refusal = refl }, none_before work input told m seen unread))

-- a refusal is the answer
pub is_refused : (why : Report) (ended : Ended) → ending_of (status_of why) ≡ Told → ended ≡ reported 0 why → EndsEarly (refused why) ended
is_refused why ended told_so e =
    let matches : EndsEarly (refused why) (reported 0 why) =
    λ input work told m seen unread.
    let answered : EndsBy Told (refused why input) work (still told m) seen input (reported 0 why) = (record { status = refl; ticks = refl; stack = refl; refusal = refl; output = grows_nothing told.taken; rest = refl }, none_at_all why input work told m) in
    subst (λ (k : Ending). EndsBy k (refused why input) work (still told m) seen input (reported 0 why)) (sym told_so) answered in
    subst (λ (x : Ended). EndsEarly (refused why) x) (sym e) matches

-- a run that was not begun on any input, for want of memory
pub no_memory_before_run :
    (answer : List ℕ → Answer) (work : List ℕ → Work) (told : SinkTold) (m : ℕ) (seen : InputSeen) (ended : Ended) (input : List ℕ) → ended ≡ bare 12 0 → IsUnread seen → UnreadBy (work input) seen → EndsOn answer work (still told m) seen ended input input
no_memory_before_run answer work told m seen ended input e none unread = record { ends = no_memory answer ended e input (work input) told m seen none; unread = unread }
