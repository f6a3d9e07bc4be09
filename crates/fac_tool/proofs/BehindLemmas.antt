-- What is written behind a run.
use Rattle.std.proofs.Common.{◌≡◌, ◌≤◌, ℕ, List, [], ◌++◌, Some, None, inl, inr, refl, ap, sym, subst, ◌∙◌, arith}
use Rattle.std.proofs.lemmas.List.{append-nil, append_assoc}
use Rattle.std.specs.Prelude.{take, map, reverse}
use Rattle.std.specs.declared.option.Option.{Option}
use Rattle.fac_io.specs.Faults.{Rose}
use Rattle.fac_io.specs.Told.{Grows, SinkTold, one_piece, TookWhole}
use Rattle.fac_lang.specs.declared.program.Program.{Program}
use Rattle.fac_lang.specs.Phrases.{Value}
use Rattle.fac_lang.specs.World.{State}
use Rattle.fac_lang.specs.Eval.{Result as Run, Done, Failed, Spent, Stuck}
use Rattle.fac_lines.specs.Channels.{ChannelsTold, IsUnread as AreUnread}
use Rattle.fac_locals.specs.declared.closing.Closed.{Closed}
use Rattle.fac_tool.specs.declared.ended.Ended.{Ended}
use Rattle.fac_notes.specs.Told.{shown}
use Rattle.fac_tool.specs.Answer.{Answer, Behind, meaning, of_run, run_answer, written_answer, lines_if, with_lines}
use Rattle.fac_tool.specs.SeenObjects.{SinkSeen, InputSeen, OnInput, input_seen, output_seen}
use Rattle.fac_tool.specs.Answers.{NotePart}
use Rattle.fac_tool.specs.Ends.{Ending, Told, Usage, FileFault, InputFault, WriteFault, TooLong, NoMemory, ending_of, EndsBy, EndsAs, Matches, runs, runs_and_writes, StopsWithin, RunPieces, FaultBehindRun, EndsOn}
use Rattle.fac_tool.specs.inner.StepEnds.{bare, EndsRun}
use Rattle.fac_tool.specs.inner.WrittenBehind.{WritesBy, WritesBehind}
use Rattle.fac_tool.specs.inner.Stops.{StandsForSafe}
use Rattle.fac_tool.proofs.InputLemmas.{onward, same_input}

-- a sink from one state to another
abbrev sink : SinkTold → SinkTold → ℕ → ℕ → SinkSeen
sink before now faults faults' = record { before = before; now = now; faults_before = faults; faults_now = faults' }

grows_on : {A : Type 0} (old mid new : Option (List A)) (first then all : List A) → first ++ then ≡ all → Grows old mid first → Grows mid new then → Grows old new all
grows_on None mid new first then all e g h = tt
grows_on (Some xs) None new first then all e g h = absurd g
grows_on (Some xs) (Some ys) None first then all e g h = absurd h
grows_on (Some xs) (Some ys) (Some zs) first then all e g h = h ∙ ap (λ (l : List _). l ++ then) g ∙ append_assoc xs first then ∙ ap (λ (l : List _). xs ++ l) e

-- lines come behind the pieces of the run
pieces_on : (P : Program) (input : List ℕ) (ticks : ℕ) (last : List ℕ) (b m n : SinkTold) (i j k : ℕ) → RunPieces P input ticks [] (sink b m i j) → TookWhole m n last → RunPieces P input ticks last (sink b n i k)
pieces_on P input ticks last b m n i j k run took = record {
  wrote_in = run.wrote_in;
  within = run.within;
  taken = grows_on b.taken m.taken n.taken _ last _ (ap (λ (l : List ℕ). l ++ last) (append-nil _)) run.taken took.taken;
  pieces = grows_on b.pieces m.pieces n.pieces _ (one_piece last) _ (ap (λ (l : List (List ℕ)). l ++ one_piece last) (append-nil _)) run.pieces took.pieces;
}

-- an ending without a stack has no lines
no_lines : (behind : Behind) (P : Program) (input : List ℕ) (budget : ℕ) (answer : Answer) (out : SinkSeen) (seen : InputSeen) (left : List ℕ) (reached : Ended) (e : Ending) → reached.stack ≡ None →
    EndsBy e answer (runs P input budget) out seen left reached → EndsBy e (with_lines behind answer) (runs_and_writes behind P input budget) out seen left reached
no_lines behind P input budget answer out seen left reached Told none h =
    let empty : answer.stack ≡ None = sym h.0.stack ∙ none in
    let same : answer.output ≡ answer.output ++ lines_if behind answer.ticks answer.stack = sym (ap (λ (s : Option (List (List ℕ))). answer.output ++ lines_if behind answer.ticks s) empty ∙ append-nil answer.output) in (
      record { status = h.0.status; ticks = h.0.ticks; stack = h.0.stack; refusal = h.0.refusal; output = subst (λ (xs : List ℕ). Grows out.before.taken out.now.taken xs) same h.0.output; rest = h.0.rest },
      subst (λ (s : Option (List (List ℕ))). RunPieces P input reached.ticks (lines_if behind answer.ticks s) out) (sym empty) h.1,
    )
no_lines behind P input budget answer out seen left reached Usage none h = h
no_lines behind P input budget answer out seen left reached FileFault none h = h
no_lines behind P input budget answer out seen left reached InputFault none h = h
no_lines behind P input budget answer out seen left reached WriteFault none h = (h.0, h.1, inl h.2)
no_lines behind P input budget answer out seen left reached TooLong none h = h
no_lines behind P input budget answer out seen left reached NoMemory none h = h

-- one with a stack is that of a run which is done
pub has_stack :
    (P : Program) (input : List ℕ) (budget : ℕ) (answer : Answer) (out : SinkSeen) (seen : InputSeen) (left : List ℕ) (reached : Ended) (texts : List (List ℕ)) (e : Ending) →
    reached.stack ≡ Some texts → EndsBy e answer (runs P input budget) out seen left reached → (e ≡ Told) × Matches answer out left reached × RunPieces P input reached.ticks [] out
has_stack P input budget answer out seen left reached texts Told some h = (refl, h.0, h.1)
has_stack P input budget answer out seen left reached texts Usage some h = absurd h
has_stack P input budget answer out seen left reached texts FileFault some h = absurd h
has_stack P input budget answer out seen left reached texts InputFault some h = let none = h.1.stack in absurd (cc)
has_stack P input budget answer out seen left reached texts WriteFault some h = let none = h.1.stack in absurd (cc)
has_stack P input budget answer out seen left reached texts TooLong some h = absurd h
has_stack P input budget answer out seen left reached texts NoMemory some h = let none = h.0.stack in absurd (cc)

-- its lines are written whole
writes_whole :
    (behind : Behind) (P : Program) (input : List ℕ) (budget : ℕ) (answer : Answer) (b m n : SinkTold) (i j k : ℕ) (seen : InputSeen) (left : List ℕ) (reached : Ended) (texts : List (List ℕ)) → reached.stack ≡ Some texts →
    Matches answer (sink b m i j) left reached → RunPieces P input reached.ticks [] (sink b m i j) → TookWhole m n (behind reached.ticks texts) → EndsBy Told (with_lines behind answer) (runs_and_writes behind P input budget) (sink b n i k) seen left reached
writes_whole behind P input budget answer b m n i j k seen left reached texts some h pieces took =
    let there : answer.stack ≡ Some texts = sym h.stack ∙ some in
    let lines : behind reached.ticks texts ≡ lines_if behind answer.ticks answer.stack = ap (λ (t : ℕ). behind t texts) h.ticks ∙ ap (lines_if behind answer.ticks) (sym there) in (
      record { status = h.status; ticks = h.ticks; stack = h.stack; refusal = h.refusal; output = grows_on b.taken m.taken n.taken answer.output (behind reached.ticks texts) _ (ap (λ (l : List ℕ). answer.output ++ l) lines) h.output took.taken; rest = h.rest },
      subst (λ (l : List ℕ). RunPieces P input reached.ticks l (sink b n i k)) lines (pieces_on P input reached.ticks (behind reached.ticks texts) b m n i j k pieces took),
    )

-- a run whose answer has a stack is done
done_of :
    (P : Program) (budget : ℕ) (texts : List (List ℕ)) (r : Run) → (of_run P budget r).stack ≡ Some texts → (st : State Value) × (more : ℕ) × (r ≡ Done st more) × (texts ≡ map (shown P st.world) (reverse st.stack))
done_of P budget texts (Done st more) e = let same : map (shown P st.world) (reverse st.stack) ≡ texts = cc in (st, more, refl, sym same)
done_of P budget texts (Failed x st left) e = absurd (cc)
done_of P budget texts (Spent st i) e = absurd (cc)
done_of P budget texts Stuck e = absurd (cc)

-- the write of its lines fails
writes_front :
    (behind : Behind) (P : Program) (input : List ℕ) (budget : ℕ) (b m n : SinkTold) (i j k : ℕ) (left : List ℕ) (reached ended : Ended) (texts : List (List ℕ)) → reached.stack ≡ Some texts →
    Matches (run_answer P input budget) (sink b m i j) left reached → RunPieces P input reached.ticks [] (sink b m i j) → NotePart (behind reached.ticks texts) reached (sink m n j k) ended → FaultBehindRun behind P input budget left ended.ticks (sink b n i k)
writes_front behind P input budget b m n i j k left reached ended texts some h pieces part =
    let there : (run_answer P input budget).stack ≡ Some texts = sym h.stack ∙ some in
    let done = done_of P budget texts (meaning P input budget) there in
    let answer = ap (of_run P budget) done.2 in
    let front = part.note_is.front in
    record {
      state = done.0;
      more = done.1;
      done = done.2;
      used = part.ticks ∙ h.ticks ∙ ap (λ (a : Answer). a.ticks) answer;
      lines = behind reached.ticks texts;
      lines_are = ap (λ (t : ℕ). behind t texts) (sym part.ticks) ∙ ap (behind ended.ticks) done.3;
      some = part.some;
      count = part.note_is.count;
      most = part.note_is.most;
      taken = grows_on b.taken m.taken n.taken _ (take part.note_is.count (behind reached.ticks texts)) _ (ap (λ (a : Answer). a.output ++ take part.note_is.count (behind reached.ticks texts)) answer) h.output front.taken;
      pieces = subst (λ (t : ℕ). RunPieces P input t (take part.note_is.count (behind reached.ticks texts)) (sink b n i k)) (sym part.ticks) (pieces_on P input reached.ticks _ b m n i j k pieces front);
      rest = h.rest ∙ ap (λ (a : Answer). a.left) answer;
    }

rose_later : (i j k : ℕ) → i ≤ j → Rose j k → Rose i k
rose_later i j k le rose = omega (arith, le, rose)

writes_some :
    (behind : Behind) (P : Program) (input : List ℕ) (budget : ℕ) (b m n : SinkTold) (i j k : ℕ) (seen : InputSeen) (left : List ℕ) (reached ended : Ended) (texts : List (List ℕ)) → i ≤ j → reached.stack ≡ Some texts → StopsWithin P input budget reached.ticks (sink b m i j) →
    (ending_of reached.status ≡ Told) × Matches (run_answer P input budget) (sink b m i j) left reached × RunPieces P input reached.ticks [] (sink b m i j) → WritesBy behind (Some texts) reached (sink m n j k) ended → EndsAs (written_answer behind P input budget) (runs_and_writes behind P input budget) (sink b n i k) seen left ended
writes_some behind P input budget b m n i j k seen left reached ended texts le some within done (inl none) =
    let memory : EndsAs (written_answer behind P input budget) (runs_and_writes behind P input budget) (sink b m i j) seen left (bare 12 reached.ticks) = (record { stack = refl; refusal = refl }, record { stops = within; pieces = done.2; wanted = inr (inr (record { used = done.1.ticks; output = done.1.output; rest = done.1.rest })) }) in
    let told : n ≡ m = ap (λ (o : SinkSeen). o.now) none.0 in
    let count : k ≡ j = ap (λ (o : SinkSeen). o.faults_now) none.0 in
    subst (λ (x : Ended). EndsAs (written_answer behind P input budget) (runs_and_writes behind P input budget) (sink b n i k) seen left x) (sym none.1)
    (subst (λ (t : SinkTold). EndsAs (written_answer behind P input budget) (runs_and_writes behind P input budget) (sink b t i k) seen left (bare 12 reached.ticks)) (sym told)
    (subst (λ (f : ℕ). EndsAs (written_answer behind P input budget) (runs_and_writes behind P input budget) (sink b m i f) seen left (bare 12 reached.ticks)) (sym count) memory))
writes_some behind P input budget b m n i j k seen left reached ended texts le some within done (inr (inl whole)) =
    let ends = writes_whole behind P input budget (run_answer P input budget) b m n i j k seen left reached texts some done.1 done.2 whole.note_is in
    subst (λ (x : Ended). EndsAs (written_answer behind P input budget) (runs_and_writes behind P input budget) (sink b n i k) seen left x) (sym whole.same)
    (subst (λ (e : Ending). EndsBy e (written_answer behind P input budget) (runs_and_writes behind P input budget) (sink b n i k) seen left reached) (sym done.0) ends)
writes_some behind P input budget b m n i j k seen left reached ended texts le some within done (inr (inr part)) =
    let front = writes_front behind P input budget b m n i j k left reached ended texts some done.1 done.2 part in
    subst (λ (s : ℕ). EndsBy (ending_of s) (written_answer behind P input budget) (runs_and_writes behind P input budget) (sink b n i k) seen left ended) (sym part.status) (rose_later i j k le part.rose, part.bare, inr front)

writes_by :
    (behind : Behind) (P : Program) (input : List ℕ) (budget : ℕ) (b m n : SinkTold) (i j k : ℕ) (seen : InputSeen) (left : List ℕ) (reached ended : Ended) (s : Option (List (List ℕ))) → i ≤ j → reached.stack ≡ s → StopsWithin P input budget reached.ticks (sink b m i j) →
    EndsAs (run_answer P input budget) (runs P input budget) (sink b m i j) seen left reached → WritesBy behind s reached (sink m n j k) ended → EndsAs (written_answer behind P input budget) (runs_and_writes behind P input budget) (sink b n i k) seen left ended
writes_by behind P input budget b m n i j k seen left reached ended None le is within ends (still, same) =
    let told : n ≡ m = ap (λ (o : SinkSeen). o.now) still in
    let count : k ≡ j = ap (λ (o : SinkSeen). o.faults_now) still in
    subst (λ (x : Ended). EndsAs (written_answer behind P input budget) (runs_and_writes behind P input budget) (sink b n i k) seen left x) (sym same)
    (subst (λ (t : SinkTold). EndsAs (written_answer behind P input budget) (runs_and_writes behind P input budget) (sink b t i k) seen left reached) (sym told)
    (subst (λ (f : ℕ). EndsAs (written_answer behind P input budget) (runs_and_writes behind P input budget) (sink b m i f) seen left reached) (sym count) (no_lines behind P input budget (run_answer P input budget) (sink b m i j) seen left reached (ending_of reached.status) is ends)))
writes_by behind P input budget b m n i j k seen left reached ended (Some texts) le is within ends h =
    writes_some behind P input budget b m n i j k seen left reached ended texts le is within (has_stack P input budget (run_answer P input budget) (sink b m i j) seen left reached texts (ending_of reached.status) is ends) h

-- how a run ends behind which something is written
ends_written :
    (behind : Behind) (P : Program) (input : List ℕ) (budget : ℕ) (b m n : SinkTold) (i j k : ℕ) (seen : InputSeen) (left : List ℕ) (reached ended : Ended) → i ≤ j → StopsWithin P input budget reached.ticks (sink b m i j) →
    EndsAs (run_answer P input budget) (runs P input budget) (sink b m i j) seen left reached → WritesBehind behind reached (sink m n j k) ended → EndsAs (written_answer behind P input budget) (runs_and_writes behind P input budget) (sink b n i k) seen left ended
ends_written behind P input budget b m n i j k seen left reached ended le within ends h = writes_by behind P input budget b m n i j k seen left reached ended reached.stack le refl within ends h

-- likewise on one input, for each program that a closed one stands for
pub writes_on :
    (behind : Behind) (closed : Closed) (budget : ℕ) (old mid new : ChannelsTold) (reached ended : Ended) → AreUnread mid new → old.output_faults ≤ mid.output_faults →
    OnInput (input_seen old mid) (λ input left. (P : Program) → StandsForSafe closed P → EndsRun P budget (output_seen old mid) (input_seen old mid) reached input left) → WritesBehind behind reached (output_seen mid new) ended →
    OnInput (input_seen old new) (λ input left. (P : Program) → StandsForSafe closed P → EndsOn (λ bytes. written_answer behind P bytes budget) (λ bytes. runs_and_writes behind P bytes budget) (output_seen old new) (input_seen old new) ended input left)
writes_on behind closed budget old mid new reached ended unread later ran writes =
    let out = output_seen old new in
    subst (λ (seen : InputSeen). OnInput seen (λ input left. (P : Program) → StandsForSafe closed P → EndsOn (λ bytes. written_answer behind P bytes budget) (λ bytes. runs_and_writes behind P bytes budget) out seen ended input left)) (same_input old mid new unread)
    (onward (λ input left h P stands.
    let run = h P stands in
    record {
      ends = ends_written behind P input budget old.output mid.output new.output old.output_faults mid.output_faults new.output_faults (input_seen old mid) left reached ended later run.within run.ends writes;
      unread = tt;
    }) ran)
