-- The run of an image that carries a program is the program's.
use Rattle.std.proofs.Common.{◌≡◌, ◌-◌, ℕ, List, [], None, Some, inl, inr, refl, ap, subst, ◌∙◌}
use Rattle.std.specs.Prelude.{◌⊎◌, slice_get}
use Rattle.std.specs.declared.option.Option.{Option}
use Rattle.std.specs.Option.{option_map}
use Rattle.fac_lang.specs.declared.program.Program.{Program}
use Rattle.fac_lang.specs.declared.program.WordDef.{WordDef}
use Rattle.fac_lang.specs.Phrases.{Value}
use Rattle.fac_lang.specs.World.{World, State, Error}
use Rattle.fac_lang.specs.Eval.{Result as Run, Done, Failed, Spent, Stuck}
use Rattle.fac_code.specs.declared.image.Image.{Image}
use Rattle.fac_code.specs.declared.image.WordRow.{WordRow}
use Rattle.fac_code.specs.Images.{tables_of}
use Rattle.fac_code.specs.ImageNames.{text_of}
use Rattle.fac_store.specs.MachineValues.{MValue}
use Rattle.fac_vm.specs.declared.machine.StopKind.TheVariants as stop
use Rattle.fac_machine.specs.Machine.{Machine, End, done, failed, spent, trap, Ends}
use Rattle.fac_machine.specs.MachineLaws.{RunsHaveOneEnd}
use Rattle.fac_vm.specs.Runs.{begun}
use Rattle.fac_carry.specs.Carries.{image_full_name, full_name_of}
use Rattle.fac_carry.specs.MachineView.{template_phrases, state_view, world_view, error_view, option_view}
use Rattle.fac_carry.specs.PrintedForms.{PrintedFormsAreEqual}
use Rattle.fac_notes.specs.declared.report.Report.{Report}
use Rattle.fac_notes.specs.declared.report.Report.TheVariants as report
use Rattle.fac_notes.specs.WordNames.{defined_or, defined_as, name_in, image_word_name}
use Rattle.fac_tool.specs.declared.ended.Ended.{Ended}
use Rattle.fac_notes.specs.Told.{shown, error_report}
use Rattle.fac_tool.specs.Answer.{Answer, meaning, of_run, run_answer}
use Rattle.fac_tool.specs.SeenObjects.{SinkSeen, InputSeen}
use Rattle.fac_tool.specs.Ends.{Ending, Told, Usage, FileFault, InputFault, WriteFault, TooLong, NoMemory, ending_of, Matches, EndsBy, EndsAs, WantedInRun, WantedBehind, runs, StopsWithin}
use Rattle.fac_tool.specs.Executed.{fresh_held, image_shown, of_end, ExecutesWithin, WantedIn, ExecutesBy, Executes}
use Rattle.fac_tool.specs.inner.Stops.{Carried, first_state}
use Rattle.fac_tool.specs.inner.StepEnds.{EndsRun}
use Rattle.fac_tool.specs.inner.ImageSteps.{RunsImage}
use Rattle.fac_tool.proofs.EndLemmas.{text_same, stack_same}
use Rattle.fac_tool.proofs.StopLemmas.{EndsSame, begins, same_end, within}
use Rattle.fac_tool.proofs.PieceLemmas.{run_pieces, front_pieces, asked_in_tick, fault_left, wanted_at}

-- the vocabulary and the name of a word, by its row in an image and as it is defined
abbrev row_pair : Image → WordRow → List ℕ × List ℕ
row_pair M r = (text_of (tables_of M) r.vocab, text_of (tables_of M) r.name)

abbrev definition_pair : WordDef → List ℕ × List ℕ
definition_pair d = (d.name.vocab, d.name.name)

abbrev row_name : Image → Option WordRow → Option (List ℕ × List ℕ)
row_name M r = elim r [ Some r ↦ Some (row_pair M r) | None ↦ None ]

abbrev definition_name : Option WordDef → Option (List ℕ × List ℕ)
definition_name d = elim d [ Some d ↦ Some (definition_pair d) | None ↦ None ]

-- a word has the same name in both
named_by : (M : Image) (w : ℕ) (r : Option WordRow) (d : Option WordDef) → row_name M r ≡ definition_name d → name_in M w r ≡ defined_or w d
named_by M w (Some r) (Some d) e =
    let same : row_pair M r ≡ definition_pair d = cc in λ i. record { vocab = (same i).0; name = (same i).1 }
named_by M w (Some r) None e = absurd (cc)
named_by M w None (Some d) e = absurd (cc)
named_by M w None None e = refl

named_same : (P : Program) (M : Image) → ((w : ℕ) → image_full_name M w ≡ full_name_of P w) → (w : ℕ) → image_word_name M w ≡ defined_as P w
named_same P M names w = named_by M w (slice_get M.words w) (slice_get P.words w) (names w)

module _ (law : PrintedFormsAreEqual) (P : Program) (M : Image) (carries : Carried P M) where
  -- the report of an error is the same
  value_same : (w : World MValue) (v : Option MValue) → option_map (image_shown M w) v ≡ option_map (shown P (world_view (template_phrases P) w)) (option_view (template_phrases P) v)
  value_same w None = refl
  value_same w (Some v) = ap Some (text_same law P M carries.carries.same_names w v)

  report_same :
      (w : World MValue) (e : Error MValue) →
      report.Error e.name (image_word_name M e.word) (option_map (image_shown M w) e.value) ≡ error_report P (world_view (template_phrases P) w) (error_view (template_phrases P) e)
  report_same w e =
      ap (λ n. report.Error e.name n (option_map (image_shown M w) e.value)) (named_same P M carries.carries.same_full_names e.word)
      ∙ ap (report.Error e.name (defined_as P e.word)) (value_same w e.value)

  -- the same end has the same answer
  answer_by : (budget : ℕ) (r : Run) (e : End) → EndsSame P r e → of_end M budget e ≡ of_run P budget r
  answer_by budget (Done st m) (done s left) same =
      let texts = stack_same law P M carries.carries.same_names s.world s.stack in
      let told : of_end M budget (done s left) ≡ of_run P budget (Done (state_view (template_phrases P) s.stack s.world) left) =
      ap (λ (ts : List (List ℕ)). record { status = 0; ticks = budget - left; stack = Some ts; refusal = None; output = s.world.output; left = s.world.input }) texts in
      told ∙ ap (λ (x : State Value). of_run P budget (Done x left)) same.0 ∙ ap (λ (n : ℕ). of_run P budget (Done st n)) same.1
  answer_by budget (Done st m) (failed x s left) same = absurd same
  answer_by budget (Done st m) (spent s) same = absurd same
  answer_by budget (Done st m) (trap y s left) same = absurd same
  answer_by budget (Failed x st m) (done s left) same = absurd same
  answer_by budget (Failed x st m) (failed e s left) same =
      let failing : ℕ → World Value → Error Value → Answer = λ n w x. record { status = 1; ticks = budget - n; stack = None; refusal = Some (error_report P w x); output = w.output; left = w.input } in
      let T = template_phrases P in
      let told : of_end M budget (failed e s left) ≡ failing left (world_view T s.world) (error_view T e) =
      ap (λ (why : Report). record { status = 1; ticks = budget - left; stack = None; refusal = Some why; output = s.world.output; left = s.world.input }) (report_same s.world e) in
      told ∙ ap (λ (n : ℕ). failing n (world_view T s.world) (error_view T e)) same.2 ∙ ap (λ (w : World Value). failing m w (error_view T e)) same.1 ∙ ap (failing m st.world) same.0
  answer_by budget (Failed x st m) (spent s) same = absurd same
  answer_by budget (Failed x st m) (trap y s left) same = absurd same
  answer_by budget (Spent st i) (done s left) same = absurd same
  answer_by budget (Spent st i) (failed y s left) same = absurd same
  answer_by budget (Spent st i) (spent s) same =
      ap (λ (w : World Value). record { status = 6; ticks = budget; stack = None; refusal = Some (report.Spent budget); output = w.output; left = w.input }) same
  answer_by budget (Spent st i) (trap y s left) same = absurd same
  answer_by budget Stuck (done s left) same = absurd same
  answer_by budget Stuck (failed y s left) same = absurd same
  answer_by budget Stuck (spent s) same = absurd same
  answer_by budget Stuck (trap y s left) same = absurd same

module _ (one_end : RunsHaveOneEnd) (law : PrintedFormsAreEqual) (P : Program) (M : Image) (carries : Carried P M) (budget : ℕ) (seen : InputSeen) (out : SinkSeen) (input left : List ℕ) where
  begin : begun M input (fresh_held M) ≡ first_state M input
  begin = begins M input (fresh_held M) refl refl refl

  same_answer : (e : End) → Ends M (begun M input (fresh_held M)) budget e → of_end M budget e ≡ run_answer P input budget
  same_answer e there = answer_by law P M carries budget (meaning P input budget) e (same_end one_end P M input budget carries e (subst (λ (s : Machine). Ends M s budget e) begin there))

  stops_within : (ticks : ℕ) → ExecutesWithin M budget input ticks out → StopsWithin P input budget ticks out
  stops_within ticks h = within one_end P M input budget (fresh_held M) ticks out carries begin h.within h.reaches

  wanted_in : (ticks : ℕ) → WantedIn M budget input left ticks out → WantedInRun P input left ticks out ⊎ WantedBehind (run_answer P input budget) left ticks out
  wanted_in ticks (inl at) = inl (wanted_at one_end P M input carries (fresh_held M) begin ticks out left at)
  wanted_in ticks (inr behind) = inr (subst (λ (a : Answer). WantedBehind a left ticks out) (same_answer behind.0 behind.1) behind.2)

  ends_by : (ended : Ended) (k : Ending) → ExecutesBy k M budget input left seen out ended → EndsBy k (run_answer P input budget) (runs P input budget) out seen left ended
  ends_by ended Told h = (
    subst (λ (a : Answer). Matches a out left ended) (same_answer h.0 h.1) h.2,
    run_pieces one_end P M input carries (fresh_held M) begin ended.ticks out stop.Done [] h.3 h.3.only_at_fault,
  )
  ends_by ended WriteFault h = (
    h.0,
    h.1,
    record {
      stops = stops_within ended.ticks h.2;
      front = front_pieces one_end P M input carries (fresh_held M) begin ended.ticks out h.3;
      rest = fault_left one_end P M input carries (fresh_held M) begin h.4.0 ended.ticks left h.4.1;
    },
  )
  ends_by ended InputFault h = (
    h.0,
    h.1,
    record {
      stops = stops_within ended.ticks h.2;
      asks = asked_in_tick one_end P M input carries (fresh_held M) begin h.4.0 ended.ticks out left h.4.1;
      pieces = run_pieces one_end P M input carries (fresh_held M) begin ended.ticks out stop.InputFault [] h.3 h.3.only_at_fault;
    },
  )
  ends_by ended NoMemory h = (
    h.0,
    record {
      stops = stops_within ended.ticks h.1;
      pieces = run_pieces one_end P M input carries (fresh_held M) begin ended.ticks out stop.Memory [] h.2 h.2.only_at_fault;
      wanted = inr (wanted_in ended.ticks h.3);
    },
  )
  ends_by ended Usage h = h
  ends_by ended FileFault h = h
  ends_by ended TooLong h = h

  -- what `exec` answers is what `run` does
  pub executes_as_run : (ended : Ended) → Executes M budget input left seen out ended → EndsAs (run_answer P input budget) (runs P input budget) out seen left ended
  executes_as_run ended h = ends_by ended (ending_of ended.status) h

  pub runs_as_program : (ended : Ended) → RunsImage M budget seen out ended input left → EndsRun P budget out seen ended input left
  runs_as_program ended h = record { within = stops_within ended.ticks h.within; ends = executes_as_run ended h.ends }
