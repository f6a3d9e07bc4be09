-- A call of `exec` behind a call of `build`.
use Rattle.std.proofs.Common.{◌≡◌, ◌⊎◌, ℕ, List, [], ◌∷◌, None, Some, Result, Ok, Err, inl, inr, refl, ap, sym, subst, ◌∙◌, arith}
use Rattle.std.specs.Prelude.{map, IfSome}
use Rattle.std.specs.declared.option.Option.{Option}
use Rattle.fac_base.specs.declared.limits.TheConstants.{MOST_IMAGE_BYTES}
use Rattle.fac_io.specs.Names.{Held, Holds}
use Rattle.fac_io.specs.Told.{Told as WasTold, Stays}
use Rattle.fac_lang.specs.declared.program.Program.{Program}
use Rattle.fac_check.specs.Promises.{IsSafe}
use Rattle.fac_check.specs.Verdicts.{verdict}
use Rattle.fac_check.specs.declared.refusal.Broken.{Broken}
use Rattle.fac_source.specs.declared.refusal.NameFault.{NameFault}
use Rattle.fac_names.specs.Resolution.{resolved}
use Rattle.fac_command.specs.Command.{Command, Request, work}
use Rattle.fac_command.specs.Command as command
use Rattle.fac_tool.specs.declared.ended.Ended.{Ended}
use Rattle.fac_tool.specs.Answer.{Sources, no_tokens_in, no_tree_in, trees, answer_on, on_resolved, on_verdict, own_definitions, come_to, accepted, limit}
use Rattle.fac_tool.specs.SeenObjects.{SinkSeen, FilesSeen, InputSeen}
use Rattle.fac_tool.specs.Ends.{ending_of, EndsBy, work_of}
use Rattle.fac_tool.specs.Loads.{LoadsEnd}
use Rattle.fac_tool.specs.Saved.{CarriesSaved, Saves, since}
use Rattle.fac_tool.specs.Executed.{executed}
use Rattle.fac_tool.specs.Plans.{DoesOnSources, on_sources, on_image, running, saving}
use Rattle.fac_tool.specs.Answers.{AnswersBy, Loaded, NoTexts, ReachesBy, Works, numbered_names}
use Rattle.fac_tool.specs.SavedRuns.{SavedCodeRunsAsItsSource, ExecAfterBuildIsRun}
use Rattle.fac_tool.proofs.Causes.{status-Tells}

-- without a save `build` never succeeds
verdict_fails : (image : List ℕ) (count : ℕ) (P : Program) (v : Option (ℕ × Broken)) (input : List ℕ) → (on_verdict (saving image).answer count P v input).status ≡ 0 → ⊥
verdict_fails image count P (Some first) input e = omega (arith, e)
verdict_fails image count P None input e = omega (arith, e)

resolved_fails : (image : List ℕ) (count : ℕ) (r : Result Program NameFault) (input : List ℕ) → (on_resolved (saving image).answer count r input).status ≡ 0 → ⊥
resolved_fails image count (Err fault) input e = omega (arith, e)
resolved_fails image count (Ok P) input e = verdict_fails image count P (verdict P 0) input e

sources_fail : (image : List ℕ) (sources : Sources) (input : List ℕ) → (answer_on (saving image).answer sources input).status ≡ 0 → ⊥
sources_fail image (no_tokens_in file at why) input e = omega (arith, e)
sources_fail image (no_tree_in file at why) input e = omega (arith, e)
sources_fail image (trees files) input e = resolved_fails image (own_definitions files) (resolved files) input e

loads_fail : (names : List (List ℕ)) (most : ℕ) (files : FilesSeen) (ended : Ended) → LoadsEnd names most files ended → ended.status ≡ 0 → ⊥
loads_fail names most files ended (inl none) e = omega (arith, none.status, e)
loads_fail names most files ended (inr (inl fails)) e = omega (arith, fails.status, e)
loads_fail names most files ended (inr (inr long)) e = omega (arith, long.status, e)

-- the bytes that were saved under a name are what the files hold there then
record BytesHeld (P : Program) (image : List ℕ) (held : Held) : Type 0 where
  bytes : List ℕ
  carries : CarriesSaved P bytes
  there : held image ≡ Some bytes

held_then : (image bytes : List ℕ) (before mid now : Option Held) (old held : Held) → before ≡ Some old → now ≡ Some held → Stays before mid → WasTold mid now (Holds image bytes) → held image ≡ Some bytes
held_then image bytes None mid now old held is then stays h = absurd (cc)
held_then image bytes (Some f) None now old held is then stays h = absurd stays
held_then image bytes (Some f) (Some g) None old held is then stays h = absurd h
held_then image bytes (Some f) (Some g) (Some k) old held is then stays h = let same : k ≡ held = cc in subst (λ (x : Held). x image ≡ Some bytes) same h.held

saved_bytes : (P : Program) (image : List ℕ) (before mid : Option Held) (files : FilesSeen) (ended : Ended) (old held : Held) → files.held_before ≡ mid → before ≡ Some old → files.held_now ≡ Some held → Stays before mid → Saves P image files ended → ended.status ≡ 0 → BytesHeld P image held
saved_bytes P image before mid files ended old held at is then stays (inl saved) e = record {
  bytes = saved.bytes;
  carries = saved.built.carries;
  there = held_then image saved.bytes before files.held_before files.held_now old held is then (subst (λ (m : Option Held). Stays before m) (sym at) stays) saved.held;
}
saved_bytes P image before mid files ended old held at is then stays (inr (inl fails)) e = absurd (omega (arith, fails.status, e))
saved_bytes P image before mid files ended old held at is then stays (inr (inr none)) e = absurd (omega (arith, none.status, e))

-- what a call of `build` that succeeded loaded and saved
record Built (names : List (List ℕ)) (image : List ℕ) (built : FilesSeen) (unread : InputSeen) (unwritten : SinkSeen) (reached : Ended) (held : Held) : Type 0 where
  loaded : Loaded (on_sources names (saving image)) built unread unwritten reached
  P : Program
  is : accepted (come_to loaded.does.sources) ≡ Some P
  saved : BytesHeld P image held

module _ (names : List (List ℕ)) (image : List ℕ) (built : FilesSeen) (unread : InputSeen) (unwritten : SinkSeen) (reached : Ended) (old held : Held) (is : built.held_before ≡ Some old) (then : built.held_now ≡ Some held) (done : reached.status ≡ 0) where
  was_built : ReachesBy (on_sources names (saving image)) built unread unwritten reached → Built names image built unread unwritten reached held
  was_built (inl none) = absurd (loads_fail names limit built reached none.ends done)
  was_built (inr b) =
      let sources = come_to b.does.sources in
      elim b.does.ends [
        | inl answers ↦
            let ends = subst (λ (s : ℕ). EndsBy (ending_of s) (answer_on (saving image).answer sources answers.ends.input) (work_of (saving image).work (accepted sources) answers.ends.input) unwritten unread answers.ends.left reached) done answers.ends.holds.ends in
            absurd (sources_fail image sources answers.ends.input (sym ends.0.status ∙ done))
        | inr saves ↦ record {
          loaded = b;
          P = saves.P;
          is = saves.is;
          saved = saved_bytes saves.P image built.held_before b.loaded.held (since built b.loaded) reached old held refl is then b.loads.held saves.saves done;
        }
      ]

-- one name holds one text
one_text : (image bytes : List ℕ) (texts : List (List ℕ)) (held : Held) (before : Option Held) → before ≡ Some held → texts ≡ bytes ∷ [] → IfSome before (λ files. map files (image ∷ []) ≡ map Some texts) → held image ≡ Some bytes
one_text image bytes texts held None is one h = absurd (cc)
one_text image bytes texts held (Some f) is one h =
    let same : f ≡ held = cc in
    let row : f image ∷ [] ≡ Some bytes ∷ [] = h ∙ ap (map Some) one in
    let first : f image ≡ Some bytes = cc in
    subst (λ (x : Held). x image ≡ Some bytes) same first

same_bytes : (bytes other : List ℕ) (o : Option (List ℕ)) → o ≡ Some bytes → o ≡ Some other → bytes ≡ other
same_bytes bytes other o e f = let both : Some bytes ≡ Some other = sym e ∙ f in cc

safe_of : (o : Option Program) (P : Program) → o ≡ Some P → IfSome o (λ Q. IsSafe Q 0) → IsSafe P 0
safe_of None P e h = absurd (cc)
safe_of (Some Q) P e h = let same : Q ≡ P = cc in subst (λ (R : Program). IsSafe R 0) same h

module _ (law : SavedCodeRunsAsItsSource) (names : List (List ℕ)) (image : List ℕ) (budget : ℕ) (built files : FilesSeen) (unread seen : InputSeen) (unwritten out : SinkSeen) (saved reached : Ended) (held : Held) (same : files.held_before ≡ Some held) (b : Built names image built unread unwritten saved held) where
  does_as_run : (e : Loaded (on_image image (executed budget)) files seen out reached) → DoesOnSources (running budget) b.loaded.texts (since files e.loaded) seen out reached
  does_as_run e =
      let bytes = same_bytes e.does.bytes b.saved.bytes (held image) (one_text image e.does.bytes e.texts held files.held_before same e.does.is e.loads.told) b.saved.there in
      let carries = subst (λ (bs : List ℕ). CarriesSaved b.P bs) (sym bytes) b.saved.carries in
      let safe = safe_of (accepted (come_to b.loaded.does.sources)) b.P b.is b.loaded.does.sound in
      record {
        sources = b.loaded.does.sources;
        are_read = b.loaded.does.are_read;
        sound = b.loaded.does.sound;
        ends = inl (record { kept = e.does.kept; ends = law (come_to b.loaded.does.sources) b.P e.does.bytes budget seen out reached b.is safe carries e.does.does });
      }

  ends_as_run : ReachesBy (on_image image (executed budget)) files seen out reached →
      NoTexts (image ∷ []) MOST_IMAGE_BYTES files seen out reached ⊎ ((mid : _) × DoesOnSources (running budget) b.loaded.texts (since files mid) seen out reached)
  ends_as_run (inl none) = inl none
  ends_as_run (inr e) = inr (e.loaded, does_as_run e)

works_of : (o : Option Request) (c : Command) (files : FilesSeen) (seen : InputSeen) (out notes : SinkSeen) (ended : Ended) → o ≡ Some (work c) → AnswersBy o files seen out notes ended → Works c files seen out notes ended
works_of o c files seen out notes ended e h = subst (λ (x : Option Request). AnswersBy x files seen out notes ended) e h

-- the law
pub exec_runs : SavedCodeRunsAsItsSource → ExecAfterBuildIsRun
exec_runs law names image budget first second built files unread seen unwritten first_notes out notes saved ended old held build exec is then same one done two =
    let a = works_of _ (command.build names image) built unread unwritten first_notes saved build one in
    let b = works_of _ (command.exec budget image) files seen out notes ended exec two in
    let zero = status-Tells 0 (numbered_names names) a.0 first_notes saved (omega arith) (omega arith) a.2 done in
    let made = was_built names image built unread unwritten a.0 old held is then zero a.1.ending in
    record {
      texts = made.loaded.texts;
      loaded = made.loaded.loaded;
      loads = made.loaded.loads;
      reached = b.0;
      ending = ends_as_run law names image budget built files unread seen unwritten out a.0 b.0 held same made b.1.ending;
      tells = b.2;
    }
