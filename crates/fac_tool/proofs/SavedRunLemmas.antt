-- The code which `build` saves runs as its source.
use Rattle.std.proofs.Common.{◌≡◌, ℕ, List, None, Some, Ok, Err, Result, inl, inr, refl, ap, sym, subst}
use Rattle.std.specs.Prelude.{◌⊎◌}
use Rattle.std.specs.declared.option.Option.{Option}
use Rattle.fac_io.specs.Told.{TookNothing}
use Rattle.fac_lang.specs.declared.program.Program.{Program}
use Rattle.fac_lang.specs.Meaning.{start}
use Rattle.fac_code.specs.declared.image.Image.{Image}
use Rattle.fac_spelling.specs.Formats.{Exact}
use Rattle.fac_spelling.specs.Whole.{Spells, IsRefused}
use Rattle.fac_spelling.proofs.WholeLaws.{spelled_once}
use Rattle.fac_bytes.specs.ImageBytes.{image as image_format, are_image, parts_of}
use Rattle.fac_bytes.specs.Laws.{OneImage, EncodedIsDecoded}
use Rattle.fac_source.specs.declared.refusal.NameFault.{NameFault}
use Rattle.fac_names.specs.Resolution.{resolved}
use Rattle.fac_check.specs.Promises.{IsSafe, SafeAreNotStuck}
use Rattle.fac_check.specs.Verdicts.{verdict}
use Rattle.fac_check.specs.declared.refusal.Broken.{Broken}
use Rattle.fac_carry.specs.PrintedForms.{PrintedFormsAreEqual}
use Rattle.fac_machine.specs.MachineLaws.{RunsHaveOneEnd}
use Rattle.fac_tool.specs.declared.ended.Ended.{Ended}
use Rattle.fac_tool.specs.Answer.{Answer, OnAccepted, Sources, no_tokens_in, no_tree_in, trees, answer_on, accepted, accepted_of, if_accepted, on_resolved, on_verdict, own_definitions, run_answer}
use Rattle.fac_tool.specs.SeenObjects.{SinkSeen, InputSeen, OnInput, IsUnread}
use Rattle.fac_tool.specs.Ends.{ending_of, EndsBy, EndsAs, EndsOn, UnreadBy, Work, MemoryInRun, runs, work_of}
use Rattle.fac_tool.specs.Saved.{CarriesSaved}
use Rattle.fac_tool.specs.Executed.{BadImage, NoImageMemory, DoesOnBytes, not_decoded, decoded, executed, Executes}
use Rattle.fac_tool.specs.Plans.{running}
use Rattle.fac_tool.specs.SavedRuns.{SavedCodeRunsAsItsSource}
use Rattle.fac_tool.specs.inner.Stops.{Carried}
use Rattle.fac_tool.proofs.InputLemmas.{onward, on_unread}
use Rattle.fac_tool.proofs.EarlyEnds.{memory_first}
use Rattle.fac_tool.proofs.CarriedRuns.{executes_as_run}

-- what is done with an accepted program is the answer of its sources
verdict_answer : (on : OnAccepted) (count : ℕ) (Q P : Program) (v : Option (ℕ × Broken)) (input : List ℕ) → if_accepted Q v ≡ Some P → on_verdict on count Q v input ≡ on count P input
verdict_answer on count Q P (Some first) input e = absurd (cc)
verdict_answer on count Q P None input e = let same : Q ≡ P = cc in ap (λ (x : Program). on count x input) same

resolved_answer : (on : OnAccepted) (count : ℕ) (r : Result Program NameFault) (P : Program) (input : List ℕ) → accepted_of r ≡ Some P → on_resolved on count r input ≡ on count P input
resolved_answer on count (Err fault) P input e = absurd (cc)
resolved_answer on count (Ok Q) P input e = verdict_answer on count Q P (verdict Q 0) input e

accepted_answer : (budget : ℕ) (sources : Sources) (P : Program) (input : List ℕ) → accepted sources ≡ Some P → answer_on (running budget).answer sources input ≡ run_answer P input budget
accepted_answer budget (no_tokens_in file at why) P input e = absurd (cc)
accepted_answer budget (no_tree_in file at why) P input e = absurd (cc)
accepted_answer budget (trees files) P input e = resolved_answer (running budget).answer (own_definitions files) (resolved files) P input e

-- bytes of an image aren't refused
spelled_not_refused : Exact image_format → EncodedIsDecoded → (bytes : List ℕ) (M : Image) (at : ℕ) → Spells image_format bytes (parts_of M) → IsRefused image_format are_image bytes at → ⊥
spelled_not_refused exact decoded_back bytes M at spelled (inl broken) = broken.none (parts_of M) spelled.fits spelled.is
spelled_not_refused exact decoded_back bytes M at spelled (inr breaks) =
    let same = spelled_once image_format exact bytes breaks.value (parts_of M) (record { fits = breaks.fits; is = breaks.is }) spelled in
    let kept = (decoded_back bytes M spelled).kept in
    let broken = breaks.broken in
    let other = ap are_image same in
    absurd (cc)

module _ (sources : Sources) (P : Program) (budget : ℕ) (seen : InputSeen) (out : SinkSeen) (ended : Ended) (is : accepted sources ≡ Some P) where
  -- what `run` does on these sources
  abbrev RunsSources : List ℕ → List ℕ → Type 0
  RunsSources input left = EndsOn (answer_on (running budget).answer sources) (work_of (running budget).work (accepted sources)) out seen ended input left

  as_run : (input left : List ℕ) → EndsAs (run_answer P input budget) (runs P input budget) out seen left ended → RunsSources input left
  as_run input left h =
      let answer = accepted_answer budget sources P input is in
      let work : work_of (running budget).work (accepted sources) input ≡ runs P input budget = ap (λ (a : Option Program). work_of (running budget).work a input) is in
      record {
        ends =
            subst (λ (a : Answer). EndsAs a (work_of (running budget).work (accepted sources) input) out seen left ended) (sym answer)
            (subst (λ (w : Work). EndsAs (run_answer P input budget) w out seen left ended) (sym work) h);
        unread = subst (λ (w : Work). UnreadBy w seen) (sym work) tt;
      }

  -- memory was wanted before anything was run
  no_memory : NoImageMemory ended → TookNothing out.before out.now → IsUnread seen → OnInput seen RunsSources
  no_memory memory none unread = on_unread seen unread (λ input. as_run input input
      (subst (λ (s : ℕ). EndsBy (ending_of s) (run_answer P input budget) (runs P input budget) out seen input ended) (sym memory.status)
      (memory.bare, subst (λ (t : ℕ). MemoryInRun P input budget input t seen out) (sym memory.ticks) (memory_first P input budget input seen out unread none))))

  module _ (one_end : RunsHaveOneEnd) (law : PrintedFormsAreEqual) (never : SafeAreNotStuck) (one : OneImage) (exact : Exact image_format) (decoded_back : EncodedIsDecoded) (safe : IsSafe P 0) (bytes : List ℕ) (saved : CarriesSaved P bytes) where
    carried : Carried P saved.image
    carried = record { carries = saved.carries; not_stuck = λ input n. never P 0 safe n (start P input) refl (safe.begins input) }

    no_image : BadImage bytes ended ⊎ NoImageMemory ended → TookNothing out.before out.now → IsUnread seen → OnInput seen RunsSources
    no_image (inl bad) none unread = absurd (spelled_not_refused exact decoded_back bytes saved.image bad.at saved.spelled bad.refused)
    no_image (inr memory) none unread = no_memory memory none unread

    runs_saved : DoesOnBytes (executed budget) bytes seen out ended → OnInput seen RunsSources
    runs_saved (not_decoded none unread) = no_image none.why none.out_is unread
    runs_saved (decoded M spelled on) =
        let same = one bytes M saved.image spelled saved.spelled in
        onward (λ input left h. as_run input left
        (executes_as_run one_end law P saved.image carried budget seen out input left ended (subst (λ (N : Image). Executes N budget input left seen out ended) same h))) on

-- the law
pub saved_runs : RunsHaveOneEnd → PrintedFormsAreEqual → SafeAreNotStuck → OneImage → Exact image_format → EncodedIsDecoded → SavedCodeRunsAsItsSource
saved_runs one_end law never one exact decoded_back =
    λ sources P bytes budget seen out ended is safe saved does. runs_saved sources P budget seen out ended is one_end law never one exact decoded_back safe bytes saved does
