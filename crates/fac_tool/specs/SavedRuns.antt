-- That the code which `build` saves runs as its source.
use Rattle.std.specs.Prelude.{◌≡◌, ◌⊎◌, ℕ, List, [], ◌∷◌, Some}
use Rattle.fac_base.specs.declared.limits.TheConstants.{MOST_IMAGE_BYTES}
use Rattle.fac_io.specs.Names.{Held}
use Rattle.fac_lang.specs.declared.program.Program.{Program}
use Rattle.fac_check.specs.Promises.{IsSafe}
use Rattle.fac_command.specs.Command.{request_of, work}
use Rattle.fac_command.specs.Command as command
use Rattle.fac_notes.specs.declared.status.TheConstants.{SUCCESS}
use Rattle.fac_tool.specs.declared.ended.Ended.{Ended}
use Rattle.fac_tool.specs.Answer.{Sources, answer_on, accepted, limit}
use Rattle.fac_tool.specs.SeenObjects.{SinkSeen, FilesSeen, InputSeen, OnInput}
use Rattle.fac_tool.specs.Loads.{LoadsGive}
use Rattle.fac_tool.specs.Answers.{Answers, NoTexts, Tells, numbered_names}
use Rattle.fac_tool.specs.Ends.{EndsOn, work_of}
use Rattle.fac_tool.specs.Saved.{CarriesSaved, FilesTold, until, since}
use Rattle.fac_tool.specs.Executed.{DoesOnBytes, executed}
use Rattle.fac_tool.specs.Plans.{DoesOnSources, running}

-- Whatever `exec` does with a budget on bytes that `build` may save for the program of some sources is what `run` does with this budget on these sources: on one
-- input it has the same status, ticks, stack or error, output in the same pieces and rest, or is cut short as a run may be.
abbrev pub SavedCodeRunsAsItsSource : Type 0
SavedCodeRunsAsItsSource =
    (sources : Sources) (P : Program) (bytes : List ℕ) (budget : ℕ) (seen : InputSeen) (out : SinkSeen) (ended : Ended) →
    accepted sources ≡ Some P → IsSafe P 0 → CarriesSaved P bytes → DoesOnBytes (executed budget) bytes seen out ended →
    OnInput seen (EndsOn (answer_on (running budget).answer sources) (work_of (running budget).work (accepted sources)) out seen ended)

-- What a call of `exec` answers on the image that a call of `build` saved: the image wasn't loaded, or what was done is what `run` does with this budget on the texts
-- that `build` loaded; and it is told so.
pub record AnswersAsRun (names : List (List ℕ)) (image : List ℕ) (budget : ℕ) (built files : FilesSeen) (seen : InputSeen) (out notes : SinkSeen) (ended : Ended) : Type 0 where
  pub texts : List (List ℕ)
  pub loaded : FilesTold
  pub loads : LoadsGive names limit (until built loaded) texts
  pub reached : Ended
  pub ending : NoTexts (image ∷ []) MOST_IMAGE_BYTES files seen out reached ⊎ ((mid : FilesTold) × DoesOnSources (running budget) texts (since files mid) seen out reached)
  pub tells : Tells (numbered_names []) reached notes ended

-- Where a call of `build` ended with status 0, and the files tell what they hold, whatever a call of `exec` answers, with the files as `build` left them and with any budget, input
-- and output, is what `run` does.
abbrev pub ExecAfterBuildIsRun : Type 0
ExecAfterBuildIsRun =
    (names : List (List ℕ)) (image : List ℕ) (budget : ℕ) (first second : List (List ℕ)) (built files : FilesSeen) (unread seen : InputSeen) (unwritten first_notes out notes : SinkSeen) (saved ended : Ended) (old held : Held) →
    request_of first ≡ Some (work (command.build names image)) → request_of second ≡ Some (work (command.exec budget image)) → built.held_before ≡ Some old → built.held_now ≡ Some held → files.held_before ≡ Some held →
    Answers first built unread unwritten first_notes saved → saved.status ≡ SUCCESS → Answers second files seen out notes ended → AnswersAsRun names image budget built files seen out notes ended
