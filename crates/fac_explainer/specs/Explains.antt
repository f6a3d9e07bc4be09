-- The whole call.
use Rattle.std.specs.Prelude.{◌≡◌, ◌⊎◌, ℕ, Bool, true, false, List, None, Some, codes}
use Rattle.std.specs.declared.option.Option.{Option}
use Rattle.fac_io.specs.Faults.{Rose}
use Rattle.fac_io.specs.Told.{TookNothing, TookWhole, TookFront}
use Rattle.fac_command.specs.Command.{are_files}
use Rattle.fac_notes.specs.declared.report.Report.{Report}
use Rattle.fac_notes.specs.declared.status.TheConstants.{SUCCESS, WRITE_FAULT, NO_MEMORY}
use Rattle.fac_notes.specs.Statuses.{status_of}
use Rattle.fac_tool.specs.declared.ended.Ended.{Ended}
use Rattle.fac_tool.specs.Answer.{limit}
use Rattle.fac_tool.specs.Answers.{TellsBy, Tells, numbered_names, usage}
use Rattle.fac_tool.specs.Loads.{LoadsGive, LoadsEnd}
use Rattle.fac_tool.specs.Plans.{AreKept}
use Rattle.fac_tool.specs.SeenObjects.{SinkSeen, FilesSeen}
use Rattle.fac_explainer.specs.CheckAnswers.{IsCheckedAs}
use Rattle.fac_explainer.specs.Explanations.{IsTold}

-- the ending by a refusal, or without one
abbrev pub status_if : Option Report → ℕ
status_if None = SUCCESS
status_if (Some why) = status_of why

abbrev pub told : Option Report → Ended
told refusal = record { status = status_if refusal; ticks = 0; stack = None; refusal = refusal }

-- an ending without a refusal
abbrev pub bare : ℕ → Ended
bare status = record { status = status; ticks = 0; stack = None; refusal = None }

-- nothing was written, and no write failed
pub record IsUnwritten (out : SinkSeen) : Type 0 where
  pub nothing : TookNothing out.before out.now
  pub count : out.faults_now ≡ out.faults_before

-- the explanation was written whole, in one write
pub record IsWritten (names texts : List (List ℕ)) (refusal : Option Report) (out : SinkSeen) (ended : Ended) : Type 0 where
  pub text : List ℕ
  pub is : IsTold names texts refusal text
  pub written : TookWhole out.before out.now text
  pub count : out.faults_now ≡ out.faults_before
  pub ends : ended ≡ told refusal

-- its write failed, and a front of it was taken
pub record WriteFails (names texts : List (List ℕ)) (refusal : Option Report) (out : SinkSeen) (ended : Ended) : Type 0 where
  pub text : List ℕ
  pub is : IsTold names texts refusal text
  pub front : TookFront out.before out.now text
  pub rose : Rose out.faults_before out.faults_now
  pub ends : ended ≡ bare WRITE_FAULT

-- memory was wanted before anything was written
pub record IsWanted (out : SinkSeen) (ended : Ended) : Type 0 where
  pub unwritten : IsUnwritten out
  pub ends : ended ≡ bare NO_MEMORY

-- The texts are those of files that `check` refuses so, or accepts, and that was explained.
pub record ExplainsCheck (names texts : List (List ℕ)) (out : SinkSeen) (ended : Ended) : Type 0 where
  pub refusal : Option Report
  pub checked : IsCheckedAs texts refusal
  pub ends : IsWritten names texts refusal out ended ⊎ WriteFails names texts refusal out ended

abbrev pub ExplainsTexts : List (List ℕ) → List (List ℕ) → SinkSeen → Ended → Type 0
ExplainsTexts names texts out ended = ExplainsCheck names texts out ended ⊎ IsWanted out ended

-- the files were loaded, each once and in this order, as `check` loads them, and this was done with their texts
pub record Loaded (names : List (List ℕ)) (files : FilesSeen) (out : SinkSeen) (ended : Ended) : Type 0 where
  pub texts : List (List ℕ)
  pub loads : LoadsGive names limit files texts
  pub does : ExplainsTexts names texts out ended

-- they weren't, which ends the call as it ends `check`
pub record NotLoaded (names : List (List ℕ)) (files : FilesSeen) (out : SinkSeen) (ended : Ended) : Type 0 where
  pub ends : LoadsEnd names limit files ended
  pub unwritten : IsUnwritten out

abbrev pub Reaches : List (List ℕ) → FilesSeen → SinkSeen → Ended → Type 0
Reaches names files out ended = NotLoaded names files out ended ⊎ Loaded names files out ended

-- the explanation, and then the note of `check`
abbrev pub Works : List (List ℕ) → FilesSeen → SinkSeen → SinkSeen → Ended → Type 0
Works names files out notes ended = (reached : Ended) × Reaches names files out reached × Tells (numbered_names names) reached notes ended

-- nothing was done with the files and the output
pub record IsIdle (files : FilesSeen) (out : SinkSeen) : Type 0 where
  pub kept : AreKept files
  pub unwritten : IsUnwritten out

-- where the words are no names of files, usage is told
abbrev pub usage_note : List ℕ
usage_note = codes "usage: factorc_explain FILES\n"

abbrev pub TellsUsage : FilesSeen → SinkSeen → SinkSeen → Ended → Type 0
TellsUsage files out notes ended = IsIdle files out × TellsBy usage_note usage notes ended

abbrev pub ExplainsBy : Bool → List (List ℕ) → FilesSeen → SinkSeen → SinkSeen → Ended → Type 0
ExplainsBy false words files out notes ended = TellsUsage files out notes ended
ExplainsBy true names files out notes ended = Works names files out notes ended

-- what is done on the words of a command line, which are names of files
abbrev pub Explains : List (List ℕ) → FilesSeen → SinkSeen → SinkSeen → Ended → Type 0
Explains words files out notes ended = ExplainsBy (are_files words) words files out notes ended
