-- Inner contracts: the steps of the call.
use Rattle.std.specs.Prelude.{◌≡◌, ◌≤◌, ◌<◌, ◌⊎◌, ◌+◌, ℕ, Bool, true, false, List, [], ◌∷◌, ◌++◌, length, None, Some, Result, Ok, Err, ⊤, IfSome, IsSomeAnd}
use Rattle.std.specs.declared.option.Option.{Option}
use Rattle.fac_io.specs.Names.{Held}
use Rattle.fac_io.specs.Faults.{Rose}
use Rattle.fac_io.specs.Told.{TookWhole, TookFront, sink_tells}
use Rattle.fac_io.specs.declared.files.LoadFault.{LoadFault}
use Rattle.fac_io.specs.declared.files.LoadFault.TheVariants as load
use Rattle.fac_lines.specs.Channels.{ChannelsTold}
use Rattle.fac_notes.specs.declared.status.TheConstants.{SUCCESS, WRITE_FAULT}
use Rattle.fac_notes.specs.declared.report.Report.{Report}
use Rattle.fac_tool.specs.declared.ended.Ended.{Ended}
use Rattle.fac_tool.specs.Answers.{Answers}
use Rattle.fac_tool.specs.SeenObjects.{SinkSeen, FilesSeen, input_seen, output_seen}
use Rattle.fac_explain.specs.Names.{AreDefined}
use Rattle.fac_explainer.specs.CheckAnswers.{IsCheckedAs}
use Rattle.fac_explainer.specs.Homes.{bringing}
use Rattle.fac_explainer.specs.Explanations.{IsTold}
use Rattle.fac_explainer.specs.Explains.{told, bare}

-- bytes that are held, where they are at most so many
abbrev pub GivesBytes : Option (List ℕ) → ℕ → Result (List ℕ) LoadFault → Type 0
GivesBytes found limit (Ok bytes) = (found ≡ Some bytes) × (length bytes ≤ limit)
GivesBytes found limit (Err load.TooLong) = IsSomeAnd found (λ bytes. limit < length bytes)
GivesBytes found limit (Err load.Failed) = ⊥
GivesBytes found limit (Err load.Memory) = ⊤

-- files that held this and hold that, and never fail, of which nothing else is told
abbrev pub given_files : Held → Held → FilesSeen
given_files held after = record { held_before = Some held; held_now = Some after; asked_before = None; asked_now = None; faults_before = 0; faults_now = 0 }

-- a sink that tells nothing and never fails
abbrev pub silent_sink : SinkSeen
silent_sink = record { before = sink_tells None None; now = sink_tells None None; faults_before = 0; faults_now = 0 }

-- the top call on these words, over files that hold this, with some channels and notes that never fail
pub record ChecksGiven (words : List (List ℕ)) (held : Held) (ended : Ended) : Type 0 where
  pub after : Held
  pub before : ChannelsTold
  pub now : ChannelsTold
  pub answers : Answers words (given_files held after) (input_seen before now) (output_seen before now) silent_sink ended

-- a call that came to its end, or to a refusal
abbrev pub IsSettled : Ended → Type 0
IsSettled ended = (ended.status ≡ SUCCESS) ⊎ ((why : Report) × (ended.refusal ≡ Some why))

-- what is told of a refusal of texts, or of none
pub record Explained (names texts : List (List ℕ)) (refusal : Option Report) (text : List ℕ) : Type 0 where
  pub checked : IsCheckedAs texts refusal
  pub is : IsTold names texts refusal text

-- a text was written, whole or a front of it, and that ends the call
pub record WritesWhole (text : List ℕ) (refusal : Option Report) (out : SinkSeen) (ended : Ended) : Type 0 where
  pub written : TookWhole out.before out.now text
  pub count : out.faults_now ≡ out.faults_before
  pub ends : ended ≡ told refusal

pub record WritesFront (text : List ℕ) (out : SinkSeen) (ended : Ended) : Type 0 where
  pub front : TookFront out.before out.now text
  pub rose : Rose out.faults_before out.faults_now
  pub ends : ended ≡ bare WRITE_FAULT

abbrev pub Writes : List ℕ → Option Report → SinkSeen → Ended → Type 0
Writes text refusal out ended = WritesWhole text refusal out ended ⊎ WritesFront text out ended

-- whether `check` accepts texts
abbrev pub AcceptsTexts : List (List ℕ) → Bool → Type 0
AcceptsTexts texts true = IsCheckedAs texts None
AcceptsTexts texts false = (why : Report) × IsCheckedAs texts (Some why)

-- a vocabulary was put behind others where it holds a word of this name
abbrev pub AddsHome : List ℕ → List ℕ → List (List ℕ) → List (List ℕ) → Type 0
AddsHome name vocab homes now =
    (IsCheckedAs (bringing vocab name ∷ []) None × (now ≡ homes ++ vocab ∷ [])) ⊎ ((why : Report) × IsCheckedAs (bringing vocab name ∷ []) (Some why) × (now ≡ homes))

-- the names that texts define were put behind others
abbrev pub AddsAll : List (List ℕ) → List (List ℕ) → List (List ℕ) → Type 0
AddsAll texts names now = (more : List (List ℕ)) × AreDefined texts more × (now ≡ names ++ more)
