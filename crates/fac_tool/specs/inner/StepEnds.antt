-- Inner contracts: how the steps of a command end. Each gives a result for the next one, or an ending of the work.
use Rattle.std.specs.Prelude.{◌≡◌, ◌≤◌, ◌<◌, ◌+◌, ◌⊎◌, ℕ, List, [], ◌∷◌, ◌++◌, length, None, Some, Result, Ok, Err, IfSome, IsSomeAnd}
use Rattle.fac_lang.specs.declared.program.Program.{Program}
use Rattle.fac_source.specs.declared.tree.Form.{Form}
use Rattle.fac_parse.specs.declared.reader.ParseFault.{ParseFault}
use Rattle.fac_parse.specs.declared.reader.ParseFault.TheVariants as parse
use Rattle.fac_names.specs.Resolution.{resolved}
use Rattle.fac_check.specs.Verdicts.{verdict}
use Rattle.fac_token.specs.declared.fault.TokenFault.{TokenFault}
use Rattle.fac_token.specs.declared.fault.TokenFault.TheVariants as token
use Rattle.fac_notes.specs.declared.status.TheConstants.{INPUT_FAULT, WRITE_FAULT, NO_MEMORY}
use Rattle.fac_notes.specs.declared.report.ByteFault.TheVariants as byte
use Rattle.fac_notes.specs.declared.report.Report.{Report}
use Rattle.fac_notes.specs.declared.report.Report.TheVariants as report
use Rattle.fac_notes.specs.Statuses.{status_of}
use Rattle.fac_tool.specs.declared.ended.Ended.{Ended}
use Rattle.fac_tool.specs.declared.accepting.Accepted.{Accepted}
use Rattle.fac_lines.specs.Channels.{ChannelsTold, CountsStayUnless}
use Rattle.fac_locals.specs.declared.closing.Closed.{Closed}
use Rattle.fac_notes.specs.Sources.{Source}
use Rattle.fac_tool.specs.Answer.{Answer, OnAccepted, trees, together, come_to, answer_on, limit, own_definitions, run_answer}
use Rattle.fac_tool.specs.Sources.{IsReadAs, AreReadWithPrelude}
use Rattle.fac_io.specs.declared.files.Asked.TheVariants.{Load}
use Rattle.fac_io.specs.Faults.{Rose}
use Rattle.fac_io.specs.Told.{SinkTold, Stays, Grows}
use Rattle.fac_tool.specs.SeenObjects.{SinkSeen, FilesSeen, InputSeen, OnInput, IsUnread, input_seen, output_seen}
use Rattle.fac_tool.specs.Ends.{Work, runs, StopsWithin, EndsAs, EndsOn}
use Rattle.fac_tool.specs.inner.Stops.{StandsForSafe}
use Rattle.fac_tool.specs.Loads.{LoadsGive, LoadsEnd}
use Rattle.fac_tool.specs.Saved.{FilesTold}

-- an ending with neither a stack nor a refusal
abbrev pub bare : ℕ → ℕ → Ended
bare status ticks = record { status = status; ticks = ticks; stack = None; refusal = None }

-- an ending by a report
abbrev pub reported : ℕ → Report → Ended
reported ticks why = record { status = status_of why; ticks = ticks; stack = None; refusal = Some why }

-- the ending by a fault of the tokens of the file with this number
abbrev pub fault_ending : ℕ → TokenFault → Ended
fault_ending file (token.NotUtf8 at) = reported 0 (report.Bytes file at byte.NotUtf8)
fault_ending file (token.OpenString at) = reported 0 (report.Bytes file at byte.OpenString)
fault_ending file (token.BadEscape at) = reported 0 (report.Bytes file at byte.BadEscape)
fault_ending file (token.StuckQuote at) = reported 0 (report.Bytes file at byte.StuckQuote)
fault_ending file token.Memory = bare NO_MEMORY 0

-- the ending by a fault of the forms of the file with this number
abbrev pub tree_ending : ℕ → ParseFault → Ended
tree_ending file (parse.Syntax at why) = reported 0 (report.Syntax file at why)
tree_ending file parse.Memory = bare NO_MEMORY 0

-- a sink that stays as it was
abbrev pub still : SinkTold → ℕ → SinkSeen
still told faults = record { before = told; now = told; faults_before = faults; faults_now = faults }

-- files that stay as they were
abbrev pub still_files : FilesTold → FilesSeen
still_files told = record { held_before = told.held; held_now = told.held; asked_before = told.asked; asked_now = told.asked; faults_before = told.faults; faults_now = told.faults }

-- an ending before anything is read or written, whatever the work was to be and on whatever input, of which nothing was taken: the answer, or want of memory
abbrev pub EndsEarly : (List ℕ → Answer) → Ended → Type 0
EndsEarly answer ended = (input : List ℕ) (work : Work) (told : SinkTold) (faults : ℕ) (seen : InputSeen) → IsUnread seen → EndsAs (answer input) work (still told faults) seen input ended

-- a step of work that has these answers, by what is done with an accepted program and by the input: it gives a result of which this holds, or the work ends
abbrev pub Steps : {A : Type 0} → (A → Type 0) → (OnAccepted → List ℕ → Answer) → Result A Ended → Type 0
Steps holds answer (Ok result) = holds result
Steps holds answer (Err ended) = (on : OnAccepted) → EndsEarly (answer on) ended

-- a step that ends the work for want of memory alone
abbrev pub StepsOn : {A : Type 0} → (A → Type 0) → Result A Ended → Type 0
StepsOn holds (Ok result) = holds result
StepsOn holds (Err ended) = (answer : List ℕ → Answer) → EndsEarly answer ended

-- how a run of a program ends, and how far it came
pub record EndsRun (P : Program) (budget : ℕ) (out : SinkSeen) (seen : InputSeen) (ended : Ended) (input left : List ℕ) : Type 0 where
  pub within : StopsWithin P input budget ended.ticks out
  pub ends : EndsAs (run_answer P input budget) (runs P input budget) out seen left ended

-- the counts of the input and the output are as they were, unless this status tells that one of them failed
abbrev pub StatusCounts : ChannelsTold → ChannelsTold → ℕ → Type 0
StatusCounts before now status = CountsStayUnless before now (status ≡ INPUT_FAULT) (status ≡ WRITE_FAULT)

-- the ending of steps
abbrev pub ended_by : Result Ended Ended → Ended
ended_by (Ok ended) = ended
ended_by (Err ended) = ended

-- The steps of work on an accepted program, for which this closed program stands, end it with the answer that the program has, or were cut short in its work. All
-- that is said of it is said of one input.
abbrev pub StepsEnd : Closed → (Program → List ℕ → Answer) → (Program → List ℕ → Work) → ChannelsTold → ChannelsTold → Result Ended Ended → Type 0
StepsEnd closed answer work before now result =
    OnInput (input_seen before now) (λ input left. (P : Program) → StandsForSafe closed P → EndsOn (answer P) (work P) (output_seen before now) (input_seen before now) (ended_by result) input left)

-- a load gave this text, of at most so many bytes
pub record LoadGives (name : List ℕ) (room : ℕ) (files : FilesSeen) (text : List ℕ) : Type 0 where
  pub within : length text ≤ room
  pub told : IfSome files.held_before (λ held. held name ≡ Some text)
  pub held : Stays files.held_before files.held_now
  pub asked : Grows files.asked_before files.asked_now (Load name ∷ [])
  pub faults : files.faults_now ≡ files.faults_before

-- memory was wanted before a load
pub record NotAsked (files : FilesSeen) (ended : Ended) : Type 0 where
  pub is : ended ≡ bare NO_MEMORY 0
  pub held : Stays files.held_before files.held_now
  pub asked : Stays files.asked_before files.asked_now
  pub faults : files.faults_now ≡ files.faults_before

-- memory was wanted behind a load
pub record NotKept (name : List ℕ) (files : FilesSeen) (ended : Ended) : Type 0 where
  pub is : ended ≡ bare NO_MEMORY 0
  pub held : Stays files.held_before files.held_now
  pub asked : Grows files.asked_before files.asked_now (Load name ∷ [])
  pub faults : files.faults_now ≡ files.faults_before

-- a load failed
pub record OneFails (name : List ℕ) (files : FilesSeen) (ended : Ended) : Type 0 where
  pub is : ended ≡ reported 0 (report.File name)
  pub held : Stays files.held_before files.held_now
  pub asked : Grows files.asked_before files.asked_now (Load name ∷ [])
  pub rose : Rose files.faults_before files.faults_now

-- the bytes of a name are more than there was room for
pub record OneTooLong (name : List ℕ) (room most : ℕ) (files : FilesSeen) (ended : Ended) : Type 0 where
  pub is : ended ≡ reported 0 (report.TooLong name most)
  pub longer : IfSome files.held_before (λ held. IsSomeAnd (held name) (λ text. room < length text))
  pub held : Stays files.held_before files.held_now
  pub asked : Grows files.asked_before files.asked_now (Load name ∷ [])
  pub faults : files.faults_now ≡ files.faults_before

-- how a load ends the work
abbrev pub OneEnds : List ℕ → ℕ → ℕ → FilesSeen → Ended → Type 0
OneEnds name room most files ended = NotAsked files ended ⊎ (NotKept name files ended ⊎ (OneFails name files ended ⊎ OneTooLong name room most files ended))

-- the step that loads a file where there is room for so many bytes of a limit
abbrev pub LoadsOne : List ℕ → ℕ → ℕ → FilesSeen → Result (List ℕ) Ended → Type 0
LoadsOne name room most files (Ok text) = LoadGives name room files text
LoadsOne name room most files (Err ended) = OneEnds name room most files ended

-- the step that loads one file alone
abbrev pub LoadsOnly : List ℕ → ℕ → FilesSeen → Result (List ℕ) Ended → Type 0
LoadsOnly name most files (Ok text) = LoadsGive (name ∷ []) most files (text ∷ [])
LoadsOnly name most files (Err ended) = LoadsEnd (name ∷ []) most files ended

-- a load gave one more text behind others, and so much room is left
pub record LoadAdds (name : List ℕ) (room : ℕ) (files : FilesSeen) (texts now : List (List ℕ)) (left : ℕ) : Type 0 where
  pub text : List ℕ
  pub gives : LoadGives name room files text
  pub added : now ≡ texts ++ text ∷ []
  pub rest : left + length text ≡ room

abbrev pub LoadsNext : List ℕ → ℕ → FilesSeen → List (List ℕ) → List (List ℕ) → Result ℕ Ended → Type 0
LoadsNext name room files texts now (Ok left) = LoadAdds name room files texts now left
LoadsNext name room files texts now (Err ended) = OneEnds name room limit files ended

-- a text comes to this, which decides the answer, whatever is done with an accepted program and whatever the files before and behind it are
pub record EndsFile (file : ℕ) (text : List ℕ) (ended : Ended) : Type 0 where
  pub source : Source
  pub is_read : IsReadAs file text source
  pub ends : (on : OnAccepted) (read : List (List Form)) (sources : List Source) → EndsEarly (answer_on on (together read file (source ∷ sources))) ended

-- Texts come to something that those from this number on decide, which come to these, where the ones before have these forms.
pub record ReadSoFar (texts : List (List ℕ)) (file : ℕ) (read : List (List Form)) (sources : List Source) : Type 0 where
  pub whole : List Source
  pub are_read : AreReadWithPrelude texts whole
  pub same : come_to whole ≡ together read file sources

-- texts come to this, which has this answer, whatever is done with an accepted program
pub record EndsRead (texts : List (List ℕ)) (ended : Ended) : Type 0 where
  pub sources : List Source
  pub are_read : AreReadWithPrelude texts sources
  pub ends : (on : OnAccepted) → EndsEarly (answer_on on (come_to sources)) ended

-- the texts come to the trees of these forms
pub record AreTrees (texts : List (List ℕ)) (files : List (List Form)) : Type 0 where
  pub sources : List Source
  pub are_read : AreReadWithPrelude texts sources
  pub come : come_to sources ≡ trees files

-- texts come to trees whose program is accepted, and this closed program stands for that one
pub record AreAccepted (texts : List (List ℕ)) (accepted : Accepted) : Type 0 where
  pub files : List (List Form)
  pub P : Program
  pub are_trees : AreTrees texts files
  pub resolves : resolved files ≡ Ok P
  pub accepts : verdict P 0 ≡ None
  pub stands : StandsForSafe accepted.checked.closed P
  pub count : accepted.definitions ≡ own_definitions files

-- the steps from texts to their accepted program
abbrev pub Accepts : List (List ℕ) → Result Accepted Ended → Type 0
Accepts texts (Ok accepted) = AreAccepted texts accepted
Accepts texts (Err ended) = EndsRead texts ended
