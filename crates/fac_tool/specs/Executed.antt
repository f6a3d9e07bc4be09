-- What `exec` answers: the run of an image without its source.
use Rattle.std.specs.Prelude.{◌≡◌, ◌≤◌, ◌⊎◌, ◌-◌, ℕ, List, [], map, reverse, None, Some}
use Rattle.std.specs.Option.{option_map}
use Rattle.fac_io.specs.Faults.{Rose}
use Rattle.fac_io.specs.Told.{TookNothing}
use Rattle.fac_lang.specs.Printed.{printed}
use Rattle.fac_lang.specs.World.{World}
use Rattle.fac_code.specs.declared.image.Image.{Image}
use Rattle.fac_code.specs.ImageNames.{image_names}
use Rattle.fac_store.specs.MachineValues.{MValue, machine_values}
use Rattle.fac_vm.specs.declared.machine.StopKind.{StopKind}
use Rattle.fac_vm.specs.declared.machine.StopKind.TheVariants as stop
use Rattle.fac_machine.specs.Machine.{End, done, failed, spent, trap, Ends, first_world}
use Rattle.fac_vm.specs.Runs.{Held, begun, Reaches, InPieces, AsksAt, FaultsBehind, WantsAt}
use Rattle.fac_spelling.specs.Whole.{Spells, IsRefused}
use Rattle.fac_bytes.specs.ImageBytes.{image as image_format, are_image, parts_of}
use Rattle.fac_bytes.specs.Listings.{listing}
use Rattle.fac_notes.specs.declared.status.TheConstants.{SUCCESS, RUN_ERROR, BUDGET_SPENT, BAD_IMAGE, NO_MEMORY}
use Rattle.fac_notes.specs.declared.report.Report.TheVariants as report
use Rattle.fac_notes.specs.WordNames.{image_word_name}
use Rattle.fac_tool.specs.declared.ended.Ended.{Ended}
use Rattle.fac_notes.specs.Told.{shown_text}
use Rattle.fac_tool.specs.Answer.{Answer}
use Rattle.fac_tool.specs.SeenObjects.{SinkSeen, InputSeen, OnInput, IsUnread}
use Rattle.fac_tool.specs.Ends.{Ending, Told, WriteFault, InputFault, NoMemory, ending_of, IsBare, Matches, WantedBehind, idle, EndsOn}

-- what a machine of an image holds before its first run: no value, and no objects but the literal arrays
abbrev pub fresh_held : Image → Held
fresh_held M = record { stack = []; objects = (first_world M []).objects; literals = (first_world M []).literals }

-- a value as it is told
abbrev pub image_shown : Image → World MValue → MValue → List ℕ
image_shown M w v = shown_text (printed machine_values (image_names M) w v)

-- The answer of a run with this budget that ends so. Words are named by the image.
abbrev pub of_end : Image → ℕ → End → Answer
of_end M budget (done s more) = record { status = SUCCESS; ticks = budget - more; stack = Some (map (image_shown M s.world) (reverse s.stack)); refusal = None; output = s.world.output; left = s.world.input }
of_end M budget (failed e s more) = record { status = RUN_ERROR; ticks = budget - more; stack = None; refusal = Some (report.Error e.name (image_word_name M e.word) (option_map (image_shown M s.world) e.value)); output = s.world.output; left = s.world.input }
of_end M budget (spent s) = record { status = BUDGET_SPENT; ticks = budget; stack = None; refusal = Some (report.Spent budget); output = s.world.output; left = s.world.input }
of_end M budget (trap why s more) = record { status = BAD_IMAGE; ticks = budget - more; stack = None; refusal = Some (report.Trap s.pc why); output = s.world.output; left = s.world.input }

-- How far a run with a budget came that used so many ticks, however it ended: with one tick less the machine is spent, what it wrote till then was taken, and of
-- what it writes in these ticks a prefix.
pub record ExecutesWithin (M : Image) (budget : ℕ) (input : List ℕ) (ticks : ℕ) (out : SinkSeen) : Type 0 where
  pub within : ticks ≤ budget
  pub reaches : Reaches M input (fresh_held M) ticks out.before.taken out.now.taken

-- in which pieces its output was taken: those that its steps wrote, and where a write failed a front of the next one
abbrev pub ExecutionPieces : Image → List ℕ → ℕ → SinkSeen → StopKind → Type 0
ExecutionPieces M input ticks out what = InPieces M input (fresh_held M) ticks out.before out.now what

-- memory was wanted at a job of the run, or behind the run for what is told of it
abbrev pub WantedIn : Image → ℕ → List ℕ → List ℕ → ℕ → SinkSeen → Type 0
WantedIn M budget input left ticks out =
    WantsAt M input left (fresh_held M) ticks out.before.taken out.now.taken ⊎ ((e : End) × Ends M (begun M input (fresh_held M)) budget e × WantedBehind (of_end M budget e) left ticks out)

-- The run of an image on this input, of which this is left, by the kind of the status: it ended as the machine ends, or was cut short.
abbrev pub ExecutesBy : Ending → Image → ℕ → List ℕ → List ℕ → InputSeen → SinkSeen → Ended → Type 0
ExecutesBy Told M budget input left seen out ended =
    (e : End) × Ends M (begun M input (fresh_held M)) budget e × Matches (of_end M budget e) out left ended × ExecutionPieces M input ended.ticks out stop.Done
ExecutesBy WriteFault M budget input left seen out ended =
    Rose out.faults_before out.faults_now × IsBare ended × ExecutesWithin M budget input ended.ticks out × ExecutionPieces M input ended.ticks out stop.WriteFault ×
    ((now : Held) × FaultsBehind M input left (fresh_held M) now ended.ticks)
ExecutesBy InputFault M budget input left seen out ended =
    Rose seen.faults_before seen.faults_now × IsBare ended × ExecutesWithin M budget input ended.ticks out × ExecutionPieces M input ended.ticks out stop.InputFault ×
    ((now : Held) × AsksAt M input left (fresh_held M) now ended.ticks out.before.taken out.now.taken)
ExecutesBy NoMemory M budget input left seen out ended =
    IsBare ended × ExecutesWithin M budget input ended.ticks out × ExecutionPieces M input ended.ticks out stop.Memory × WantedIn M budget input left ended.ticks out
ExecutesBy _ M budget input left seen out ended = ⊥

abbrev pub Executes : Image → ℕ → List ℕ → List ℕ → InputSeen → SinkSeen → Ended → Type 0
Executes M budget input left seen out ended = ExecutesBy (ending_of ended.status) M budget input left seen out ended

-- the bytes are no image's, and wrong from a place on
pub record BadImage (bytes : List ℕ) (ended : Ended) : Type 0 where
  pub at : ℕ
  pub refused : IsRefused image_format are_image bytes at
  pub status : ended.status ≡ BAD_IMAGE
  pub ticks : ended.ticks ≡ 0
  pub stack : ended.stack ≡ None
  pub refusal : ended.refusal ≡ Some (report.Image at)

-- memory was wanted before anything was run or written
pub record NoImageMemory (ended : Ended) : Type 0 where
  pub status : ended.status ≡ NO_MEMORY
  pub ticks : ended.ticks ≡ 0
  pub bare : IsBare ended

-- nothing was decoded, so nothing was run and nothing was written
pub record NotDecoded (bytes : List ℕ) (out : SinkSeen) (ended : Ended) : Type 0 where
  pub why : BadImage bytes ended ⊎ NoImageMemory ended
  pub out_is : TookNothing out.before out.now

-- the listing of an image, of which nothing is run
abbrev pub listed_answer : Image → List ℕ → Answer
listed_answer M input = record { status = SUCCESS; ticks = 0; stack = None; refusal = None; output = listing M; left = input }

-- what is done with an image: with its input, its output and its ending, on an input of which some is left
abbrev pub OnImage : Type 1
OnImage = Image → InputSeen → SinkSeen → Ended → List ℕ → List ℕ → Type 0

-- Something was done with bytes: they are no image's, or memory was wanted before that, or they are an image's, and this was done with it on one input.
pub data DoesOnBytes (On : OnImage) (bytes : List ℕ) (seen : InputSeen) (out : SinkSeen) (ended : Ended) : Type 0 where
  not_decoded : NotDecoded bytes out ended → IsUnread seen → DoesOnBytes On bytes seen out ended
  decoded : (M : Image) → Spells image_format bytes (parts_of M) → OnInput seen (On M seen out ended) → DoesOnBytes On bytes seen out ended

-- it is run with a budget
abbrev pub executed : ℕ → OnImage
executed budget M seen out ended input left = Executes M budget input left seen out ended

-- its listing is written, in one write
abbrev pub listed : OnImage
listed M seen out ended input left = EndsOn (listed_answer M) (λ _. idle) out seen ended input left
