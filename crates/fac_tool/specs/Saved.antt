-- What `build` saves.
use Rattle.std.specs.Prelude.{◌≡◌, ◌≤◌, ◌⊎◌, ◌+◌, ℕ, List, [], ◌∷◌, length, map, None, Some, slice_get}
use Rattle.std.specs.declared.option.Option.{Option}
use Rattle.fac_io.specs.declared.files.Asked.{Asked}
use Rattle.fac_io.specs.declared.files.Asked.TheVariants.{Save}
use Rattle.fac_io.specs.Faults.{Rose}
use Rattle.fac_io.specs.Names.{Held, Holds, OthersKept}
use Rattle.fac_io.specs.Told.{Told, Stays, Grows}
use Rattle.fac_base.specs.declared.limits.TheConstants.{MOST_IMAGE_BYTES}
use Rattle.fac_lang.specs.declared.program.Program.{Program}
use Rattle.fac_lang.specs.Phrases.{Value, held, of_phrase}
use Rattle.fac_locals.specs.Frames.{template_phrase}
use Rattle.fac_check.specs.CallableEffects.{callable_height}
use Rattle.fac_code.specs.declared.image.Image.{Image}
use Rattle.fac_code.specs.declared.image.TemplateRow.{TemplateRow}
use Rattle.fac_spelling.specs.Whole.{Spells}
use Rattle.fac_bytes.specs.ImageBytes.{image as image_format, parts_of}
use Rattle.fac_machine.specs.Machine.{End, Ends, starting, first_world}
use Rattle.fac_carry.specs.Carries.{Carries, SameEnd}
use Rattle.fac_carry.specs.MachineView.{template_phrases}
use Rattle.fac_carry.specs.Direct.{DirectIsInPlace}
use Rattle.fac_notes.specs.declared.status.TheConstants.{SUCCESS, FILE_FAULT, NO_MEMORY}
use Rattle.fac_notes.specs.declared.report.Report.TheVariants as report
use Rattle.fac_tool.specs.declared.ended.Ended.{Ended}
use Rattle.fac_tool.specs.Answer.{meaning}
use Rattle.fac_tool.specs.SeenObjects.{FilesSeen}
use Rattle.fac_tool.specs.Ends.{IsBare}

-- The row of each template of an image has the effect of the template's callables in the program, whatever values these hold. It has it also where the program
-- asks for no effect, and so nothing that it does depends on it.
abbrev pub HasEffects : Program → Image → Type 0
HasEffects P M =
    (q : ℕ) (row : TemplateRow) (vs : List Value) → slice_get M.templates q ≡ Some row → length vs ≡ length row.cells + row.holes → row.height ≡ callable_height P (of_phrase (template_phrase P q (map held vs)))

-- The bytes are those of an image that carries the program, from no value, at every budget and on every input. They are no more than `exec` loads.
pub record CarriesSaved (P : Program) (bytes : List ℕ) : Type 0 where
  pub image : Image
  pub spelled : Spells image_format bytes (parts_of image)
  pub carries : Carries P (callable_height P) 0 image
  -- So on every input and with every budget its machine ends as the program's meaning does.
  pub ends : (input : List ℕ) (n : ℕ) → (e : End) × Ends image (starting image [] (first_world image input)) n e × SameEnd (template_phrases P) (meaning P input n) e
  pub effects : HasEffects P image
  pub short : length bytes ≤ MOST_IMAGE_BYTES

-- What `build` makes of a program: such bytes. In the image's code each direct phrase makes no quotation and applies each in place, and no call leaves a return
-- entry where `ret` comes next.
pub record IsBuilt (P : Program) (bytes : List ℕ) : Type 0 where
  pub carries : CarriesSaved P bytes
  pub direct : DirectIsInPlace P carries.image

-- the image was saved under this name
pub record Saved (P : Program) (name : List ℕ) (files : FilesSeen) (ended : Ended) : Type 0 where
  pub status : ended.status ≡ SUCCESS
  pub ticks : ended.ticks ≡ 0
  pub bare : IsBare ended
  pub bytes : List ℕ
  pub built : IsBuilt P bytes
  pub held : Told files.held_before files.held_now (Holds name bytes)
  pub asked : Grows files.asked_before files.asked_now (Save name ∷ [])
  pub faults : files.faults_now ≡ files.faults_before

-- the save failed: of this one name nothing is known then
pub record SaveFails (name : List ℕ) (files : FilesSeen) (ended : Ended) : Type 0 where
  pub status : ended.status ≡ FILE_FAULT
  pub ticks : ended.ticks ≡ 0
  pub stack : ended.stack ≡ None
  pub refusal : ended.refusal ≡ Some (report.File name)
  pub held : Told files.held_before files.held_now (OthersKept name)
  pub asked : Grows files.asked_before files.asked_now (Save name ∷ [])
  pub rose : Rose files.faults_before files.faults_now

-- memory was wanted, and nothing was saved
pub record NotSaved (files : FilesSeen) (ended : Ended) : Type 0 where
  pub status : ended.status ≡ NO_MEMORY
  pub ticks : ended.ticks ≡ 0
  pub bare : IsBare ended
  pub held : Stays files.held_before files.held_now
  pub asked : Stays files.asked_before files.asked_now
  pub faults : files.faults_now ≡ files.faults_before

-- the one save of the image of a program
abbrev pub Saves : Program → List ℕ → FilesSeen → Ended → Type 0
Saves P name files ended = Saved P name files ended ⊎ (SaveFails name files ended ⊎ NotSaved files ended)

-- what files tell at one moment
pub record FilesTold : Type 0 where
  pub held : Option Held
  pub asked : Option (List Asked)
  pub faults : ℕ

-- what was done up to a moment, and from it on
abbrev pub until : FilesSeen → FilesTold → FilesSeen
until files mid = record { held_before = files.held_before; held_now = mid.held; asked_before = files.asked_before; asked_now = mid.asked; faults_before = files.faults_before; faults_now = mid.faults }

abbrev pub since : FilesSeen → FilesTold → FilesSeen
since files mid = record { held_before = mid.held; held_now = files.held_now; asked_before = mid.asked; asked_now = files.asked_now; faults_before = mid.faults; faults_now = files.faults_now }
