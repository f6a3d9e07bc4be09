-- Inner contracts: how the steps on an image end.
use Rattle.std.specs.Prelude.{◌≡◌, ◌≤◌, ◌⊎◌, List, ℕ, length, true, Result, Ok, Err}
use Rattle.std.specs.declared.option.Option.{Option}
use Rattle.std.specs.Option.{option_map}
use Rattle.fac_base.specs.declared.limits.TheConstants.{MOST_IMAGE_BYTES}
use Rattle.fac_base.specs.declared.height.Height.{Height}
use Rattle.fac_lang.specs.declared.program.Program.{Program}
use Rattle.fac_locals.specs.declared.closing.Closed.{Closed}
use Rattle.fac_check.specs.TemplateEffects.{AreEffects}
use Rattle.fac_spelling.specs.Whole.{Spells}
use Rattle.fac_code.specs.declared.image.Image.{Image}
use Rattle.fac_bytes.specs.ImageBytes.{image as image_format, parts_of}
use Rattle.fac_carry.specs.Direct.{DirectIsInPlace}
use Rattle.fac_emit.specs.Heights.{asks_effects}
use Rattle.fac_store.specs.ValueTrees.{Trees, trees_of, value_in}
use Rattle.fac_vm.specs.declared.machine.RunError.{RunError}
use Rattle.fac_vm.specs.declared.machine.StopKind.{StopKind}
use Rattle.fac_vm.specs.Runs.{Held, RunsOn}
use Rattle.fac_vm.specs.SeenMachine.{MachineSeen}
use Rattle.fac_notes.specs.declared.report.Report.{Report}
use Rattle.fac_notes.specs.declared.report.Report.TheVariants as report
use Rattle.fac_notes.specs.WordNames.{image_word_name}
use Rattle.fac_tool.specs.declared.ended.Ended.{Ended}
use Rattle.fac_tool.specs.declared.linking.Linked.{Linked}
use Rattle.fac_tool.specs.SeenObjects.{SinkSeen, InputSeen}
use Rattle.fac_tool.specs.Executed.{BadImage, NoImageMemory, fresh_held, image_shown, ExecutesWithin, Executes}
use Rattle.fac_tool.specs.Saved.{HasEffects}
use Rattle.fac_tool.specs.inner.Stops.{Carried, InStore, IsFresh}

-- the effects of a closed program's templates, where it asks for any
abbrev pub AreEffectsIfAsked : Closed → List (Option Height) → Type 0
AreEffectsIfAsked closed heights = asks_effects closed ≡ true → AreEffects closed heights

-- an image carries a program, its rows have the effects of the program's callables, and its code has the program's direct phrases in place
pub record CarriedWhole (P : Program) (M : Image) : Type 0 where
  pub carried : Carried P M
  pub effects : HasEffects P M
  pub direct : DirectIsInPlace P M

-- an image that has bytes, no more than one may have
pub record IsShort (M : Image) : Type 0 where
  pub bytes : List ℕ
  pub spelled : Spells image_format bytes (parts_of M)
  pub short : length bytes ≤ MOST_IMAGE_BYTES

-- an image with its bytes, which are no more than one may have
pub record IsLinked (linked : Linked) : Type 0 where
  pub spelled : Spells image_format linked.bytes (parts_of linked.image)
  pub short : length linked.bytes ≤ MOST_IMAGE_BYTES

-- this is the report of a run error of a machine, where words are named by its image
abbrev pub IsImageReportOf : MachineSeen → RunError → Report → Type 0
IsImageReportOf machine e why = InStore machine.store (λ w. why ≡ report.Error e.name (image_word_name machine.image e.word) (option_map (λ v. image_shown machine.image w (value_in (trees_of machine.store) v)) e.value))

-- the bytes are no image's, or memory was wanted
abbrev pub NoImageOf : List ℕ → Ended → Type 0
NoImageOf bytes ended = BadImage bytes ended ⊎ NoImageMemory ended

abbrev pub MakesImage : List ℕ → Result Image Ended → Type 0
MakesImage bytes (Ok M) = Spells image_format bytes (parts_of M)
MakesImage bytes (Err ended) = NoImageOf bytes ended

-- a fresh machine of the image of these bytes
pub record IsMachineOf (bytes : List ℕ) (machine : MachineSeen) : Type 0 where
  pub fresh : IsFresh machine
  pub spelled : Spells image_format bytes (parts_of machine.image)

abbrev pub MakesMachine : List ℕ → Result MachineSeen Ended → Type 0
MakesMachine bytes (Ok machine) = IsMachineOf bytes machine
MakesMachine bytes (Err ended) = NoImageOf bytes ended

-- the first run of a machine of this image ended so, and came so far, on this input, of which this is left
pub record RunsImage (M : Image) (budget : ℕ) (seen : InputSeen) (out : SinkSeen) (ended : Ended) (input left : List ℕ) : Type 0 where
  pub within : ExecutesWithin M budget input ended.ticks out
  pub ends : Executes M budget input left seen out ended

-- the first run of a machine of this image, on this input, of which this is left
pub record RunsFirst (M : Image) (budget : ℕ) (T : Trees) (held : Held) (ticks : ℕ) (out : SinkSeen) (what : StopKind) (input left : List ℕ) : Type 0 where
  pub within : ExecutesWithin M budget input ticks out
  pub runs : RunsOn M T (fresh_held M) held budget ticks out.before out.now what input left
