-- The texts of a machine's values as they are told.
use Rattle.std.specs.Prelude.{◌≡◌, List, ℕ, map, reverse}
use Rattle.std.specs.Option.{option_map}
use Rattle.fac_lang.specs.Printed.{printed}
use Rattle.fac_lang.specs.World.{World}
use Rattle.fac_code.specs.declared.image.Image.{Image}
use Rattle.fac_code.specs.ImageNames.{image_names}
use Rattle.fac_store.specs.MachineValues.{MValue, machine_values}
use Rattle.fac_store.specs.ValueTrees.{StoreSeen, objects_of, trees_of, value_in}
use Rattle.fac_store.specs.declared.value.Value.{Value as MachineValue}
use Rattle.fac_vm.specs.declared.machine.RunError.{RunError}
use Rattle.fac_vm.specs.SeenMachine.{MachineSeen, stack_in}
use Rattle.fac_notes.specs.Told.{shown_text}
use Rattle.fac_notes.specs.WordNames.{image_word_name}
use Rattle.fac_notes.specs.declared.report.Report.{Report}
use Rattle.fac_notes.specs.declared.report.Report.TheVariants as report

-- the text of a value of a machine of this image as it is told, where this is the world
abbrev pub machine_text : Image → World MValue → MValue → List ℕ
machine_text M w v = shown_text (printed machine_values (image_names M) w v)

-- what holds in each world with the objects of a store
abbrev pub InStore : StoreSeen → (World MValue → Type 0) → Type 0
InStore store Holds = (w : World MValue) → w.objects ≡ objects_of store → Holds w

-- this is the text of a value
abbrev pub IsTextOf : Image → StoreSeen → MachineValue → List ℕ → Type 0
IsTextOf M store v text = InStore store (λ w. text ≡ machine_text M w (value_in (trees_of store) v))

-- these are the texts of values
abbrev pub AreTextsOf : Image → StoreSeen → List MachineValue → List (List ℕ) → Type 0
AreTextsOf M store vs texts = InStore store (λ w. texts ≡ map (λ v. machine_text M w (value_in (trees_of store) v)) vs)

-- these are the texts of a machine's stack, from the bottom to the top
abbrev pub AreStackTexts : MachineSeen → List (List ℕ) → Type 0
AreStackTexts machine texts = InStore machine.store (λ w. texts ≡ map (machine_text machine.image w) (reverse (stack_in machine)))

-- this is the report of a run error of a machine, where words are named by its image
abbrev pub IsReportOf : MachineSeen → RunError → Report → Type 0
IsReportOf machine e why = InStore machine.store (λ w. why ≡ report.Error e.name (image_word_name machine.image e.word) (option_map (λ v. machine_text machine.image w (value_in (trees_of machine.store) v)) e.value))
