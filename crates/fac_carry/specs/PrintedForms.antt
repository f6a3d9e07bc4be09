-- The printed forms of the machine's values.
use Rattle.std.specs.Prelude.{◌≡◌, List, map}
use Rattle.fac_lang.specs.World.{World}
use Rattle.fac_lang.specs.Printed.{Names, printed}
use Rattle.fac_lang.specs.Meaning.{meaning_values}
use Rattle.fac_store.specs.MachineValues.{MValue, machine_values}
use Rattle.fac_carry.specs.MachineView.{Templates, values_view, world_view}

-- Whatever words and kinds are called and templates have as their phrases: values print as what they stand for.
abbrev pub PrintedFormsAreEqual : Type 0
PrintedFormsAreEqual = (N : Names) (T : Templates) (w : World MValue) (vs : List MValue) → map (printed meaning_values N (world_view T w)) (values_view T vs) ≡ map (printed machine_values N w) vs
