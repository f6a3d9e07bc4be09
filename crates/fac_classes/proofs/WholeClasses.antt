-- The classes of a whole program can be built.
use Rattle.fac_lang.specs.declared.program.Program.{Program}
use Rattle.fac_lang.specs.Whole.{IsWhole}
use Rattle.fac_classes.specs.ClassKinds.{CanBeBuilt}

pub whole_can : (P : Program) → IsWhole P → CanBeBuilt P
whole_can P w = record { shapes_fit = w.shapes_fit; classes_end = w.classes_end }
