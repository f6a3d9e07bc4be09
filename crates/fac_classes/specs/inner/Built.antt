-- What is kept of classes that were built.
use Rattle.std.specs.Prelude.{◌≡◌, ℕ, List, map, length, Bool, Option}
use Rattle.std.specs.List.{range_with_len}
use Rattle.fac_lang.specs.declared.program.ClassDef.{ClassDef}
use Rattle.fac_classes.specs.ClassKinds.{place_of}
use Rattle.fac_classes.specs.inner.OwnKinds.{own_kinds}
use Rattle.fac_classes.specs.inner.Cells.{IsTable}

pub record AreBuilt (cs : List ClassDef) (w : ℕ) (own : List (Option ℕ)) (cells : List Bool) (places : List ℕ) : Type 0 where
  pub table : IsTable cs w cells
  pub own_is : own ≡ own_kinds 8 cs
  pub places_are : places ≡ map (place_of cs) (range_with_len 0 (length cs))
