-- Which classes reach themselves.
use Rattle.std.specs.Prelude.{◌≡◌, ℕ, List, length, slice_get, Some, Bool}
use Rattle.fac_lang.specs.Whole.{reaches}
use Rattle.fac_lang.specs.declared.program.ClassDef.{ClassDef}

-- for each class whether it does
pub record AreCycles (cs : List ClassDef) (flags : List Bool) : Type 0 where
  pub same_length : length flags ≡ length cs
  pub each : (c : ℕ) (b : Bool) → slice_get flags c ≡ Some b → b ≡ reaches (length cs) cs c c
