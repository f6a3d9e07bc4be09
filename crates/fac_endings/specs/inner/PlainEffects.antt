-- Effects of plain values.
use Rattle.std.specs.Prelude.{ℕ, List, None}
use Rattle.fac_base.specs.declared.effect.Input.{Input}

abbrev pub plain_input : List ℕ → Input
plain_input name = record { name = name; quot = None }
