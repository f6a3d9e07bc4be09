-- A line to which pieces are added up to a limit.
use Rattle.std.specs.Prelude.{◌≡◌, ◌<◌, ◌≤◌, ◌++◌, ℕ, List, length, Result, Ok, Err}
use Rattle.fac_show.specs.declared.show_fault.ShowFault.{ShowFault}
use Rattle.fac_show.specs.declared.show_fault.ShowFault.TheVariants.{TooLong, Memory}

-- A piece was added, and a line within the limit is still within it; or with the piece it is longer than the limit.
abbrev pub Adds : ℕ → List ℕ → List ℕ → List ℕ → Result (Unit {0}) ShowFault → Type 0
Adds limit old piece new (Ok u) = (new ≡ old ++ piece) × (length old ≤ limit → length new ≤ limit)
Adds limit old piece new (Err TooLong) = limit < length (old ++ piece)
Adds limit old piece new (Err Memory) = Unit {0}
