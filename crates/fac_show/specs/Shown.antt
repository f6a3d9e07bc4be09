-- What showing a value answers.
use Rattle.std.specs.Prelude.{◌≡◌, ◌<◌, ◌≤◌, ℕ, List, length, Result, Ok, Err}
use Rattle.fac_show.specs.declared.show_fault.ShowFault.{ShowFault}
use Rattle.fac_show.specs.declared.show_fault.ShowFault.TheVariants.{TooLong, Memory}

-- the form where it has at most so many bytes; too long exactly where it has more; want of memory may come at any time
abbrev pub IsShown : ℕ → List ℕ → Result (List ℕ) ShowFault → Type 0
IsShown limit form (Ok text) = (text ≡ form) × (length form ≤ limit)
IsShown limit form (Err TooLong) = limit < length form
IsShown limit form (Err Memory) = Unit {0}
