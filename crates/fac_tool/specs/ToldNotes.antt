-- The note of an ending.
use Rattle.std.specs.Prelude.{◌==◌, ℕ, List, [], ◌++◌, None, Some, codes, decimal, if◌then◌else◌}
use Rattle.std.specs.declared.option.Option.{Option}
use Rattle.fac_notes.specs.declared.status.TheConstants.{INPUT_FAULT, WRITE_FAULT, NO_MEMORY}
use Rattle.fac_command.specs.declared.command.TheConstants.{USAGE}
use Rattle.fac_notes.specs.declared.report.Report.{Report}
use Rattle.fac_notes.specs.Notes.{line_of}

abbrev pub memory_note : List ℕ
memory_note = codes "out of memory\n"

abbrev pub usage_note : List ℕ
usage_note = USAGE.now

abbrev pub input_fault_note : ℕ → List ℕ
input_fault_note ticks = codes "input fault after " ++ decimal ticks ++ codes " ticks\n"

abbrev pub write_fault_note : ℕ → List ℕ
write_fault_note ticks = codes "write fault after " ++ decimal ticks ++ codes " ticks\n"

-- the note of a status that comes without a report; usage has a note of its own
abbrev pub note_of_status : ℕ → ℕ → List ℕ
note_of_status status ticks = (if status == INPUT_FAULT then input_fault_note ticks else if status == WRITE_FAULT then write_fault_note ticks else if status == NO_MEMORY then memory_note else [])

abbrev pub note_of : List (List ℕ) → ℕ → ℕ → Option Report → List ℕ
note_of names status ticks None = note_of_status status ticks
note_of names status ticks (Some why) = line_of names why
