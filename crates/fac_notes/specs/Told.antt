-- How values, stacks, run errors and refusals of the checker are told.
use Rattle.std.specs.Prelude.{ℕ, List, ◌++◌, length, map, codes, nat_le, if◌then◌else◌}
use Rattle.std.specs.List.{concat}
use Rattle.std.specs.Option.{option_map}
use Rattle.fac_base.specs.declared.limits.TheConstants.{MOST_SHOWN_BYTES}
use Rattle.fac_lang.specs.declared.program.Program.{Program}
use Rattle.fac_lang.specs.Phrases.{Value}
use Rattle.fac_lang.specs.World.{World, Error}
use Rattle.fac_lang.specs.Printed.{printed}
use Rattle.fac_lang.specs.Meaning.{meaning_values, names}
use Rattle.fac_check.specs.declared.refusal.Broken.{Broken}
use Rattle.fac_check.specs.declared.refusal.Refusal.{Refusal}
use Rattle.fac_notes.specs.declared.report.Report.{Report}
use Rattle.fac_notes.specs.declared.report.Report.TheVariants as report
use Rattle.fac_notes.specs.WordNames.{defined_as}

-- a printed form, or three dots where it has more than 1,000 bytes
abbrev pub shown_text : List ℕ → List ℕ
shown_text text = (if nat_le (length text) MOST_SHOWN_BYTES then text else codes "...")

abbrev pub shown : Program → World Value → Value → List ℕ
shown P w v = shown_text (printed meaning_values (names P) w v)

-- No run error is that of a method, so a word has the name here under which it is defined.
abbrev pub error_report : Program → World Value → Error Value → Report
error_report P w e = report.Error e.name (defined_as P e.word) (option_map (shown P w) e.value)

-- texts as lines, one behind the other
abbrev pub stack_lines : List (List ℕ) → List ℕ
stack_lines texts = concat (map (λ text. text ++ codes "\n") texts)

-- a refusal of the word with this number
abbrev pub refusal_of : ℕ × Broken → Refusal
refusal_of first = record { word = first.0; broken = first.1 }
