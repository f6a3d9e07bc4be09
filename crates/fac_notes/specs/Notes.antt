-- The note of a report: a line.
use Rattle.std.specs.Prelude.{◌<◌, ℕ, List, length, [], ◌++◌, None, Some, codes, decimal, slice_get}
use Rattle.std.specs.declared.option.Option.{Option}
use Rattle.fac_parse.specs.declared.reader.Why.{Why}
use Rattle.fac_source.specs.declared.refusal.NameFault.{NameFault}
use Rattle.fac_source.specs.declared.refusal.NameKind.{NameKind}
use Rattle.fac_source.specs.declared.refusal.NameKind.TheVariants.{Ambiguous}
use Rattle.fac_check.specs.declared.refusal.Refusal.{Refusal}
use Rattle.fac_code.specs.declared.names.TrapWhy.{TrapWhy}
use Rattle.fac_lang.specs.ErrorTexts.{error_text}
use Rattle.fac_lang.specs.declared.error_name.ErrorName.{ErrorName}
use Rattle.fac_base.specs.declared.name.Name.{Name}
use Rattle.fac_notes.specs.declared.report.ByteFault.{ByteFault}
use Rattle.fac_notes.specs.declared.report.Report.{Report}
use Rattle.fac_notes.specs.declared.report.Report.TheVariants as report
use Rattle.fac_notes.specs.Visible.{visible}
use Rattle.fac_notes.specs.WordNames.{name_text}
use Rattle.fac_code.specs.TrapTexts.{trap_text}
use Rattle.fac_notes.specs.NoteRows.{byte_text, why_text, kind_text, rule_text}

-- the name of a file by its number; nothing where no file has it
abbrev pub name_if : Option (List ℕ) → List ℕ
name_if None = []
name_if (Some name) = name

abbrev pub file_name : List (List ℕ) → ℕ → List ℕ
file_name names file = name_if (slice_get names file)

-- a file and the number of a token in it
abbrev pub place_text : List ℕ → ℕ → List ℕ
place_text name token = visible name ++ codes " token " ++ decimal token ++ codes ": "

abbrev pub value_text : Option (List ℕ) → List ℕ
value_text None = []
value_text (Some text) = codes ": " ++ text

abbrev pub bytes_line : List ℕ → ℕ → ByteFault → List ℕ
bytes_line name at why = codes "syntax: " ++ visible name ++ codes " byte " ++ decimal at ++ codes ": " ++ byte_text why ++ codes "\n"

abbrev pub syntax_line : List ℕ → ℕ → Why → List ℕ
syntax_line name at why = codes "syntax: " ++ place_text name at ++ why_text why ++ codes "\n"

-- the two words that an ambiguous name may be
abbrev pub words_text : NameKind → List ℕ
words_text (Ambiguous first second) = codes ", " ++ name_text first ++ codes " and " ++ name_text second
words_text _ = []

abbrev pub name_line : List ℕ → NameFault → List ℕ
name_line name fault = codes "name: " ++ place_text name fault.place.token ++ kind_text fault.kind ++ codes " " ++ visible fault.name ++ words_text fault.kind ++ codes "\n"

abbrev pub check_line : List ℕ → Refusal → List ℕ → List ℕ
check_line name refusal word = codes "check: " ++ word ++ codes ", " ++ place_text name refusal.broken.place.token ++ rule_text refusal.broken.rule ++ codes "\n"

abbrev pub error_line : ErrorName → Name → Option (List ℕ) → List ℕ
error_line name word value = codes "error: " ++ error_text name ++ codes " in " ++ name_text word ++ value_text value ++ codes "\n"

abbrev pub trap_line : ℕ → TrapWhy → List ℕ
trap_line pc why = codes "image: trap at " ++ decimal pc ++ codes ": " ++ trap_text why ++ codes "\n"

abbrev pub file_line : List ℕ → List ℕ
file_line name = codes "file: " ++ visible name ++ codes "\n"

abbrev pub too_long_line : List ℕ → ℕ → List ℕ
too_long_line name most = codes "too long: " ++ visible name ++ codes ", more than " ++ decimal most ++ codes " bytes\n"

-- the line of a report; the names of the files stand by their numbers
abbrev pub line_of : List (List ℕ) → Report → List ℕ
line_of names (report.Bytes file at why) = bytes_line (file_name names file) at why
line_of names (report.Syntax file at why) = syntax_line (file_name names file) at why
line_of names (report.Name fault) = name_line (file_name names fault.place.file) fault
line_of names (report.Check refusal word) = check_line (file_name names refusal.broken.place.file) refusal word
line_of names (report.Error name word value) = error_line name word value
line_of names (report.Spent ticks) = codes "spent: " ++ decimal ticks ++ codes " ticks\n"
line_of names (report.Image at) = codes "image: byte " ++ decimal at ++ codes "\n"
line_of names (report.Trap pc why) = trap_line pc why
line_of names (report.File name) = file_line name
line_of names (report.TooLong name most) = too_long_line name most

-- each line has at least a byte
abbrev pub NotesAreNotEmpty : Type 0
NotesAreNotEmpty = (names : List (List ℕ)) (why : Report) → 0 < length (line_of names why)
