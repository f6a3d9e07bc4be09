-- What is told of each report: in which file it stands and where, and its picture and its sentence.
use Rattle.std.specs.Prelude.{◌≡◌, ℕ, ◌-◌, ◌==◌, List, [], slice_get, None, Some, codes, if◌then◌else◌}
use Rattle.std.specs.declared.option.Option.{Option}
use Rattle.fac_token.specs.declared.spotting.Spot.{Spot}
use Rattle.fac_prelude.specs.PreludeText.{prelude_text}
use Rattle.fac_notes.specs.declared.report.ByteFault.{ByteFault}
use Rattle.fac_notes.specs.declared.report.ByteFault.TheVariants as byte
use Rattle.fac_notes.specs.declared.report.Report.{Report}
use Rattle.fac_notes.specs.declared.report.Report.TheVariants as report
use Rattle.fac_notes.specs.Visible.{visible}
use Rattle.fac_explain.specs.Places.{byte_spot, IsTokenPlace, refused_token}
use Rattle.fac_explain.specs.Pictures.{marked_at}
use Rattle.fac_explain.specs.Sentences.{syntax_sentence, name_sentence, rule_sentence}

-- the text of the file with this number: the prelude is file 0, and these are the texts of the others; nothing where no file has it
abbrev pub text_if : Option (List ℕ) → List ℕ
text_if None = []
text_if (Some text) = text

abbrev pub text_in : List (List ℕ) → ℕ → List ℕ
text_in texts file = (if file == 0 then prelude_text else text_if (slice_get texts (file - 1)))

-- the number of the file in which a refusal stands
abbrev pub file_of : Report → ℕ
file_of (report.Bytes file at reason) = file
file_of (report.Syntax file at reason) = file
file_of (report.Name fault) = fault.place.file
file_of (report.Check refusal word) = refusal.broken.place.file
file_of _ = 0

-- where a refusal stands in the text of its file
abbrev pub IsPlace : List ℕ → Report → Option Spot → Type 0
IsPlace text (report.Bytes file at reason) place = place ≡ Some (byte_spot text at)
IsPlace text (report.Syntax file at reason) place = IsTokenPlace text (refused_token at reason) place
IsPlace text (report.Name fault) place = IsTokenPlace text fault.place.token place
IsPlace text (report.Check refusal word) place = IsTokenPlace text refusal.broken.place.token place
IsPlace text _ place = place ≡ None

-- The picture of a refusal. Bytes that are no text aren't shown.
abbrev pub picture : Report → List ℕ → Option Spot → List ℕ
picture (report.Bytes file at byte.NotUtf8) text place = []
picture _ text place = marked_at text place

-- of bytes
abbrev pub byte_sentence : ByteFault → List ℕ
byte_sentence byte.NotUtf8 = codes "The file isn't UTF-8 from this byte on."
byte_sentence byte.OpenString = codes "The string that begins here isn't closed on its line."
byte_sentence byte.BadEscape = codes "This backslash begins no escape. The five are \\n \\t \\r \\\\ \\\"."
byte_sentence byte.StuckQuote = codes "White space has to stand before a string and behind it."

-- of a refusal of `check`, at a token
abbrev pub sentence : Report → List ℕ → List ℕ
sentence (report.Bytes file at reason) token = byte_sentence reason
sentence (report.Syntax file at reason) token = syntax_sentence reason token
sentence (report.Name fault) token = name_sentence fault.kind (visible fault.name)
sentence (report.Check refusal word) token = rule_sentence refusal.broken.rule token word
sentence _ token = []
