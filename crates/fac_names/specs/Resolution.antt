-- The program of trees, or their first refused name.
use Rattle.std.specs.Prelude.{◌≡◌, List, [], map, None, Result, Ok, Err, false}
use Rattle.fac_lang.specs.Phrases.{end}
use Rattle.fac_lang.specs.declared.program.Program.{Program}
use Rattle.fac_lang.specs.declared.program.WordDef.{WordDef}
use Rattle.fac_source.specs.declared.tree.Form.{Form as Flat}
use Rattle.fac_lang.specs.Whole.{IsWhole}
use Rattle.fac_parse.specs.Trees.{AreWellFormed}
use Rattle.fac_vocab.specs.Scopes.{first_scope}
use Rattle.fac_source.specs.declared.refusal.NameFault.{NameFault}
use Rattle.fac_source.specs.declared.refusal.ResolveFault.{ResolveFault}
use Rattle.fac_source.specs.declared.refusal.ResolveFault.TheVariants.{Name, Memory}
use Rattle.fac_endings.specs.declared.draft.Draft.{Draft}
use Rattle.fac_endings.specs.declared.draft.Late.TheVariants.{Settled as settled}
use Rattle.fac_names.specs.Forms.{Reading}
use Rattle.fac_names.specs.Resolved.{Known, read_files}
use Rattle.fac_names.specs.FromFlat.{form_of}
use Rattle.fac_names.specs.KnownWords.{known_classes, known_words}

abbrev pub settled_draft : WordDef → Draft
settled_draft d = record { word = d; late = settled }

-- before the first file
abbrev pub first_reading : Reading
first_reading = record { scope = first_scope known_words; words = map settled_draft known_words; old_classes = known_classes; classes = []; arrays = []; top = end; main = end; first = None }

abbrev pub program_alone : Result Known NameFault → Result Program NameFault
program_alone (Ok known) = Ok known.program
program_alone (Err fault) = Err fault

-- what the forms of files come to, in order
unfoldable pub resolved : List (List Flat) → Result Program NameFault
resolved files = program_alone (read_files first_reading (map (map form_of) files) false)

-- what resolving them answers
abbrev pub Resolves : List (List Flat) → Result Program ResolveFault → Type 0
Resolves files (Ok program) = resolved files ≡ Ok program
Resolves files (Err (Name fault)) = resolved files ≡ Err fault
Resolves files (Err Memory) = Unit {0}

-- a program that names resolve to is whole
abbrev pub ResolvedAreWhole : Type 0
ResolvedAreWhole = (files : List (List Flat)) (program : Program) → AreWellFormed files → resolved files ≡ Ok program → IsWhole program
