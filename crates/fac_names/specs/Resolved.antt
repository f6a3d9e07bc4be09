-- What files come to: the program, or the first refusal.
use Rattle.std.specs.Prelude.{List, [], ◌∷◌, map, fold, Option, Some, None, Result, Ok, Err, Bool, true, if◌then◌else◌}
use Rattle.fac_lang.specs.RunningLaws.{append}
use Rattle.fac_lang.specs.Phrases.{Phrase, end}
use Rattle.fac_lang.specs.LongerPrograms.{as_earlier as earlier_sort}
use Rattle.fac_lang.specs.declared.program.Program.{Program}
use Rattle.fac_lang.specs.declared.program.WordDef.{WordDef}
use Rattle.fac_source.specs.declared.refusal.NameFault.{NameFault}
use Rattle.fac_items.specs.Written.{Form}
use Rattle.fac_endings.specs.declared.draft.Draft.{Draft}
use Rattle.fac_endings.specs.declared.draft.Late.TheVariants.{Settled as settled}
use Rattle.fac_endings.specs.Endings.{first_fault as first_of, program_of as program_in}
use Rattle.fac_source.specs.declared.tree.Form.{Form as Flat}
use Rattle.fac_names.specs.FromFlat.{form_of}
use Rattle.fac_names.specs.Forms.{Reading, changed, take_file}
-- Programs with the scope in which a session goes on.
pub use Rattle.fac_names.specs.declared.known.Known.{Known}

-- the first refusal of a program
abbrev pub first_fault : Reading → Option NameFault
first_fault r = first_of r.words r.old_classes r.classes r.first

-- the items of the top-level phrase, and behind them the word of the last `MAIN:`, which a session leaves out
abbrev pub top_phrase : Bool → Reading → Phrase
top_phrase keep r = (if keep then r.top else append r.top r.main)

abbrev pub program_of : Bool → Reading → Program
program_of keep r = program_in r.words r.old_classes r.classes r.arrays (top_phrase keep r)

-- an earlier top-level phrase is kept as a word that no name finds
abbrev pub as_past : WordDef → Draft
as_past d = record { word = record d { sort = earlier_sort d.sort }; late = settled }

abbrev pub as_earlier : Draft → Draft
as_earlier d = as_past d.word

abbrev pub drafts_of : Program → List Draft
drafts_of P = changed as_earlier P.top (map (λ (d : WordDef). record { word = d; late = settled }) P.words)

abbrev pub beginning : Known → Reading
beginning k = record { scope = k.scope; words = drafts_of k.program; old_classes = k.program.classes; classes = []; arrays = k.program.arrays; top = end; main = end; first = None }

abbrev pub answer : Bool → Reading → Option NameFault → Result Known NameFault
answer keep r (Some f) = Err f
answer keep r None = Ok (record { scope = r.scope; program = program_of keep r })

-- what the files come to behind a reading; `keep` where they go on in its scope
abbrev pub read_files : Reading → List (List Form) → Bool → Result Known NameFault
read_files r files keep = let q = fold (take_file keep) r files in answer keep q (first_fault q)

-- What a text of these forms comes to behind what is known. It goes on in the scope of the texts before, whose top-level phrases are earlier ones, and the word of
-- its `MAIN:` isn't run.
abbrev pub going_on : Known → List Flat → Result Known NameFault
going_on k forms = read_files (beginning k) (map form_of forms ∷ []) true
