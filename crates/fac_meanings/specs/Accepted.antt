-- What the forms of an accepted program mean.
use Rattle.std.specs.Prelude.{◌≡◌, ℕ, List, [], ◌∷◌, ◌++◌, length, slice_get, Option, Some, Ok, Bool}
use Rattle.fac_lang.specs.Phrases.{Phrase}
use Rattle.fac_lang.specs.RunningLaws.{append}
use Rattle.fac_lang.specs.declared.program.Program.{Program}
use Rattle.fac_lang.specs.declared.program.WordDef.{WordDef}
use Rattle.fac_source.specs.declared.tree.Element.{Element}
use Rattle.fac_source.specs.declared.tree.Form.{Form as Flat}
use Rattle.fac_parse.specs.Trees.{AreItems, AreWellFormed, IsLiteral}
use Rattle.fac_items.specs.FromElements.{nested}
use Rattle.fac_items.specs.Readings.{read_form, with_inputs}
use Rattle.fac_items.specs.Written.{Tok, Declared, Form, f_constant, f_define, f_items, f_maker, f_method}
use Rattle.fac_endings.specs.Words.{top_word}
use Rattle.fac_names.specs.Forms.{Reading, own}
use Rattle.fac_names.specs.FromFlat.{first_node, form_of}
use Rattle.fac_names.specs.Resolution.{resolved}
use Rattle.fac_names.specs.TakenForms.{take_front, taken}
use Rattle.fac_known.specs.Laws.{phrase_in}
use Rattle.fac_meanings.specs.Meanings.{Words, maker_signs, meant, words_behind}
use Rattle.fac_meanings.specs.SearchOrder.{latest_first}
use Rattle.fac_meanings.specs.Signs.{Sign, array_signs, phrase_signs}

-- the word with this number runs a phrase that is written so
pub record RunsPhrase (P : Program) (w : ℕ) (signs : List Sign) : Type 0 where
  pub def : WordDef
  pub at : slice_get P.words w ≡ Some def
  pub phrase : Phrase
  pub runs : phrase_in def.sort ≡ Some phrase
  pub written : phrase_signs (array_signs P.arrays) phrase ≡ signs

-- the items at the top level behind what is read so far are written so
pub record RunsAtTop (P : Program) (r : Reading) (signs : List Sign) : Type 0 where
  pub phrase : Phrase
  pub behind : Phrase
  pub at : slice_get P.words P.top ≡ Some (top_word (append r.top (append phrase behind)))
  pub written : phrase_signs (array_signs P.arrays) phrase ≡ signs

-- the word of this name, which the next form defines; these are the forms before it, the latest first
abbrev pub NameRuns : Program → Reading → List Form → Tok → (Words → List Sign) → Type 0
NameRuns P r before n signs = let o = own n r in RunsPhrase P o.word (signs (words_behind o.reading.scope.table before))

-- The next form, where it is a definition, a constant, a maker of tuples, or a method, whose word is the next one.

abbrev pub DefinitionRuns : Program → Reading → List Form → Flat → Type 0
DefinitionRuns P r before form =
    (n : Tok) (e : Declared) (locals : Option ℕ) (inputs : List Tok) (items : List Element) (inline recursive : Bool) → AreItems locals items →
    read_form (form_of form) ≡ f_define n e (with_inputs inputs (nested items)) inline recursive → NameRuns P r before n (λ ws. meant ws inputs items)

abbrev pub ConstantRuns : Program → Reading → List Form → Flat → Type 0
ConstantRuns P r before form = (n : Tok) (items : List Element) → IsLiteral items → form_of form ≡ f_constant n (first_node (nested items)) → NameRuns P r before n (λ ws. meant ws [] items)

abbrev pub MakerRuns : Program → Reading → List Form → Flat → Type 0
MakerRuns P r before form = (n c : Tok) → form_of form ≡ f_maker n c → NameRuns P r before n (λ ws. maker_signs ws n c)

abbrev pub MethodRuns : Program → Reading → List Form → Flat → Type 0
MethodRuns P r before form =
    (c g : Tok) (locals : Option ℕ) (items : List Element) → AreItems locals items → form_of form ≡ f_method c g (nested items) → RunsPhrase P (length r.words) (meant (words_behind r.scope.table before) [] items)

-- and where it is items at the top level
abbrev pub ItemsRun : Program → Reading → List Form → Flat → Type 0
ItemsRun P r before form = (locals : Option ℕ) (items : List Element) → AreItems locals items → form_of form ≡ f_items (nested items) → RunsAtTop P r (meant (words_behind r.scope.table before) [] items)

-- Where files resolve to a program, it runs of each of their forms what the form's items mean behind the forms before.
abbrev pub ProgramsRunTheirForms : Type 0
ProgramsRunTheirForms =
    (P : Program) (files later : List (List Flat)) (forms rest : List Flat) (form : Flat) →
    (let all = files ++ (forms ++ form ∷ rest) ∷ later in
    let r = take_front (taken files) forms in
    let before = latest_first [] forms in
    AreWellFormed all → resolved all ≡ Ok P → DefinitionRuns P r before form × ConstantRuns P r before form × MakerRuns P r before form × MethodRuns P r before form × ItemsRun P r before form)
