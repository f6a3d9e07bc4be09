-- What linking makes of a closed program.
use Rattle.std.specs.Prelude.{◌≡◌, ℕ, List, [], ◌∷◌, ◌++◌, length, true, Option}
use Rattle.std.specs.List.{list_all}
use Rattle.fac_base.specs.declared.height.Height.{Height}
use Rattle.fac_lang.specs.declared.program.WordDef.{WordDef}
use Rattle.fac_locals.specs.declared.closing.Closed.{Closed}
use Rattle.fac_bytes.specs.Spellable.{is_short}
use Rattle.fac_emit.specs.declared.compiler.Parts.{Parts}
use Rattle.fac_emit.specs.declared.compiler.OtherTables.{OtherTables}
use Rattle.fac_emit.specs.ProgramTexts.{program_texts}
use Rattle.fac_emit.specs.ProgramTables.{program_kinds, program_sets, program_pairs}
use Rattle.fac_emit.specs.ProgramCode.{program_code, program_templates, program_words, program_generics, program_arrays, word_row, word_code, code_from, words_from}

pub record AreParts (C : Closed) (heights : List (Option Height)) (p : Parts) : Type 0 where
  pub code : p.code ≡ program_code C
  pub template_rows_are : p.templates ≡ program_templates C heights
  pub word_rows : p.words ≡ program_words C

pub record AreTables (C : Closed) (t : OtherTables) : Type 0 where
  pub texts : t.texts ≡ program_texts C
  pub arrays : t.arrays ≡ program_arrays C
  pub kinds : t.kinds ≡ program_kinds C
  pub sets : t.sets ≡ program_sets C.program
  pub generics : t.generics ≡ program_generics C
  pub pairs : t.pairs ≡ program_pairs C.program
  pub short : list_all is_short t.texts ≡ true

-- the code and the row of the word with this number were added behind those that stood
abbrev pub PlacesWord : Closed → ℕ → WordDef → Parts → Parts → Type 0
PlacesWord C w d old new =
    (new.code ≡ old.code ++ word_code C w d) × (new.templates ≡ old.templates) × (new.words ≡ old.words ++ word_row C (length old.code) w d ∷ [])

-- the code and the rows of all words were added
abbrev pub PlacesWords : Closed → Parts → Parts → Type 0
PlacesWords C old new =
    (new.code ≡ old.code ++ code_from C 0 C.program.words) × (new.templates ≡ old.templates) × (new.words ≡ old.words ++ words_from C (length old.code) 0 C.program.words)
