-- The code of words and of templates, a list for each, and that which a piece makes.
use Rattle.std.specs.Prelude.{ℕ, suc, List, [], ◌∷◌, map, Option, Some, None, slice_get}
use Rattle.fac_lang.specs.declared.phrase.Template.{Template}
use Rattle.fac_lang.specs.declared.program.WordDef.{WordDef}
use Rattle.fac_locals.specs.declared.closing.Closed.{Closed}
use Rattle.fac_code.specs.declared.image.Instr.{Instr}
use Rattle.fac_code.specs.declared.image.Instr.TheVariants.{Ret}
use Rattle.fac_emit.specs.declared.pieces.TemplatePiece.{TemplatePiece}
use Rattle.fac_emit.specs.declared.pieces.WordPiece.{WordPiece}
use Rattle.fac_emit.specs.ProgramCode.{phrase_code, word_code}

-- the code of a template
abbrev pub template_code : Closed → Template → List Instr
template_code C t = phrase_code C Ret t.body

-- of all templates
abbrev pub template_codes : Closed → List (List Instr)
template_codes C = map (template_code C) C.templates

-- of the words from word w on
abbrev pub codes_from : Closed → ℕ → List WordDef → List (List Instr)
codes_from C w [] = []
codes_from C w (d ∷ ds) = word_code C w d ∷ codes_from C (suc w) ds

-- of all words
abbrev pub word_codes : Closed → List (List Instr)
word_codes C = codes_from C 0 C.program.words

-- of a template, where it is there
abbrev pub found_template_code : Closed → Option Template → List Instr
found_template_code C None = []
found_template_code C (Some t) = template_code C t

-- of the word with this number, where it is there
abbrev pub found_word_code : Closed → ℕ → Option WordDef → List Instr
found_word_code C w None = []
found_word_code C w (Some d) = word_code C w d

-- of a piece
abbrev pub template_piece_code : TemplatePiece → List Instr
template_piece_code p = found_template_code p.emission.now (slice_get p.emission.now.templates p.number)

abbrev pub word_piece_code : WordPiece → List Instr
word_piece_code p = found_word_code p.emission.now p.number (slice_get p.emission.now.program.words p.number)

-- that at a place of a list, where it is there
abbrev pub code_there : Option (List Instr) → List Instr
code_there None = []
code_there (Some code) = code
