-- The bytes of an image, section by section.
use Rattle.std.specs.Prelude.{ℕ, List, [], ◌∷◌, Bool}
use Rattle.fac_code.specs.declared.image.Elem.{Elem}
use Rattle.fac_code.specs.declared.image.KindRow.{KindRow}
use Rattle.fac_code.specs.declared.image.TemplateRow.{TemplateRow}
use Rattle.fac_code.specs.declared.image.WordRow.{WordRow}
use Rattle.fac_code.specs.declared.image.GenericRow.{GenericRow}
use Rattle.fac_code.specs.declared.image.Tables.{Tables}
use Rattle.fac_code.specs.declared.image.Image.{Image}
use Rattle.fac_code.specs.References.{is_image}
use Rattle.fac_code.specs.Images.{tables_of}
use Rattle.fac_spelling.specs.Formats.{Format, follow, seen}
use Rattle.fac_spelling.specs.Numbers.{number32}
use Rattle.fac_spelling.specs.Bytes.{fixed}
use Rattle.fac_spelling.specs.Lists.{counted, ascending, ascending_by}
use Rattle.fac_spelling.specs.Texts.{text}
use Rattle.fac_bytes.specs.declared.parts.ImageParts.{ImageParts}
use Rattle.fac_bytes.specs.InstructionBytes.{instr}
use Rattle.fac_bytes.specs.RowBytes.{elem, kind, template, word}
use Rattle.fac_bytes.specs.GenericBytes.{generics}

-- `FCI1`
abbrev pub first_bytes : List ℕ
first_bytes = 0x46 ∷ 0x43 ∷ 0x49 ∷ 0x31 ∷ []

-- texts, literal arrays, kinds and class sets
abbrev pub FirstTables : Type 0
FirstTables = List (List ℕ) × (List (List Elem) × (List KindRow × List (List ℕ)))

abbrev pub first_tables : Format FirstTables
first_tables = follow (counted text) (λ _. follow (counted (counted elem)) (λ _. follow (counted kind) (λ _. counted ascending)))

-- templates, words, generics, and the kinds of words
abbrev pub LastTables : Type 0
LastTables = List TemplateRow × (List WordRow × (List GenericRow × List (ℕ × ℕ)))

abbrev pub last_tables : Format LastTables
last_tables = follow (counted template) (λ _. follow (counted word) (λ _. follow generics (λ _. ascending_by number32)))

abbrev pub first_of : Tables → FirstTables
first_of T = (T.texts, (T.arrays, (T.kinds, T.sets)))

abbrev pub last_of : Tables → LastTables
last_of T = (T.templates, (T.words, (T.generics, T.pairs)))

abbrev pub tables : Format Tables
tables = seen (λ T. (first_of T, last_of T))
    (λ p. record {
      texts = p.0.0;
      arrays = p.0.1.0;
      kinds = p.0.1.1.0;
      sets = p.0.1.1.1;
      templates = p.1.0;
      words = p.1.1.0;
      generics = p.1.1.1.0;
      pairs = p.1.1.1.1;
    })
    (follow first_tables (λ _. last_tables))

-- all of the bytes
abbrev pub image : Format ImageParts
image = seen (λ P. (first_bytes, (P.tables, (P.code, P.start)))) (λ p. record { tables = p.1.0; code = p.1.1.0; start = p.1.1.1 })
    (follow (fixed first_bytes) (λ _. follow tables (λ _. follow (counted instr) (λ _. number32))))

-- the rule on what the numbers name
abbrev pub are_image : ImageParts → Bool
are_image P = is_image P.tables P.code P.start

abbrev pub parts_of : Image → ImageParts
parts_of M = record { tables = tables_of M; code = M.code; start = M.start }
