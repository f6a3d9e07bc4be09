-- The laws of the whole.
use Rattle.std.proofs.Common.{ℕ, List, refl, ap, sym}
use Rattle.fac_code.specs.declared.image.Instr.{Instr}
use Rattle.fac_code.specs.declared.image.Tables.{Tables}
use Rattle.fac_spelling.specs.Formats.{Exact, follow}
use Rattle.fac_spelling.specs.Numbers.{number32}
use Rattle.fac_spelling.specs.Bytes.{fixed}
use Rattle.fac_spelling.specs.Lists.{counted, ascending, ascending_by}
use Rattle.fac_spelling.specs.Texts.{text}
use Rattle.fac_spelling.proofs.FormatLaws.{follow_exact, seen_exact}
use Rattle.fac_spelling.proofs.NumberLaws.{number32_exact}
use Rattle.fac_spelling.proofs.ByteLaws.{fixed_exact, fixed_is}
use Rattle.fac_spelling.proofs.ListLaws.{counted_exact, ascending_exact, ascending_by_exact}
use Rattle.fac_spelling.proofs.TextLaws.{text_exact}
use Rattle.fac_bytes.specs.declared.parts.ImageParts.{ImageParts}
use Rattle.fac_bytes.specs.InstructionBytes.{instr}
use Rattle.fac_bytes.specs.RowBytes.{elem, kind, template, word}
use Rattle.fac_bytes.specs.GenericBytes.{generics}
use Rattle.fac_bytes.specs.ImageBytes.{first_bytes, first_tables, last_tables, first_of, last_of, tables, image}
use Rattle.fac_bytes.proofs.InstructionLaws.{instr_exact}
use Rattle.fac_bytes.proofs.RowLaws.{elem_exact, kind_exact, template_exact, word_exact}
use Rattle.fac_bytes.proofs.GenericLaws.{generics_exact}

first_exact : Exact first_tables
first_exact =
    follow_exact (counted text) (λ _. follow (counted (counted elem)) (λ _. follow (counted kind) (λ _. counted ascending))) (counted_exact text text_exact) (λ _ _.
    follow_exact (counted (counted elem)) (λ _. follow (counted kind) (λ _. counted ascending)) (counted_exact (counted elem) (counted_exact elem elem_exact)) (λ _ _.
    follow_exact (counted kind) (λ _. counted ascending) (counted_exact kind kind_exact) (λ _ _. counted_exact ascending ascending_exact)))

last_exact : Exact last_tables
last_exact =
    follow_exact (counted template) (λ _. follow (counted word) (λ _. follow generics (λ _. ascending_by number32))) (counted_exact template template_exact) (λ _ _.
    follow_exact (counted word) (λ _. follow generics (λ _. ascending_by number32)) (counted_exact word word_exact) (λ _ _.
    follow_exact generics (λ _. ascending_by number32) generics_exact (λ _ _. ascending_by_exact number32 number32_exact)))

pub tables_exact : Exact tables
tables_exact = seen_exact (λ (T : Tables). (first_of T, last_of T))
    (λ p. record { texts = p.0.0; arrays = p.0.1.0; kinds = p.0.1.1.0; sets = p.0.1.1.1; templates = p.1.0; words = p.1.1.0; generics = p.1.1.1.0; pairs = p.1.1.1.1 })
    (follow first_tables (λ _. last_tables))
    (follow_exact first_tables (λ _. last_tables) first_exact (λ _ _. last_exact))
    (λ _ _. refl) (λ _ _. refl)

abbrev Rest : Type 0
Rest = Tables × (List Instr × ℕ)

pub image_exact : Exact image
image_exact = seen_exact (λ (P : ImageParts). (first_bytes, (P.tables, (P.code, P.start)))) (λ p. record { tables = p.1.0; code = p.1.1.0; start = p.1.1.1 })
    (follow (fixed first_bytes) (λ _. follow tables (λ _. follow (counted instr) (λ _. number32))))
    (follow_exact (fixed first_bytes) (λ _. follow tables (λ _. follow (counted instr) (λ _. number32))) (fixed_exact first_bytes) (λ _ _.
    follow_exact tables (λ _. follow (counted instr) (λ _. number32)) tables_exact (λ _ _.
    follow_exact (counted instr) (λ _. number32) (counted_exact instr instr_exact) (λ _ _. number32_exact))))
    (λ _ _. refl)
    (λ x h. ap (λ (bs : List ℕ). let y : List ℕ × Rest = (bs, x.1) in y) (sym (fixed_is first_bytes x.0 h.0)))
