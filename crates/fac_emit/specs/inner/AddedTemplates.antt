-- What adding templates does to code and to the rows of templates.
use Rattle.std.specs.Prelude.{◌≡◌, List, [], ◌∷◌, ◌++◌, length, Option}
use Rattle.fac_base.specs.declared.height.Height.{Height}
use Rattle.fac_lang.specs.declared.phrase.Template.{Template}
use Rattle.fac_locals.specs.declared.closing.Closed.{Closed}
use Rattle.fac_code.specs.declared.image.Instr.{Instr}
use Rattle.fac_code.specs.declared.image.Instr.TheVariants.{Ret}
use Rattle.fac_code.specs.declared.image.TemplateRow.{TemplateRow}
use Rattle.fac_emit.specs.ProgramCode.{phrase_code, row_at, templates_code, template_rows}

-- the code of a template stands behind the other, and its row with this effect
abbrev pub AddsTemplate : Closed → Option Height → Template → List Instr → List Instr → List TemplateRow → List TemplateRow → Type 0
AddsTemplate C height template code code_then rows rows_then =
    (code_then ≡ code ++ phrase_code C Ret template.body) × (rows_then ≡ rows ++ row_at height (length code) template ∷ [])

-- that of the templates, and their rows, in their order
abbrev pub AddsTemplates : Closed → List (Option Height) → List Instr → List Instr → List TemplateRow → List TemplateRow → Type 0
AddsTemplates C heights code code_then rows rows_then =
    (code_then ≡ code ++ templates_code C C.templates) × (rows_then ≡ rows ++ template_rows C heights (length code) 0 C.templates)
