-- The rows of a linked image have the effects of the program's callables.
use Rattle.std.proofs.Common.{◌≡◌, ℕ, zero, suc, ◌+◌, List, [], ◌∷◌, Some, Result, Ok, Err, IfOk, length, refl, ap, sym, subst, ◌∙◌, arith}
use Rattle.std.specs.Prelude.{map, slice_get}
use Rattle.std.specs.declared.option.Option.{Option}
use Rattle.fac_base.specs.declared.memory.Memory.{Memory}
use Rattle.fac_base.specs.declared.height.Height.{Height}
use Rattle.fac_lang.specs.declared.phrase.Template.{Template}
use Rattle.fac_lang.specs.declared.program.Program.{Program}
use Rattle.fac_lang.specs.Phrases.{Value}
use Rattle.fac_locals.specs.declared.closing.Closed.{Closed}
use Rattle.fac_check.specs.TemplateEffects.{AreEffects}
use Rattle.fac_code.specs.declared.image.Image.{Image}
use Rattle.fac_code.specs.declared.image.Instr.TheVariants.{Ret}
use Rattle.fac_code.specs.declared.image.TemplateRow.{TemplateRow}
use Rattle.fac_store.specs.CallableHeights.{height_there}
use Rattle.fac_carry.specs.Direct.{DirectIsInPlace}
use Rattle.fac_emit.specs.ProgramCode.{IsPlain, phrase_code, program_templates, row_at, template_rows}
use Rattle.fac_expand.specs.SameButPlaces.{template_without_place, SameButPlaces}
use Rattle.fac_expand.specs.Expands.{Expands}
use Rattle.fac_expand.proofs.ExpandedTables.{of_row}
use Rattle.fac_tool.specs.Saved.{HasEffects}
use Rattle.fac_tool.specs.inner.ImageSteps.{CarriedWhole}
use Rattle.fac_tool.specs.inner.Stops.{Carried, StandsForSafe}
use Rattle.fac_tool.proofs.ClosedLemmas.{effects_there}

-- the template of a row, and its effect
record RowOf (heights : List (Option Height)) (ts : List Template) (q k : ℕ) (row : TemplateRow) : Type 0 where
  template : Template
  there : slice_get ts k ≡ Some template
  cells : row.cells ≡ template.captures
  holes : row.holes ≡ template.holes
  height : row.height ≡ height_there (slice_get heights (q + k))

row_of :
    (C : Closed) (heights : List (Option Height)) (at q : ℕ) (ts : List Template) (k : ℕ) (row : TemplateRow) → slice_get (template_rows C heights at q ts) k ≡ Some row → RowOf heights ts q k row
row_of C heights at q [] k row e = absurd (cc)
row_of C heights at q (t ∷ ts) zero row e =
    let same : row_at (height_there (slice_get heights q)) at t ≡ row = cc in
    let number : q ≡ q + 0 = omega arith in
    record {
      template = t;
      there = refl;
      cells = sym (ap (λ (r : TemplateRow). r.cells) same);
      holes = sym (ap (λ (r : TemplateRow). r.holes) same);
      height = sym (ap (λ (r : TemplateRow). r.height) same) ∙ ap (λ (j : ℕ). height_there (slice_get heights j)) number;
    }
row_of C heights at q (t ∷ ts) (suc k) row e =
    let number : suc q + k ≡ q + suc k = omega arith in
    let later = row_of C heights (at + length (phrase_code C Ret t.body)) (suc q) ts k row e in
    record {
      template = later.template;
      there = later.there;
      cells = later.cells;
      holes = later.holes;
      height = later.height ∙ ap (λ (j : ℕ). height_there (slice_get heights j)) number;
    }

-- the rows of plain code have these effects
rows_have : (closed : Closed) (heights : List (Option Height)) (P : Program) (M : Image) → AreEffects closed heights → StandsForSafe closed P → IsPlain closed heights M → HasEffects P M
rows_have closed heights P M effects stands plain q row vs found count =
    let rows : slice_get (program_templates closed heights) q ≡ Some row = ap (λ (rs : List TemplateRow). slice_get rs q) (sym plain.template_rows_are) ∙ found in
    let found_row = row_of closed heights 0 0 closed.templates q row rows in
    let cells : length row.cells ≡ length found_row.template.captures = ap length found_row.cells in
    let many : length vs ≡ length found_row.template.captures + found_row.template.holes = omega (arith, count, cells, found_row.holes) in
    let number : 0 + q ≡ q = omega arith in
    found_row.height ∙ ap (λ (j : ℕ). height_there (slice_get heights j)) number ∙ sym (effects_there closed heights P effects stands q found_row.template vs found_row.there many)

-- and so have those of an image that is the same but for places
moved_have : (P : Program) (N M : Image) → SameButPlaces N M → HasEffects P N → HasEffects P M
moved_have P N M same rows q row vs found count =
    let before = of_row template_without_place M.templates N.templates same.templates q row found in
    let size : length (before.0).cells + (before.0).holes ≡ length row.cells + row.holes = ap (λ (r : TemplateRow). length r.cells + r.holes) before.2 in
    sym (ap (λ (r : TemplateRow). r.height) before.2) ∙ rows q before.0 vs before.1 (count ∙ sym size)

pub if_rows_have :
    (closed : Closed) (heights : List (Option Height)) (plain : Image) (r : Result Image Memory) → IsPlain closed heights plain → IfOk r (Expands closed.program.top plain) →
    IfOk r (λ image. AreEffects closed heights → (P : Program) → StandsForSafe closed P → HasEffects P image)
if_rows_have closed heights plain (Ok image) is_plain expands = λ effects P stands. moved_have P plain image expands.same (rows_have closed heights P plain effects stands is_plain)
if_rows_have closed heights plain (Err e) is_plain expands = tt

-- so an image that is linked with all effects has them, beside direct phrases in place
pub whole_carried :
    (closed : Closed) (heights slice : List (Option Height)) (r : Result Image Memory) → slice ≡ heights → AreEffects closed heights → IfOk r (λ image. (P : Program) → StandsForSafe closed P → Carried P image) →
    IfOk r (λ image. AreEffects closed slice → (P : Program) → StandsForSafe closed P → HasEffects P image) → IfOk r (λ image. (P : Program) → StandsForSafe closed P → DirectIsInPlace P image) →
    IfOk r (λ image. (P : Program) → StandsForSafe closed P → CarriedWhole P image)
whole_carried closed heights slice (Ok image) same effects carried rows direct =
    let here = subst (AreEffects closed) (sym same) effects in
    λ P stands. record { carried = carried P stands; effects = rows here P stands; direct = direct P stands }
whole_carried closed heights slice (Err e) same effects carried rows direct = tt
