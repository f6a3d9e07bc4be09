use Rattle.std.proofs.Common.{◌≡◌, ℕ, List, Option, Some, None, true, sym, ap, ◌∙◌}
use Rattle.fac_lang.specs.Phrases.{Mark}
use Rattle.fac_base.specs.Signatures.{Signature}
use Rattle.fac_base.specs.Effects.{inputs_count}
use Rattle.fac_abs.specs.RowVariables.{Row, named_row, row_name, effect_inputs}
use Rattle.fac_abs.specs.InTurn.{under}
use Rattle.fac_abs.specs.Marks.{base_eq}
use Rattle.fac_abs.specs.SeenMarks.{base_seen, stack_of}
use Rattle.fac_rows.proofs.CallLemmas.{input_row, call_few, call_free, call_on_row, call_other_base, call_more}
use Rattle.fac_rows.proofs.calls.fit.Goals as goal
use Rattle.fac_rows.proofs.calls.fit.Goals.{else-same_base-via-then-same_base+else-height-eq0, else-same_base-via-else-same_base}

pub returns-then-height-eq0 : goal.returns-then-height-eq0
returns-then-height-eq0 c =
    let q : Signature = c.args.called.now in
    let x = c.in-Some-row_in.field-0 in
    let n = c.in_ok-row-in-Some-row_in.row in
    let row : row_name q ≡ Some x = ap row_name (sym c.called.view_is) ∙ c.in-Some-row_in.is in (
      c.in-Some.ensures.0,
      λ N names.
          let b : Option Row = base_seen N c.args.base in
          let ms : List Mark = stack_of N c.args.marks.now c.args.stack in
          let rest : List Mark = stack_of N c.args.marks.now c.in-Some.rest in
          let below : under (inputs_count (effect_inputs q)) ms ≡ Some rest = ap (λ (k : ℕ). under k ms) (sym c.in_ok-counted_inputs.ensures) ∙ c.in-Some.ensures.1 N in
          let named : N.row n ≡ named_row x = input_row N c.args.own.effect.now names c.args.input n q x c.requires.called row (c.in_ok-row-in-Some-row_in.ensures q x c.requires.called row) in
          let based : true ≡ base_eq b (Some (named_row x)) = c.if-same_base.ensures N ∙ ap (λ (r : Row). base_eq b (Some r)) named in
          call_on_row c.args.input b ms rest q x row below based (sym (c.height.ensures N) ∙ c.if-height-eq0.true),
    )

pub returns-in-None : goal.returns-in-None
returns-in-None c = λ N names.
    let q : Signature = c.args.called.now in
    let ms : List Mark = stack_of N c.args.marks.now c.args.stack in
    let below : under (inputs_count (effect_inputs q)) ms ≡ None = ap (λ (k : ℕ). under k ms) (sym c.in_ok-counted_inputs.ensures) ∙ c.in-None.ensures N in
    call_few c.args.input q (base_seen N c.args.base) ms below

pub returns-in-None-row_in : goal.returns-in-None-row_in
returns-in-None-row_in c =
    let q : Signature = c.args.called.now in
    let row : row_name q ≡ None = ap row_name (sym c.called.view_is) ∙ c.in-None-row_in.is in (
      c.in-Some.ensures.0,
      λ N names.
          let ms : List Mark = stack_of N c.args.marks.now c.args.stack in
          let rest : List Mark = stack_of N c.args.marks.now c.in-Some.rest in
          let below : under (inputs_count (effect_inputs q)) ms ≡ Some rest = ap (λ (k : ℕ). under k ms) (sym c.in_ok-counted_inputs.ensures) ∙ c.in-Some.ensures.1 N in
          call_free c.args.input (base_seen N c.args.base) ms rest q row below,
    )

pub returns-else-same_base : goal.returns-else-same_base
returns-else-same_base c = λ N names.
    let q : Signature = c.args.called.now in
    let x = c.in-Some-row_in.field-0 in
    let n = c.in_ok-row-in-Some-row_in.row in
    let row : row_name q ≡ Some x = ap row_name (sym c.called.view_is) ∙ c.in-Some-row_in.is in
    let b : Option Row = base_seen N c.args.base in
    let ms : List Mark = stack_of N c.args.marks.now c.args.stack in
    let rest : List Mark = stack_of N c.args.marks.now c.in-Some.rest in
    let below : under (inputs_count (effect_inputs q)) ms ≡ Some rest = ap (λ (k : ℕ). under k ms) (sym c.in_ok-counted_inputs.ensures) ∙ c.in-Some.ensures.1 N in
    let named : N.row n ≡ named_row x = input_row N c.args.own.effect.now names c.args.input n q x c.requires.called row (c.in_ok-row-in-Some-row_in.ensures q x c.requires.called row) in
    elim c.else-same_base.branch [
      | else-same_base-via-then-same_base+else-height-eq0 w ↦ call_more c.args.input b ms rest q x row below (λ h. w.if-height-eq0.false (w.height.ensures N ∙ h))
      | else-same_base-via-else-same_base w ↦ call_other_base c.args.input b ms rest q x row (w.if-same_base.ensures N ∙ ap (λ (r : Row). base_eq b (Some r)) named)
    ]
