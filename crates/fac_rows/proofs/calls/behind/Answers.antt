use Rattle.std.proofs.Common.{◌≡◌, Some, sym, ap, ◌∙◌}
use Rattle.fac_base.specs.Signatures.{Signature}
use Rattle.fac_abs.specs.RowVariables.{row_name, effect_leaving}
use Rattle.fac_abs.specs.SeenMarks.{base_seen}
use Rattle.fac_rows.specs.RowNumbers.{leaving_name}
use Rattle.fac_rows.proofs.CallLemmas.{output_row, behind_is}
use Rattle.fac_rows.proofs.calls.behind.Goals as goal

pub returns-in_ok-output_row_number-in-Some-row_out : goal.returns-in_ok-output_row_number-in-Some-row_out
returns-in_ok-output_row_number-in-Some-row_out c = λ N names.
    let q : Signature = c.args.called.now in
    let x = c.in-Some-row_out.field-0.now in
    let n = c.in_ok-output_row_number-in-Some-row_out.field-0 in
    let row : row_name q ≡ Some c.in-Some.field-0 = ap row_name (sym c.called.view_is) ∙ c.in-Some.is in
    let left : leaving_name (effect_leaving q) ≡ Some x = ap (λ (e : Signature). leaving_name (effect_leaving e)) (sym c.called.view_is) ∙ sym c.in-Some-row_out.ensures in
    behind_is q (base_seen N c.args.base) x c.in-Some.field-0 (N.row n) row left (output_row N c.args.own.effect.now names c.args.input n q x c.requires left (c.in_ok-output_row_number-in-Some-row_out.ensures q x c.requires left))
