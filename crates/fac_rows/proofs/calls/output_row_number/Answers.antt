use Rattle.std.proofs.Common.{◌≡◌, ℕ, List, Some, sym, ap, ◌∙◌}
use Rattle.fac_base.specs.Signatures.{Signature}
use Rattle.fac_abs.specs.RowVariables.{effect_inputs, effect_leaving, input_effect}
use Rattle.fac_rows.specs.RowNumbers.{leaving_name, sides, side_number}
use Rattle.fac_rows.proofs.BindingLemmas.{if_ok}
use Rattle.fac_rows.proofs.CallLemmas.{numbered_there, output_number, output_named}
use Rattle.fac_rows.proofs.calls.output_row_number.Goals as goal

pub returns-in-None : goal.returns-in-None
returns-in-None c = λ q x there row.
    let own = c.args.own in
    numbered_there own.effect.now own.numbered.now own.same c.args.input q there c.in-None.ensures

pub returns-in-None-row_out : goal.returns-in-None-row_out
returns-in-None-row_out c = λ q x there left.
    let own = c.args.own in
    let called = c.in-Some.called.now in
    output_named own.effect.now own.numbered.now own.same c.args.input q there x called c.in-Some.ensures left (ap (λ (z : Signature). leaving_name (effect_leaving z)) (sym c.called.view_is) ∙ sym c.in-None-row_out.ensures)

pub returns-in-Some-row_out : goal.returns-in-Some-row_out
returns-in-Some-row_out c =
    let own = c.args.own in
    let e : Signature = own.effect.now in
    let d : Signature = own.numbered.now in
    let called : Signature = c.in-Some.called.now in
    let y : List ℕ = c.in-Some-row_out.name.now in
    if_ok (λ (n : ℕ). n ≡ side_number 1 y (sides d)) (λ (n : ℕ). (q : Signature) (x : List ℕ) → Some q ≡ input_effect c.args.input (effect_inputs e) → leaving_name (effect_leaving q) ≡ Some x → n ≡ side_number 1 x (sides e)) c.row_number.result
    (λ n number q x there left. output_number e d own.same c.args.input q there x called c.in-Some.ensures n y left (ap (λ (z : Signature). leaving_name (effect_leaving z)) (sym c.called.view_is) ∙ sym c.in-Some-row_out.ensures) number) c.row_number.ensures
