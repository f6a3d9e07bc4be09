use Rattle.std.proofs.Common.{◌≡◌, ℕ, List, Some, sym, ap, ◌∙◌}
use Rattle.fac_base.specs.Signatures.{Signature}
use Rattle.fac_abs.specs.RowVariables.{row_name, effect_inputs, input_effect}
use Rattle.fac_rows.specs.RowNumbers.{sides, side_number}
use Rattle.fac_rows.proofs.BindingLemmas.{if_ok}
use Rattle.fac_rows.proofs.CallLemmas.{numbered_there, input_number, input_named}
use Rattle.fac_rows.proofs.calls.input_row_number.Goals as goal

pub returns-in-None : goal.returns-in-None
returns-in-None c = λ q x there row.
    let own = c.args.own in
    numbered_there own.effect.now own.numbered.now own.same c.args.input q there c.in-None.ensures

pub returns-in-None-row_in : goal.returns-in-None-row_in
returns-in-None-row_in c = λ q x there row.
    let own = c.args.own in
    let called = c.in-Some.called.now in
    input_named own.effect.now own.numbered.now own.same c.args.input q there x called c.in-Some.ensures row (ap row_name (sym c.called.view_is) ∙ c.in-None-row_in.is)

pub returns-in-Some-row_in : goal.returns-in-Some-row_in
returns-in-Some-row_in c =
    let own = c.args.own in
    let e : Signature = own.effect.now in
    let d : Signature = own.numbered.now in
    let called : Signature = c.in-Some.called.now in
    let y : List ℕ = c.in-Some-row_in.name in
    if_ok (λ (n : ℕ). n ≡ side_number 1 y (sides d)) (λ (n : ℕ). (q : Signature) (x : List ℕ) → Some q ≡ input_effect c.args.input (effect_inputs e) → row_name q ≡ Some x → n ≡ side_number 1 x (sides e)) c.row_number.result
    (λ n number q x there row. input_number e d own.same c.args.input q there x called c.in-Some.ensures n y row (ap row_name (sym c.called.view_is) ∙ c.in-Some-row_in.is) number) c.row_number.ensures
