use Rattle.std.proofs.Common.{◌≡◌, ℕ, List, Some, sym, ap, ◌∙◌}
use Rattle.fac_base.specs.Signatures.{Signature}
use Rattle.fac_abs.specs.RowVariables.{effect_leaving}
use Rattle.fac_rows.specs.RowNumbers.{leaving_name, sides, side_number}
use Rattle.fac_rows.proofs.BindingLemmas.{if_ok}
use Rattle.fac_rows.proofs.CallLemmas.{own_output_number, own_output_named}
use Rattle.fac_rows.proofs.calls.output_number.Goals as goal

pub returns-in-None : goal.returns-in-None
returns-in-None c = λ x left.
    let own = c.args.own in
    own_output_named own.effect.now own.numbered.now own.same x left (ap (λ (z : Signature). leaving_name (effect_leaving z)) (sym c.numbered.view_is) ∙ sym c.in-None.ensures)

pub returns-in-Some : goal.returns-in-Some
returns-in-Some c =
    let own = c.args.own in
    let e : Signature = own.effect.now in
    let d : Signature = own.numbered.now in
    let y : List ℕ = c.in-Some.name.now in
    if_ok (λ (n : ℕ). n ≡ side_number 1 y (sides d)) (λ (n : ℕ). (x : List ℕ) → leaving_name (effect_leaving e) ≡ Some x → n ≡ side_number 1 x (sides e)) c.row_number.result
    (λ n number x left. own_output_number e d own.same x left n y (ap (λ (z : Signature). leaving_name (effect_leaving z)) (sym c.numbered.view_is) ∙ sym c.in-Some.ensures) number) c.row_number.ensures
