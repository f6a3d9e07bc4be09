use Rattle.std.proofs.Common.{◌≡◌, ℕ, List, Some, subst, sym, ap, ◌∙◌}
use Rattle.fac_base.specs.Signatures.{Signature}
use Rattle.fac_abs.specs.RowVariables.{effect_leaving, outer_out}
use Rattle.fac_abs.specs.MarkTrees.{Naming}
use Rattle.fac_rows.specs.RowNumbers.{NamesRows, leaving_name, sides, side_number}
use Rattle.fac_rows.proofs.CallLemmas.{outer_out_numbered}
use Rattle.fac_rows.proofs.calls.own_out.Goals as goal

pub returns-in_ok-output_number-in-Some : goal.returns-in_ok-output_number-in-Some
returns-in_ok-output_number-in-Some c =
    let x : List ℕ = c.in-Some.field-0.now in
    let n : ℕ = c.in_ok-output_number-in-Some.field-0 in
    let left : leaving_name (effect_leaving c.args.own.effect.now) ≡ Some x = ap (λ (e : Signature). leaving_name (effect_leaving e)) (sym c.effect.view_is) ∙ sym c.in-Some.ensures in
    let number = c.in_ok-output_number-in-Some.ensures x left in
    subst (λ (e : Signature). n ≡ side_number 1 x (sides e) → (N : Naming) → NamesRows N e → Some (N.row n) ≡ outer_out e) c.effect.view_is (λ known N names. outer_out_numbered N _ _ _ x (sym c.in-Some.ensures) names n known) number
