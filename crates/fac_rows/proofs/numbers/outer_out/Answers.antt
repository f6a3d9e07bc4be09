use Rattle.std.proofs.Common.{◌≡◌, Some, subst, sym, ap, ◌∙◌}
use Rattle.fac_base.specs.Signatures.{Signature}
use Rattle.fac_abs.specs.RowVariables.{outer_out}
use Rattle.fac_abs.specs.MarkTrees.{Naming}
use Rattle.fac_rows.specs.RowNumbers.{NamesRows, is_named}
use Rattle.fac_rows.proofs.CallLemmas.{outer_out_first, outer_out_second}
use Rattle.fac_rows.proofs.numbers.outer_out.Goals as goal

pub returns-then-has_name : goal.returns-then-has_name
returns-then-has_name c =
    let x = c.in-Some.name.now in
    subst (λ (e : Signature). (N : Naming) → NamesRows N e → Some (N.row 1) ≡ outer_out e) c.effect.view_is (λ N names. outer_out_first N _ _ _ x (sym c.in-Some.ensures) names (c.if-has_name.ensures ∙ ap (is_named x) c.as_ref.ensures.value))

pub returns-else-has_name : goal.returns-else-has_name
returns-else-has_name c =
    let x = c.in-Some.name.now in
    subst (λ (e : Signature). (N : Naming) → NamesRows N e → Some (N.row 2) ≡ outer_out e) c.effect.view_is (λ N names. outer_out_second N _ _ _ x (sym c.in-Some.ensures) names (c.if-has_name.ensures ∙ ap (is_named x) c.as_ref.ensures.value))
