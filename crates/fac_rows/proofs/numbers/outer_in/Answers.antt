use Rattle.std.proofs.Common.{◌≡◌, Some, subst}
use Rattle.fac_base.specs.Signatures.{Signature}
use Rattle.fac_abs.specs.RowVariables.{outer_in}
use Rattle.fac_abs.specs.MarkTrees.{Naming}
use Rattle.fac_rows.specs.RowNumbers.{NamesRows}
use Rattle.fac_rows.proofs.CallLemmas.{outer_in_first}
use Rattle.fac_rows.proofs.numbers.outer_in.Goals as goal

pub returns-in-Some : goal.returns-in-Some
returns-in-Some c = subst (λ (e : Signature). (N : Naming) → NamesRows N e → Some (N.row 1) ≡ outer_in e) c.effect.view_is (λ N names. outer_in_first N _ _ _ c.in-Some.field-0 c.in-Some.is names)
