use Rattle.std.proofs.Common.{Result, refl, sym, subst}
use Rattle.fac_tool.specs.declared.accepting.Accepted.{Accepted}
use Rattle.fac_tool.specs.declared.ended.Ended.{Ended}
use Rattle.fac_tool.specs.Answer.{own_definitions}
use Rattle.fac_tool.specs.inner.StepEnds.{Accepts}
use Rattle.fac_tool.proofs.Composing.{passed_on, ends_on_program, accepts_checked}
use Rattle.fac_tool.proofs.accepting.accepted_program.Goals as goal

pub returns-in_err-checked : goal.returns-in_err-checked
returns-in_err-checked g c =
    let named = c.in_ok-program.ensures in
    let P = c.in_ok-program.field-0.program in
    let same = passed_on c.from_residual-in_err-checked.result c.in_err-checked.field-0.0 c.from_residual-in_err-checked.ensures.1 in
    subst (λ (r : Result Accepted Ended). Accepts c.args.texts r) (sym same)
    (ends_on_program c.args.texts named.files P _ named.are_trees named.resolves (c.in_err-checked.ensures P c.in_ok-closed.ensures.0 (own_definitions named.files)))

pub returns : goal.returns
returns g c =
    accepts_checked c.args.texts c.in_ok-program.field-0 _ c.in_ok-program.ensures (c.in_ok-checked.ensures c.in_ok-program.field-0.program c.in_ok-closed.ensures.0 0) refl
