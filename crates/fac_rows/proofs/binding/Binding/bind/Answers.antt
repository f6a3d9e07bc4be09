use Rattle.std.proofs.Common.{◌≡◌, sym, ap, ◌∙◌}
use Rattle.fac_base.specs.Signatures.{Signature, never}
use Rattle.fac_base.specs.EffectView.{outs_leaving}
use Rattle.fac_abs.specs.RowVariables.{row_name, effect_leaving}
use Rattle.fac_rows.proofs.BindingLemmas.{never_tied}
use Rattle.fac_rows.proofs.binding.Binding.bind.Goals as goal

pub returns-in-Never-clause-ties : goal.returns-in-Never-clause-ties
returns-in-Never-clause-ties c =
    let e : Signature = c.args.effect.now in
    let left : effect_leaving e ≡ never = ap effect_leaving (sym c.effect.view_is) ∙ ap outs_leaving c.in-Never.is in
    never_tied c.args.marks.now c.args.input e c.args.left c.args.self.now c.tie_never.result left (c.tie_never.ensures (row_name e)) c.requires.there
