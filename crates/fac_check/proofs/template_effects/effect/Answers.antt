use Rattle.std.proofs.Common.{sym, subst}
use Rattle.fac_check.specs.TemplateEffects.{IsEffect}
use Rattle.fac_check.specs.inner.Searching.{IsLeast}
use Rattle.fac_check.proofs.SearchLemmas.{effect_found, effect_none}
use Rattle.fac_check.proofs.template_effects.effect.Goals as goal

pub returns-in-Some : goal.returns-in-Some
returns-in-Some c =
    let closed = c.args.closed.now in
    let k = c.args.template in
    subst (IsEffect closed k) (sym c.within.ensures) (effect_found closed k c.in-Some.height (subst (IsLeast closed k) c.in-Some.is c.in_ok-height.ensures))

pub returns-in-None : goal.returns-in-None
returns-in-None c =
    let closed = c.args.closed.now in
    let k = c.args.template in
    effect_none closed k (subst (IsLeast closed k) c.in-None.is c.in_ok-height.ensures)
