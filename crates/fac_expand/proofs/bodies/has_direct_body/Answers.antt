use Rattle.std.proofs.Common.{ℕ, subst}
use Rattle.fac_expand.specs.inner.Bodies.{EndsAt}
use Rattle.fac_expand.proofs.BodyLemmas.{body_is_direct}
use Rattle.fac_expand.proofs.bodies.has_direct_body.Goals as goal

pub returns : goal.returns
returns c =
    λ e P are.
    let flags = c.args.flags.now in
    let end = c.end_of-end.result in
    body_is_direct c.args.image.now P c.args.uses.now are flags c.args.place end c.requires (subst (λ (n : ℕ). EndsAt flags c.args.place n end) c.len.ensures c.end_of-end.ensures) (c.are_direct_between.ensures e)
