use Rattle.std.proofs.Common.{Option, subst}
use Rattle.std.specs.Prelude.{MatchOption}
use Rattle.fac_code.specs.declared.image.Image.{Image}
use Rattle.fac_expand.specs.inner.Pieces.{IsMade}
use Rattle.fac_expand.proofs.Expansions.{expands}
use Rattle.fac_expand.proofs.expansion.expanded.Goals as goal

pub returns-then-is_fit : goal.returns-then-is_fit
returns-then-is_fit c =
    let N = c.args.plain.now in
    let made = subst (λ (o : Option Image). MatchOption o (Unit {0}) (IsMade c.args.top N)) c.in-Some.is c.in_ok-image.ensures in
    expands c.args.top N c.in-Some.image made (c.is_fit.ensures.tests c.if-is_fit.true) (c.is_fit.ensures.few c.if-is_fit.true)
