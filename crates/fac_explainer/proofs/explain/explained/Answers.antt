use Rattle.std.proofs.Common.{arith, map}
use Rattle.std.specs.Prelude.{string_bytes}
use Rattle.fac_explainer.proofs.GivenLemmas.{numbered_again}
use Rattle.fac_explainer.proofs.ExplainedLemmas.{explained_again}
use Rattle.fac_explainer.proofs.explain.explained.Goals as goal

pub check_given-requires-after_bounds : goal.check_given-requires-after_bounds
check_given-requires-after_bounds g c κs within =
    numbered_again c.in_ok-given.given c.args.texts c.in_ok-given.ensures (omega (arith, c.len-count.ensures, c.len-count.type_inv)) c.requires

pub returns : goal.returns
returns g c =
    explained_again (map string_bytes c.args.names.now) c.args.texts c.in_ok-given.given c.in_ok-refusal.refusal c.in_ok-text.text c.in_ok-given.ensures c.in_ok-refusal.ensures c.in_ok-text.ensures
