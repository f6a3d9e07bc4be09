use Rattle.std.proofs.Common.{arith}
use Rattle.fac_explainer.proofs.GivenLemmas.{numbered_again}
use Rattle.fac_explainer.proofs.checking.check_texts.Goals as goal

pub check_given-requires-after_bounds : goal.check_given-requires-after_bounds
check_given-requires-after_bounds g c κs within =
    numbered_again c.in_ok-given.given c.args.texts c.in_ok-given.ensures (omega (arith, c.len-count.ensures, c.len-count.type_inv)) c.requires
