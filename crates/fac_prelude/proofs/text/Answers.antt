use Rattle.std.proofs.Common.{refl}
use Rattle.fac_prelude.specs.PreludeText.{prelude_text}
use Rattle.fac_prelude.proofs.text.Goals as goal

pub returns : goal.returns
unfolding prelude_text
returns c = refl
