use Rattle.std.proofs.Common.{refl}
use Rattle.fac_lang.specs.Operations.{operation_does}
use Rattle.fac_lang.specs.Primitives.{rows_seen}
use Rattle.fac_lang.proofs.tables.primitives.Goals as goal

-- each row's word takes and leaves as many values as its operation
pub returns : goal.returns
unfolding rows_seen operation_does
returns c = refl
