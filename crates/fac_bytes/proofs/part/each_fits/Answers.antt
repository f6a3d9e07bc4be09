use Rattle.std.proofs.Common.{arith}
use Rattle.fac_bytes.proofs.FitLaws.{still_starts, still_on, still_ends, kept_by_one}
use Rattle.fac_bytes.proofs.part.each_fits.Goals as goal

pub loop-value-init : goal.loop-value-init
loop-value-init g c = still_starts g.T.Writable.format c.args.values.now

pub fits-requires : goal.fits-requires
fits-requires g c = kept_by_one g.T.Writable.keeps c.args.values.now c.loop-value.value-index c.value-item.result c.loop-value-test.true c.value-item.is c.requires

pub loop-value-preserved : goal.loop-value-preserved
loop-value-preserved g c = still_on g.T.Writable.format c.args.values.now c.loop-value.value-index c.value-item.result c.loop-value-test.true c.value-item.is c.fits.ensures c.loop-value.invariant

pub returns : goal.returns
returns g c = still_ends g.T.Writable.format c.args.values.now c.loop-value.value-index (omega arith) c.loop-value.invariant
