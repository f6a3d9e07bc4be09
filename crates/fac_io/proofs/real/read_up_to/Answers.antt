use Rattle.std.proofs.Common.{ap, arith, length, take, length-append}
use Rattle.std.proofs.KnownBytes.{Consumes-trans}
use Rattle.fac_io.proofs.Streams.{more_was_read}
use Rattle.fac_io.proofs.real.read_up_to.Goals as goal

pub returns-then-count-saturating_sub : goal.returns-then-count-saturating_sub
returns-then-count-saturating_sub g c =
    more_was_read (g.R.Read.remaining c.args.reader.now) (g.R.Read.remaining c.loop.reader) (g.R.Read.remaining c.read_some.new.reader) c.loop.bytes (take c.in-Ok.count c.read_some.new.buf) c.args.limit c.loop.invariant.1 c.in-Ok.ensures.bytes.0 (omega (arith, c.in-Ok.ensures.bound.1, c.len.ensures, c.saturating_sub.ensures, c.if-count-saturating_sub.true))

pub loop-preserved : goal.loop-preserved
loop-preserved g c = (
  omega (arith, c.in-Ok.ensures.bound.1, c.len.ensures, c.saturating_sub.ensures, c.if-count-saturating_sub.false, ap length c.in_ok-extend.ensures.ok, length-append c.loop.bytes (take c.in-Ok.count c.read_some.new.buf), c.loop.invariant.0),
  rw c.in_ok-extend.ensures.ok (Consumes-trans (g.R.Read.remaining c.args.reader.now) (g.R.Read.remaining c.loop.reader) (g.R.Read.remaining c.read_some.new.reader) c.loop.bytes (take c.in-Ok.count c.read_some.new.buf) c.loop.invariant.1 c.in-Ok.ensures.bytes.0),
)
