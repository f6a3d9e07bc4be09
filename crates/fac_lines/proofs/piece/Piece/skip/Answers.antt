use Rattle.std.proofs.Common.{arith, length-take, ap, length, drop, ◌-◌}
use Rattle.fac_lines.proofs.LineLemmas.{skipped}
use Rattle.fac_lines.proofs.piece.Piece.skip.Goals as goal

pub returns : goal.returns
returns c = skipped c.self.inside.at c.self.inside.end c.args.count c.self.inside.room.items c.args.self.now (omega (arith, c.requires, ap length c.self.view_is, length-take (c.self.inside.end - c.self.inside.at) (drop c.self.inside.at c.self.inside.room.items))) c.self.invariant.1 c.self.view_is
