use Rattle.std.proofs.Common.{◌≡◌, ◌+◌, ◌-◌, arith, sym}
use Rattle.fac_spelling.specs.TestedNumbers.{is_free}
use Rattle.fac_spelling.proofs.FreshLaws.{has_none}
use Rattle.fac_spelling.proofs.CountLaws.{free_by_count}
use Rattle.fac_spelling.proofs.fresh.has_free.Goals as goal

pub returns-then-high-low : goal.returns-then-high-low
returns-then-high-low c = sym (has_none (is_free c.args.taken.now) c.args.low c.args.high (omega arith))

pub returns : goal.returns
returns c =
    let k : c.from-size.result + 1 ≡ c.args.high + 1 - c.args.low = omega arith in
    rw (c.count_in.ensures, c.from.ensures, k) (sym (free_by_count c.args.taken.now (c.args.high + 1 - c.args.low) c.args.low c.requires))
