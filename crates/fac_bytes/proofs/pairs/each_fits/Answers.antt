use Rattle.std.proofs.Common.{ℕ, List, get_or, arith}
use Rattle.std.proofs.lemmas.List.{get_or_default}
use Rattle.fac_bytes.specs.Ascending.{pair_format}
use Rattle.fac_bytes.proofs.FitLaws.{still_starts, still_on, still_ends}
use Rattle.fac_bytes.proofs.pairs.each_fits.Goals as goal

abbrev pair_at : List (ℕ × ℕ) → ℕ → ℕ × ℕ
pair_at ps i = get_or ps i (0, 0)

pub loop-pair-init : goal.loop-pair-init
loop-pair-init c = still_starts pair_format c.args.pairs.now

pub loop-pair-preserved : goal.loop-pair-preserved
loop-pair-preserved c =
    let x = pair_at c.args.pairs.now c.loop-pair.pair-index in
    still_on pair_format c.args.pairs.now c.loop-pair.pair-index x c.loop-pair-test.true (get_or_default c.args.pairs.now c.loop-pair.pair-index (0, 0) x c.loop-pair-test.true)
    (c.number_fits.ensures, c.number_fits-in-loop-pair.ensures) c.loop-pair.invariant

pub returns : goal.returns
returns c = still_ends pair_format c.args.pairs.now c.loop-pair.pair-index (omega arith) c.loop-pair.invariant
