use Rattle.std.proofs.Common.{ℕ}
use Rattle.std.proofs.lemmas.Result.{err_from_is_err_and}
use Rattle.fac_spelling.proofs.ReadLoops.{goes_on, ends, is_done}
use Rattle.fac_bytes.proofs.part.read_each.Goals as goal
use Rattle.fac_spelling.specs.Formats.{each}

pub returns-in_err-value : goal.returns-in_err-value
returns-in_err-value g c =
    let p = err_from_is_err_and c.from_residual.result c.from_residual.ensures.1 in
    rw (p.1, p.2) (ends {S = ℕ} (λ _ _. g.T.Writable.format) (λ s _. s) c.in_err-value.field-0.0 c.loop.values c.args.count c.loop.counter 0 c.loop.rest.now ((each c.args.count g.T.Writable.format).read c.args.bytes.now) c.loop-test.true c.in_err-value.ensures c.loop.invariant)

pub loop-preserved : goal.loop-preserved
loop-preserved g c =
    rw c.in_ok-push.ensures.ok (goes_on {S = ℕ} (λ _ _. g.T.Writable.format) (λ s _. s) c.loop.values c.args.count c.loop.counter 0 c.loop.rest.now c.in_ok-value.value c.in_ok-value.after.now ((each c.args.count g.T.Writable.format).read c.args.bytes.now) c.loop-test.true c.in_ok-value.ensures c.loop.invariant)

pub returns : goal.returns
returns g c = is_done {S = ℕ} (λ _ _. g.T.Writable.format) (λ s _. s) c.loop.values c.args.count c.loop.counter 0 c.loop.rest.now ((each c.args.count g.T.Writable.format).read c.args.bytes.now) c.loop-test.false c.loop.invariant
