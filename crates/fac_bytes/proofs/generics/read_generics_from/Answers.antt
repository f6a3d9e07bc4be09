use Rattle.std.proofs.Common.{ℕ, List, []}
use Rattle.std.proofs.lemmas.Result.{err_from_is_err_and}
use Rattle.fac_spelling.proofs.ReadLoops.{goes_on, ends, is_done}
use Rattle.fac_bytes.specs.GenericBytes.{generic, and_numbers, generics_from}
use Rattle.fac_bytes.proofs.generics.read_generics_from.Goals as goal

pub returns-in_err-row : goal.returns-in_err-row
returns-in_err-row c =
    let p = err_from_is_err_and c.from_residual.result c.from_residual.ensures.1 in
    rw (p.1, p.2) (ends {S = List ℕ} (λ _ t. generic t) and_numbers c.in_err-row.field-0.0 c.loop.rows c.args.count c.loop.counter c.loop.taken c.loop.rest.now ((generics_from c.args.count []).read c.args.bytes.now) c.loop-test.true c.in_err-row.ensures.exact c.loop.invariant)

pub loop-preserved : goal.loop-preserved
loop-preserved c =
    rw (c.in_ok-push.ensures.ok, c.in_ok-row.ensures.takes) (goes_on {S = List ℕ} (λ _ t. generic t) and_numbers c.loop.rows c.args.count c.loop.counter c.loop.taken c.loop.rest.now c.in_ok-row.row c.in_ok-row.after.now ((generics_from c.args.count []).read c.args.bytes.now) c.loop-test.true c.in_ok-row.ensures.exact c.loop.invariant)

pub returns : goal.returns
returns c = is_done {S = List ℕ} (λ _ t. generic t) and_numbers c.loop.rows c.args.count c.loop.counter c.loop.taken c.loop.rest.now ((generics_from c.args.count []).read c.args.bytes.now) c.loop-test.false c.loop.invariant
