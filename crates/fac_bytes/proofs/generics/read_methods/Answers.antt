use Rattle.std.proofs.Common.{ℕ, List}
use Rattle.std.proofs.lemmas.Result.{err_from_is_err_and}
use Rattle.fac_spelling.proofs.ReadLoops.{goes_on, ends, is_done}
use Rattle.fac_bytes.specs.GenericBytes.{method, and_number, methods}
use Rattle.fac_bytes.proofs.MethodLoops.{takes_on}
use Rattle.fac_bytes.proofs.generics.read_methods.Goals as goal

pub returns-in_err-method-clause-exact : goal.returns-in_err-method-clause-exact
returns-in_err-method-clause-exact c =
    let p = err_from_is_err_and c.from_residual.result c.from_residual.ensures.1 in
    rw (p.1, p.2) (ends {S = List ℕ} (λ _ t. method t) and_number c.in_err-method.field-0.0 c.loop.methods c.args.count c.loop.counter c.loop.taken c.loop.rest.now ((methods c.args.count c.args.taken.now).read c.args.bytes.now) c.loop-test.true c.in_err-method.ensures.exact c.loop.invariant.so_far)

pub loop-preserved : goal.loop-preserved
loop-preserved c = record {
  so_far = rw (c.in_ok-push.ensures.ok, c.in_ok-method.ensures.takes) (goes_on {S = List ℕ} (λ _ t. method t) and_number c.loop.methods c.args.count c.loop.counter c.loop.taken c.loop.rest.now c.in_ok-method.method c.in_ok-method.after.now ((methods c.args.count c.args.taken.now).read c.args.bytes.now) c.loop-test.true c.in_ok-method.ensures.exact c.loop.invariant.so_far);
  takes = rw (c.in_ok-push.ensures.ok, c.in_ok-method.ensures.takes) (takes_on c.args.taken.now c.loop.taken c.loop.methods c.in_ok-method.method c.loop.invariant.takes);
}

pub returns-clause-exact : goal.returns-clause-exact
returns-clause-exact c = is_done {S = List ℕ} (λ _ t. method t) and_number c.loop.methods c.args.count c.loop.counter c.loop.taken c.loop.rest.now ((methods c.args.count c.args.taken.now).read c.args.bytes.now) c.loop-test.false c.loop.invariant.so_far
