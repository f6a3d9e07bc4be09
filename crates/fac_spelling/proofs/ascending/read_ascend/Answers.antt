use Rattle.std.proofs.Common.{ℕ, ◌≡◌, ◌+◌, ◌-◌, ◌^◌, arith, subst, Ok}
use Rattle.std.proofs.lemmas.Result.{err_from_is_err_and}
use Rattle.fac_spelling.proofs.ReadLoops.{goes_on, ends, is_done}
use Rattle.fac_spelling.proofs.ascending.read_ascend.Goals as goal
use Rattle.fac_spelling.specs.Lists.{ascend}
use Rattle.fac_spelling.specs.Numbers.{number, number_at}
use Rattle.fac_spelling.specs.Reads.{Fails}

pub returns-in_err-value : goal.returns-in_err-value
returns-in_err-value c =
    let p = err_from_is_err_and c.from_residual.result c.from_residual.ensures.1 in
    let k : 4294967295 - (c.args.count - 1 - c.loop-index.index) ≡ 4294967295 - (c.args.count - (c.loop-index.index + 1)) = omega arith in
    let f : Fails c.in_err-value.field-0.0 (number_at c.loop-index.least (4294967295 - (c.args.count - (c.loop-index.index + 1))) c.loop-index.rest.now) =
    subst (λ (most : ℕ). Fails c.in_err-value.field-0.0 (number_at c.loop-index.least most c.loop-index.rest.now)) k c.in_err-value.ensures.exact in
    rw (p.1, p.2) (ends {S = ℕ} (λ after low. number low (2 ^ 32 - 1 - after)) (λ _ x. x + 1) c.in_err-value.field-0.0 c.loop-index.values c.args.count c.loop-index.index c.loop-index.least c.loop-index.rest.now ((ascend c.args.count 0).read c.args.bytes.now) c.loop-index-test.true f c.loop-index.invariant.so_far)

pub loop-index-preserved : goal.loop-index-preserved
loop-index-preserved c = record {
  room = omega (arith, c.in_ok-value.ensures.within);
  so_far =
      let k : 4294967295 - (c.args.count - 1 - c.loop-index.index) ≡ 4294967295 - (c.args.count - (c.loop-index.index + 1)) = omega arith in
      let f : number_at c.loop-index.least (4294967295 - (c.args.count - (c.loop-index.index + 1))) c.loop-index.rest.now ≡ Ok (c.in_ok-value.value, c.in_ok-value.next.now) =
      subst (λ (most : ℕ). number_at c.loop-index.least most c.loop-index.rest.now ≡ Ok (c.in_ok-value.value, c.in_ok-value.next.now)) k c.in_ok-value.ensures.exact in
      rw (c.from-least.ensures, c.in_ok-push.ensures.ok) (goes_on {S = ℕ} (λ after low. number low (2 ^ 32 - 1 - after)) (λ _ x. x + 1) c.loop-index.values c.args.count c.loop-index.index c.loop-index.least c.loop-index.rest.now c.in_ok-value.value c.in_ok-value.next.now ((ascend c.args.count 0).read c.args.bytes.now) c.loop-index-test.true f c.loop-index.invariant.so_far);
}

pub returns : goal.returns
returns c = is_done {S = ℕ} (λ after low. number low (2 ^ 32 - 1 - after)) (λ _ x. x + 1) c.loop-index.values c.args.count c.loop-index.index c.loop-index.least c.loop-index.rest.now ((ascend c.args.count 0).read c.args.bytes.now) c.loop-index-test.false c.loop-index.invariant.so_far
