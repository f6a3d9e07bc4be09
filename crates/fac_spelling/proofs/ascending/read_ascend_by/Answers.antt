use Rattle.std.proofs.Common.{ℕ, ◌≡◌, ◌+◌, ◌-◌, ◌^◌, arith, subst, Ok}
use Rattle.std.proofs.lemmas.Result.{err_from_is_err_and}
use Rattle.fac_spelling.proofs.ReadLoops.{goes_on, ends, is_done}
use Rattle.fac_spelling.proofs.ascending.read_ascend_by.Goals as goal
use Rattle.fac_spelling.specs.Formats.{follow}
use Rattle.fac_spelling.specs.Lists.{ascend_by}
use Rattle.fac_spelling.specs.Numbers.{number}
use Rattle.fac_spelling.specs.Reads.{Fails}

pub returns-in_err-entry : goal.returns-in_err-entry
returns-in_err-entry g c =
    let p = err_from_is_err_and c.from_residual.result c.from_residual.ensures.1 in
    let k : 4294967295 - (c.args.count - 1 - c.loop-index.index) ≡ 4294967295 - (c.args.count - (c.loop-index.index + 1)) = omega arith in
    let f : Fails c.in_err-entry.field-0.0 ((follow (number c.loop-index.least (4294967295 - (c.args.count - (c.loop-index.index + 1)))) (λ _. g.T.Spelled.format)).read c.loop-index.rest.now) =
    subst (λ (most : ℕ). Fails c.in_err-entry.field-0.0 ((follow (number c.loop-index.least most) (λ _. g.T.Spelled.format)).read c.loop-index.rest.now)) k c.in_err-entry.ensures.exact in
    rw (p.1, p.2) (ends {S = ℕ} (λ after low. follow (number low (2 ^ 32 - 1 - after)) (λ _. g.T.Spelled.format)) (λ _ x. x.0 + 1) c.in_err-entry.field-0.0 c.loop-index.entries c.args.count c.loop-index.index c.loop-index.least c.loop-index.rest.now ((ascend_by g.T.Spelled.format c.args.count 0).read c.args.bytes.now) c.loop-index-test.true f c.loop-index.invariant.so_far)

pub loop-index-preserved : goal.loop-index-preserved
loop-index-preserved g c = record {
  room = omega (arith, c.in_ok-entry.ensures.within);
  so_far =
      let k : 4294967295 - (c.args.count - 1 - c.loop-index.index) ≡ 4294967295 - (c.args.count - (c.loop-index.index + 1)) = omega arith in
      let f : (follow (number c.loop-index.least (4294967295 - (c.args.count - (c.loop-index.index + 1)))) (λ _. g.T.Spelled.format)).read c.loop-index.rest.now ≡ Ok (c.in_ok-entry.entry, c.in_ok-entry.next.now) =
      subst (λ (most : ℕ). (follow (number c.loop-index.least most) (λ _. g.T.Spelled.format)).read c.loop-index.rest.now ≡ Ok (c.in_ok-entry.entry, c.in_ok-entry.next.now)) k c.in_ok-entry.ensures.exact in
      rw (c.from-least.ensures, c.in_ok-push.ensures.ok) (goes_on {S = ℕ} (λ after low. follow (number low (2 ^ 32 - 1 - after)) (λ _. g.T.Spelled.format)) (λ _ x. x.0 + 1) c.loop-index.entries c.args.count c.loop-index.index c.loop-index.least c.loop-index.rest.now c.in_ok-entry.entry c.in_ok-entry.next.now ((ascend_by g.T.Spelled.format c.args.count 0).read c.args.bytes.now) c.loop-index-test.true f c.loop-index.invariant.so_far);
}

pub returns : goal.returns
returns g c = is_done {S = ℕ} (λ after low. follow (number low (2 ^ 32 - 1 - after)) (λ _. g.T.Spelled.format)) (λ _ x. x.0 + 1) c.loop-index.entries c.args.count c.loop-index.index c.loop-index.least c.loop-index.rest.now ((ascend_by g.T.Spelled.format c.args.count 0).read c.args.bytes.now) c.loop-index-test.false c.loop-index.invariant.so_far
