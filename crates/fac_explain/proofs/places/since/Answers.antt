use Rattle.std.proofs.Common.{◌≡◌, ◌+◌, ℕ, take, drop, get_or, sym, subst, arith, eq-eqb}
use Rattle.std.proofs.lemmas.Bool.{ne_eqb}
use Rattle.fac_token.specs.Spots.{since_break}
use Rattle.fac_explain.proofs.LineLemmas.{since_break_at, since_byte_at}
use Rattle.fac_explain.proofs.places.since.Goals.{then-byte-eq10, else-byte-eq10}
use Rattle.fac_explain.proofs.places.since.Goals as goal

pub loop-index-preserved : goal.loop-index-preserved
loop-index-preserved c =
    let before = c.args.before.now in
    let i = c.loop-index.index in
    let b = get_or before i 0 in
    elim c.if-byte-eq10.branch [
      | then-byte-eq10 w ↦ record {
        low = omega (arith, w.start-is);
        so_far = subst (λ (start : ℕ). since_break (take (i + 1) before) ≡ drop start (take (i + 1) before)) (sym w.start-is) (since_break_at before i 0 c.loop-index-test.true (eq-eqb b 10 w.if-byte-eq10.true));
      }
      | else-byte-eq10 w ↦ record {
        low = omega (arith, w.start-is, c.loop-index.invariant.low);
        so_far = subst (λ (start : ℕ). since_break (take (i + 1) before) ≡ drop start (take (i + 1) before)) (sym w.start-is)
            (since_byte_at before i c.loop-index.start 0 c.loop-index-test.true (ne_eqb b 10 w.if-byte-eq10.false) c.loop-index.invariant.low c.loop-index.invariant.so_far);
      }
    ]
