use Rattle.std.proofs.Common.{sym, ◌∙◌, ◌≡◌, ℕ, length, subst, arith, string_bytes}
use Rattle.std.specs.String.{string_eq_equiv}
use Rattle.std.proofs.lemmas.Map.Entries.{lookup_from_place}
use Rattle.fac_vocab.proofs.LeastLemmas.{some_at, LeastTo, least_next, least_all}
use Rattle.fac_vocab.proofs.leasts.note_numbers.Goals as goal

pub loop-index-init : goal.loop-index-init
loop-index-init c = λ used v once unused at h q. h q

pub loop-index-preserved : goal.loop-index-preserved
loop-index-preserved c = λ used v once unused at h.
    let es = c.args.numbers.now.entries in
    let i = c.loop-index.index in
    let inside = c.loop-index-test.true in
    let counted = c.len-index-end.ensures.len in
    let x = some_at es i (omega (arith, inside, counted)) in
    let unique = c.len-index-end.ensures.unique in
    least_next c.loop-index.kept c.note_at.new.kept c.args.entries.now used v es i x.0 once unused unique x.1
    (sym (at (string_bytes x.0.0)) ∙ lookup_from_place string_eq_equiv es i x.0.0 x.0.1 unique x.1)
    (λ q. c.in_ok-note_at.ensures q x.0 x.1)
    (c.loop-index.invariant used v once unused at h)

pub returns : goal.returns
returns c = λ used v once unused at h.
    let es = c.args.numbers.now.entries in
    let ends = c.loop-index-test.false in
    let before = c.loop-index.auto.index-end in
    let counted = c.len-index-end.ensures.len in
    let whole : c.loop-index.index ≡ length es = omega (arith, ends, before, counted) in
    least_all c.loop-index.kept c.args.entries.now used v c.args.numbers.now once unused at (subst (λ (n : ℕ). LeastTo c.loop-index.kept c.args.entries.now used v es n) whole (c.loop-index.invariant used v once unused at h))
