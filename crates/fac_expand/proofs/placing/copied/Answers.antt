use Rattle.std.proofs.Common.{rules, ◌≡◌, ◌+◌, ◌++◌, drop, Bool, Some, ap, sym, ◌∙◌, arith}
use Rattle.std.proofs.lemmas.List.{append-nil}
use Rattle.std.proofs.lemmas.Option.{slice_get_within}
use Rattle.std.specs.Prelude.{slice_get}
use Rattle.std.specs.Option.{option_copied}
use Rattle.fac_expand.specs.inner.Pieces.{end_where, to_end}
use Rattle.fac_expand.proofs.CopiedCode.{copied_step, past_end}
use Rattle.fac_expand.proofs.placing.copied.Goals as goal

pub returns-then-is_end : goal.returns-then-is_end
returns-then-is_end c =
    let code = c.args.plain.now.code in
    let x = c.in-Some.instr.now in
    let there : slice_get code c.loop-instr.at ≡ Some x = sym c.get.ensures ∙ ap option_copied c.in-Some.is in
    let step = copied_step code c.loop-instr.at x _ c.loop-instr.code c.push.new.self there c.loop-instr.invariant c.in_ok-push.ensures in
    sym (step ∙ ap (λ (q : Bool). c.push.new.self ++ end_where q (to_end (drop (c.loop-instr.at + 1) code))) (sym c.is_end.ensures ∙ c.if-is_end.true) ∙ append-nil c.push.new.self)

pub overflow_add-at : goal.overflow_add-at
overflow_add-at c =
    let there : slice_get c.args.plain.now.code c.loop-instr.at ≡ Some c.in-Some.instr.now = sym c.get.ensures ∙ ap option_copied c.in-Some.is in
    let within = slice_get_within c.args.plain.now.code c.loop-instr.at _ there in
    search (rules, within)

pub loop-instr-smaller : goal.loop-instr-smaller
loop-instr-smaller c =
    let there : slice_get c.args.plain.now.code c.loop-instr.at ≡ Some c.in-Some.instr.now = sym c.get.ensures ∙ ap option_copied c.in-Some.is in
    let within = slice_get_within c.args.plain.now.code c.loop-instr.at _ there in
    omega (arith, within)

pub loop-instr-preserved : goal.loop-instr-preserved
loop-instr-preserved c =
    let code = c.args.plain.now.code in
    let x = c.in-Some.instr.now in
    let there : slice_get code c.loop-instr.at ≡ Some x = sym c.get.ensures ∙ ap option_copied c.in-Some.is in
    copied_step code c.loop-instr.at x _ c.loop-instr.code c.push.new.self there c.loop-instr.invariant c.in_ok-push.ensures ∙ ap (λ (q : Bool). c.push.new.self ++ end_where q (to_end (drop (c.loop-instr.at + 1) code))) (sym c.is_end.ensures ∙ c.if-is_end.false)

pub returns : goal.returns
returns c = past_end c.args.plain.now.code c.loop-instr.at _ c.loop-instr.code (sym c.get.ensures ∙ ap option_copied c.in_default.is) c.loop-instr.invariant
