use Rattle.std.proofs.Common.{List, ℕ, length, sym, ap, ◌∙◌, arith}
use Rattle.fac_base.specs.Signatures.{Signature, quoted, no_inputs}
use Rattle.fac_effect.specs.inner.EffectParts.{behind_first}
use Rattle.fac_effect.proofs.PartLemmas as lemma
use Rattle.fac_effect.proofs.effect_parts.Tokens.+parts.Goals as goal

pub described-returns-in_ok-new-clause-gives : goal.described-returns-in_ok-new-clause-gives
described-returns-in_ok-new-clause-gives t c =
    lemma.by_effect c.args.name.now c.args.self.now.tokens.now c.effect.new.self.tokens.now (quoted c.in_ok-name.name c.in_ok-new.field-0.value no_inputs) c.in_ok-effect.effect (sym c.if-begin_with.ensures) c.in_ok-effect.ensures.gives
    (ap (λ (n : List ℕ). quoted n c.in_ok-new.field-0.value no_inputs) c.in_ok-name.ensures ∙ ap (λ (e : Signature). quoted c.args.name.now e no_inputs) c.in_ok-new.ensures.ok)

pub described-returns-else-begin_with-clause-gives : goal.described-returns-else-begin_with-clause-gives
described-returns-else-begin_with-clause-gives t c =
    lemma.by_class c.args.name.now c.args.self.now.tokens.now c.skip.new.self.tokens.now c.plain_input.result (sym c.if-begin_with.ensures) c.skip.ensures c.plain_input.ensures

pub effect-returns-clause-gives : goal.effect-returns-clause-gives
effect-returns-clause-gives t c = c.opened.ensures.gives c.args.self.now.tokens.now c.skip.ensures

pub opened-returns-clause-gives : goal.opened-returns-clause-gives
opened-returns-clause-gives t c = λ before p.
    lemma.effect_given before c.args.self.now.tokens.now c.entries.new.self.tokens.now c.outs.new.self.tokens.now c.in_ok-inputs.inputs c.in_ok-outs.outs c.effect_with.result p c.in_ok-inputs.ensures.gives c.in_ok-outs.ensures.gives c.effect_with.ensures

pub entries-loop-token-init : goal.entries-loop-token-init
entries-loop-token-init t c = (
  omega arith,
  λ es place rest n h k. lemma.none_made c.args.end.now es place rest c.new-inputs.result.items c.args.self.now.tokens.now c.new-inputs.ensures.items h k,
)

pub entries-entry-requires : goal.entries-entry-requires
entries-entry-requires t c =
    let found = lemma.found_shorter c.args.end.now c.loop-token.self.tokens.now c.in-Some.token.now c.in-Some.ensures.token in
    let left = ap length c.next_before.ensures.left in
    (omega (arith, c.requires, found, left, c.loop-token.invariant.0), tt)

pub entries-returns-in_err-entry-clause-shorter : goal.entries-returns-in_err-entry-clause-shorter
entries-returns-in_err-entry-clause-shorter t c =
    let passed = lemma.passed_shorter c.loop-token.self.tokens.now in
    let left = ap length c.next_before.ensures.left in
    omega (arith, passed, left, c.entry.ensures.shorter, c.loop-token.invariant.0)

pub entries-loop-token-preserved : goal.entries-loop-token-preserved
entries-loop-token-preserved t c =
    let passed = lemma.passed_shorter c.loop-token.self.tokens.now in
    let left = ap length c.next_before.ensures.left in (
      omega (arith, passed, left, c.entry.ensures.shorter, c.loop-token.invariant.0),
      λ es place rest n h k.
          let l = c.loop-token.invariant.1 es place rest n h k in
          lemma.input_made c.args.end.now es place rest c.loop-token.inputs.items c.loop-token.self.tokens.now c.in-Some.token.now c.next_before.new.self.tokens.now c.in_ok-entry.field-0 c.push.new.self.items c.entry.new.self.tokens.now n l c.in-Some.ensures.token c.next_before.ensures.left c.in_ok-entry.ensures.gives c.in_ok-push.ensures.items,
    )

pub entries-returns-in_err-push-clause-shorter : goal.entries-returns-in_err-push-clause-shorter
entries-returns-in_err-push-clause-shorter t c =
    let passed = lemma.passed_shorter c.loop-token.self.tokens.now in
    let left = ap length c.next_before.ensures.left in
    omega (arith, passed, left, c.entry.ensures.shorter, c.loop-token.invariant.0)

pub entries-returns-clause-gives : goal.entries-returns-clause-gives
entries-returns-clause-gives t c = λ es place rest n h k.
    let l = c.loop-token.invariant.1 es place rest n h k in
    lemma.all_made c.args.end.now es place rest c.loop-token.inputs.items c.loop-token.self.tokens.now c.next_before.new.self.tokens.now n l c.in_default.ensures.token c.next_before.ensures.left

pub entries-returns-clause-shorter : goal.entries-returns-clause-shorter
entries-returns-clause-shorter t c =
    let passed = lemma.passed_shorter c.loop-token.self.tokens.now in
    let left = ap length c.next_before.ensures.left in
    omega (arith, passed, left, c.loop-token.invariant.0)

pub outs-returns-then-begin_never-clause-gives : goal.outs-returns-then-begin_never-clause-gives
outs-returns-then-begin_never-clause-gives t c =
    lemma.never_left c.args.self.now.tokens.now c.skip-then-begin_never.new.self.tokens.now (sym c.if-begin_never.ensures) (c.skip-then-begin_never.ensures ∙ ap behind_first c.skip.ensures)

pub outs-returns-in_ok-outputs-clause-gives : goal.outs-returns-in_ok-outputs-clause-gives
outs-returns-in_ok-outputs-clause-gives t c =
    lemma.outs_left c.args.self.now.tokens.now c.entries.new.self.tokens.now c.in_ok-outputs.outputs c.left.result (sym c.if-begin_never.ensures) c.in_ok-outputs.ensures.gives c.left.ensures
