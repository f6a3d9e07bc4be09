use Rattle.std.proofs.Common.{List, length, Some, ap, ◌∙◌}
use Rattle.std.specs.Prelude.{nat_lt, ◌-◌}
use Rattle.fac_base.specs.declared.effect.Input.{Input}
use Rattle.fac_base.specs.Signatures.{Signature}
use Rattle.fac_abs.specs.RowVariables.{effect_inputs, input_effect}
use Rattle.fac_rows.proofs.CallLemmas.{no_input, missing_at, input_at, no_quot, some_quot}
use Rattle.fac_rows.proofs.calls.effect_of_input.Goals as goal

pub returns-then-input-eq0 : goal.returns-then-input-eq0
returns-then-input-eq0 c = no_input c.args.input (effect_inputs c.args.effect.now) c.if-input-eq0.true

pub returns-in-None : goal.returns-in-None
returns-in-None c =
    let k = c.args.input in
    missing_at k c.effect.inside.ins.items c.if-input-eq0.false (c.in-None.ensures.lookup.0 ∙ ap (λ (xs : List Input). nat_lt (k - 1) (length xs)) c.deref.ensures.value) ∙ ap (λ (e : Signature). input_effect k (effect_inputs e)) c.effect.view_is

pub returns-in-None-quot : goal.returns-in-None-quot
returns-in-None-quot c =
    let k = c.args.input in
    no_quot c.in-Some.found.now c.in-None-quot.is ∙ input_at k c.deref.result.now c.effect.inside.ins.items c.in-Some.found.now _ c.if-input-eq0.false c.deref.ensures.value c.in-Some.ensures.lookup.0 c.in-Some.ensures.lookup.1 ∙ ap (λ (e : Signature). input_effect k (effect_inputs e)) c.effect.view_is

pub returns-in-Some-quot : goal.returns-in-Some-quot
returns-in-Some-quot c =
    let k = c.args.input in
    ap Some c.deref-in-Some-quot.ensures ∙ some_quot c.in-Some.found.now c.in-Some-quot.quot c.in-Some-quot.is ∙ input_at k c.deref.result.now c.effect.inside.ins.items c.in-Some.found.now _ c.if-input-eq0.false c.deref.ensures.value c.in-Some.ensures.lookup.0 c.in-Some.ensures.lookup.1 ∙ ap (λ (e : Signature). input_effect k (effect_inputs e)) c.effect.view_is
