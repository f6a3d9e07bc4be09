use Rattle.std.proofs.Common.{◌≡◌, inl, inr, ℕ, refl, ap, subst, ◌∙◌}
use Rattle.std.specs.Prelude.{nat_lt, slice_get}
use Rattle.fac_base.specs.declared.height.Height.{Height}
use Rattle.fac_lang.specs.Phrases.{lit, wrd, lit_arr, word, call_effect, execute_effect, next_method, next_after}
use Rattle.fac_lang.specs.PhraseView.{what_item}
use Rattle.fac_lang.specs.declared.phrase.What.{What}
use Rattle.fac_lang.specs.declared.phrase.What.TheVariants.{Int as w_int, True as w_true, False as w_false, Str as w_str}
use Rattle.fac_locals.specs.Frames.{OpensItem}
use Rattle.fac_abs.specs.SeenMarks.{frame_of, base_seen, stack_of}
use Rattle.fac_check.specs.Flow.{array_doing}
use Rattle.fac_check.specs.inner.Walking.{items_of}
use Rattle.fac_check.proofs.ArrayCounts.{arrays_closed_count}
use Rattle.fac_check.proofs.DoingLemmas.{doing_of}
use Rattle.fac_check.proofs.OpenedItems.{plain_does}
use Rattle.fac_check.proofs.WordItems.{ok_maps}
use Rattle.fac_check.proofs.doing.item_doing.Goals as goal

pub returns-in-Made-clause-there : goal.returns-in-Made-clause-there
returns-in-Made-clause-there c = ok_maps c.made.result (λ r there. doing_of (slice_get c.args.subject.closed.now.program.words) _ r there) c.made.ensures.there

pub returns-in-Local-clause-there : goal.returns-in-Local-clause-there
returns-in-Local-clause-there c = ok_maps c.local.result (λ r there. doing_of (slice_get c.args.subject.closed.now.program.words) _ r there) c.local.ensures.there

pub returns-in-Wref-clause-there : goal.returns-in-Wref-clause-there
returns-in-Wref-clause-there c = ok_maps c.reference.result (λ r there. doing_of (slice_get c.args.subject.closed.now.program.words) _ r there) c.reference.ensures.there

pub returns-in-Arr-clause-does : goal.returns-in-Arr-clause-does
returns-in-Arr-clause-does c =
    ok_maps c.array.result (λ r does. λ O at here i stands opens.
    let number : ℕ = c.in-Arr.number in
    let base = base_seen O.naming c.args.step.base in
    let marks = stack_of O.naming c.args.marks.now c.args.step.stack in
    let frame = items_of (frame_of O.naming c.args.marks.now c.args.step.frame) in
    plain_does O frame (lit_arr number) tt base marks _ at here i (does O.naming (slice_get O.program.words) base ∙ ap (λ n. array_doing (nat_lt number n) base marks) (arrays_closed_count O.program _ _ O.closes)) (subst (λ (w : What). OpensItem O.program c.args.subject.closed.now.templates frame at (what_item w) i) c.in-Arr.is opens)) c.array.ensures.does

pub returns-in-NextMethod-clause-does : goal.returns-in-NextMethod-clause-does
returns-in-NextMethod-clause-does c = λ O at here i stands opens.
    let frame = items_of (frame_of O.naming c.args.marks.now c.args.step.frame) in
    plain_does O frame next_method tt (base_seen O.naming c.args.step.base) (stack_of O.naming c.args.marks.now c.args.step.stack) _ at here i refl (subst (λ (w : What). OpensItem O.program c.args.subject.closed.now.templates frame at (what_item w) i) c.in-NextMethod.is opens)

pub returns-in-NextAfter-clause-there : goal.returns-in-NextAfter-clause-there
returns-in-NextAfter-clause-there c = ok_maps c.next_after.result (λ r there. doing_of (slice_get c.args.subject.closed.now.program.words) _ r there) c.next_after.ensures.there

pub returns-in-NextAfter-clause-does : goal.returns-in-NextAfter-clause-does
returns-in-NextAfter-clause-does c =
    ok_maps c.next_after.result (λ r does. λ O at here i stands opens.
    let method : ℕ = c.in-NextAfter.method in
    let base = base_seen O.naming c.args.step.base in
    let marks = stack_of O.naming c.args.marks.now c.args.step.stack in
    let frame = items_of (frame_of O.naming c.args.marks.now c.args.step.frame) in
    plain_does O frame (next_after method) tt base marks _ at here i (does O.word O.program O.closes O.naming (slice_get O.program.words) base) (subst (λ (w : What). OpensItem O.program c.args.subject.closed.now.templates frame at (what_item w) i) c.in-NextAfter.is opens)) c.next_after.ensures.does

pub returns-in-Word-clause-does : goal.returns-in-Word-clause-does
returns-in-Word-clause-does c =
    ok_maps c.word.result (λ r does. λ O at here i stands opens.
    let number : ℕ = c.in-Word.number in
    let base = base_seen O.naming c.args.step.base in
    let marks = stack_of O.naming c.args.marks.now c.args.step.stack in
    let frame = items_of (frame_of O.naming c.args.marks.now c.args.step.frame) in
    plain_does O frame (word number) tt base marks _ at here i (does O) (subst (λ (w : What). OpensItem O.program c.args.subject.closed.now.templates frame at (what_item w) i) c.in-Word.is opens)) c.word.ensures.does

pub returns-in-Wref-clause-does : goal.returns-in-Wref-clause-does
returns-in-Wref-clause-does c =
    ok_maps c.reference.result (λ r does. λ O at here i stands opens.
    let number : ℕ = c.in-Wref.number in
    let base = base_seen O.naming c.args.step.base in
    let marks = stack_of O.naming c.args.marks.now c.args.step.stack in
    let frame = items_of (frame_of O.naming c.args.marks.now c.args.step.frame) in
    plain_does O frame (lit (wrd number)) tt base marks _ at here i (does O.naming (slice_get O.program.words) base) (subst (λ (w : What). OpensItem O.program c.args.subject.closed.now.templates frame at (what_item w) i) c.in-Wref.is opens)) c.reference.ensures.does

pub returns-in-Int-clause-does : goal.returns-in-Int-clause-does
returns-in-Int-clause-does c =
    ok_maps c.unknown.result (λ r does. λ O at here i stands opens.
    let base = base_seen O.naming c.args.step.base in
    let marks = stack_of O.naming c.args.marks.now c.args.step.stack in
    let frame = items_of (frame_of O.naming c.args.marks.now c.args.step.frame) in
    let puts = does O.naming (slice_get O.program.words) base in
    let as_is : (v : What) → c.args.what.now ≡ v → OpensItem O.program c.args.subject.closed.now.templates frame at (what_item v) i = λ v e. subst (λ (w : What). OpensItem O.program c.args.subject.closed.now.templates frame at (what_item w) i) e opens in
    elim c.in-Int.is [
      | inl p ↦ plain_does O frame (what_item (w_int p.0)) tt base marks _ at here i puts (as_is (w_int p.0) p.1)
      | inr q ↦ elim q [
        | inl e ↦ plain_does O frame (what_item w_true) tt base marks _ at here i puts (as_is w_true e)
        | inr o ↦ elim o [
          | inl e ↦ plain_does O frame (what_item w_false) tt base marks _ at here i puts (as_is w_false e)
          | inr p ↦ plain_does O frame (what_item (w_str p.0)) tt base marks _ at here i puts (as_is (w_str p.0) p.1)
        ]
      ]
    ]) c.unknown.ensures.does

-- The arms of `call( )` and `execute( )` have goals of one shape, each with names of its own.

pub returns-in-CallEffect-clause-there : goal.returns-in-CallEffect-clause-there
returns-in-CallEffect-clause-there c = ok_maps c.effect_call.result (λ r there. doing_of (slice_get c.args.subject.closed.now.program.words) _ r there) c.effect_call.ensures.there

pub returns-in-CallEffect-clause-does : goal.returns-in-CallEffect-clause-does
returns-in-CallEffect-clause-does c =
    ok_maps c.effect_call.result (λ r does. λ O at here i stands opens.
    let height : Height = c.in-CallEffect.height in
    let base = base_seen O.naming c.args.step.base in
    let marks = stack_of O.naming c.args.marks.now c.args.step.stack in
    let frame = items_of (frame_of O.naming c.args.marks.now c.args.step.frame) in
    plain_does O frame (call_effect height) tt base marks _ at here i (does O.naming (slice_get O.program.words) base) (subst (λ (w : What). OpensItem O.program c.args.subject.closed.now.templates frame at (what_item w) i) c.in-CallEffect.is opens)) c.effect_call.ensures.does

pub returns-in-ExecuteEffect-clause-there : goal.returns-in-ExecuteEffect-clause-there
returns-in-ExecuteEffect-clause-there c = ok_maps c.effect_call-in-ExecuteEffect.result (λ r there. doing_of (slice_get c.args.subject.closed.now.program.words) _ r there) c.effect_call-in-ExecuteEffect.ensures.there

pub returns-in-ExecuteEffect-clause-does : goal.returns-in-ExecuteEffect-clause-does
returns-in-ExecuteEffect-clause-does c =
    ok_maps c.effect_call-in-ExecuteEffect.result (λ r does. λ O at here i stands opens.
    let height : Height = c.in-ExecuteEffect.height in
    let base = base_seen O.naming c.args.step.base in
    let marks = stack_of O.naming c.args.marks.now c.args.step.stack in
    let frame = items_of (frame_of O.naming c.args.marks.now c.args.step.frame) in
    plain_does O frame (execute_effect height) tt base marks _ at here i (does O.naming (slice_get O.program.words) base) (subst (λ (w : What). OpensItem O.program c.args.subject.closed.now.templates frame at (what_item w) i) c.in-ExecuteEffect.is opens)) c.effect_call-in-ExecuteEffect.ensures.does
