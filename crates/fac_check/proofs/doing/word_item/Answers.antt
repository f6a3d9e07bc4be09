use Rattle.std.proofs.Common.{refl, sym, ap, ◌∙◌}
use Rattle.std.specs.Prelude.{slice_get}
use Rattle.fac_base.specs.declared.height.Height.{Height}
use Rattle.fac_lang.specs.declared.program.Sort.TheVariants.{Core as core, Prim as prim}
use Rattle.fac_abs.specs.SeenMarks.{stack_of, base_seen}
use Rattle.fac_check.specs.inner.Walking.{only, effect_of}
use Rattle.fac_check.proofs.BuiltWords.{built_primitive_word}
use Rattle.fac_check.proofs.ClosedSorts.{plain_sort, is_body}
use Rattle.fac_check.proofs.DoingLemmas.{doing_of}
use Rattle.fac_check.proofs.TakenPrograms.{primitive_below}
use Rattle.fac_check.proofs.WordItems.{ok_maps, item_of, prim_item, prim_ins, prim_outs, body_item}
use Rattle.fac_check.proofs.doing.word_item.Goals as goal

pub primitive-requires-clause-number : goal.primitive-requires-clause-number
primitive-requires-clause-number c = primitive_below c.requires.word.0 c.requires.word.1 c.in-Prim.primitive_number c.args.word.now c.requires.word.2 c.in-Prim.is

pub defined-requires-clause-phrase : goal.defined-requires-clause-phrase
defined-requires-clause-phrase c = rw c.in-Body.is refl

pub returns-in-Prim-clause-there : goal.returns-in-Prim-clause-there
returns-in-Prim-clause-there c = ok_maps c.primitive.result (λ r there. doing_of (only c.args.number c.args.word.now) _ r there) c.primitive.ensures.there

pub returns-in-Prim-clause-does : goal.returns-in-Prim-clause-does
returns-in-Prim-clause-does c =
    let k = c.in-Prim.primitive_number in
    let w = c.args.word.now in
    ok_maps c.primitive.result
    (λ r does P d stands low at whole closes N own.
    let sort = plain_sort P c.args.number d w closes (prim k) c.in-Prim.is refl in
    let there = built_primitive_word P whole c.args.number d at k sort in
    let ins = prim_ins P c.args.number d w closes there.0 _ there.2 (ap (λ (h : Height). h.ins) c.height_of.ensures) in
    let outs = prim_outs P c.args.number d w closes there.0 _ there.2 (ap (λ (h : Height). h.outs) c.height_of.ensures) in
    prim_item P c.args.subject.own c.args.number d w closes k there.0 _ (base_seen N c.args.base) (stack_of N c.args.marks.now c.args.stack) sort there.1 (does there.0 there.1 ins outs N (slice_get P.words) (base_seen N c.args.base)))
    c.primitive.ensures.does

pub returns-in-Core-clause-there : goal.returns-in-Core-clause-there
returns-in-Core-clause-there c = ok_maps c.core.result (λ r there. doing_of (only c.args.number c.args.word.now) _ r there) c.core.ensures.there

pub returns-in-Core-clause-does : goal.returns-in-Core-clause-does
returns-in-Core-clause-does c =
    let k = c.in-Core.core_word in
    let w = c.args.word.now in
    ok_maps c.core.result
    (λ r does P d stands low at whole closes N own.
    item_of P c.args.subject.own c.args.number d w closes (core k) _ (base_seen N c.args.base) (stack_of N c.args.marks.now c.args.stack) (plain_sort P c.args.number d w closes (core k) c.in-Core.is refl) (does P stands N (slice_get P.words) (base_seen N c.args.base)))
    c.core.ensures.does

pub returns-in-Body-clause-does : goal.returns-in-Body-clause-does
returns-in-Body-clause-does c =
    let w = c.args.word.now in
    ok_maps c.defined.result
    (λ r does P d stands low at whole closes N own.
    let sort = is_body P c.args.number d w closes _ c.in-Body.is in
    body_item P c.args.subject.own c.args.number d w closes sort.0 _ (base_seen N c.args.base) (stack_of N c.args.marks.now c.args.stack) at sort.1 low (does P N (slice_get P.words) (ap effect_of at ∙ sym closes.effect) own))
    c.defined.ensures.does
