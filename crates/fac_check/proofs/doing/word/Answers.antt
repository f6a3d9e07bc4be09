use Rattle.std.proofs.Common.{◌≡◌, ℕ, length, Some, sym, ◌∙◌, ap, subst}
use Rattle.std.specs.Prelude.{slice_get}
use Rattle.fac_abs.specs.SeenMarks.{stack_of, base_seen}
use Rattle.fac_lang.proofs.SourcePrograms.{session_of_whole}
use Rattle.fac_locals.proofs.Lookups.{word_open}
use Rattle.fac_check.specs.Flow.{breaks, word_doing}
use Rattle.fac_abs.specs.declared.rule.Rule.TheVariants.{NotKnown}
use Rattle.fac_check.proofs.DoingLemmas.{doing_of_one}
use Rattle.fac_check.proofs.TakenPrograms.{word_taken}
use Rattle.fac_check.proofs.WordItems.{ok_maps, named_own, top_item, no_word}
use Rattle.fac_check.proofs.doing.word.Goals as goal

pub word_item-requires-clause-word : goal.word_item-requires-clause-word
word_item-requires-clause-word c =
    let C = c.args.subject.closed.now in
    (C.program.top, length C.templates, word_taken C.program C.templates c.requires.program c.args.number c.in-Some.word.now (sym c.in-Some.ensures))

pub returns-in-Some-clause-there : goal.returns-in-Some-clause-there
returns-in-Some-clause-there c = ok_maps c.word_item.result (λ r there. doing_of_one c.args.number c.in-Some.word.now (slice_get c.args.subject.closed.now.program.words) _ r (sym c.in-Some.ensures) there) c.word_item.ensures.there

pub returns-in-Some-clause-does : goal.returns-in-Some-clause-does
returns-in-Some-clause-does c =
    let C = c.args.subject.closed.now in
    ok_maps c.word_item.result
    (λ r does O.
    let there = word_open O.program C.program C.templates O.closes c.args.number c.in-Some.word.now (sym c.in-Some.ensures) in
    does O.program there.def O.closes (λ e. c.if-number-subject.false (e ∙ sym O.closes.top)) there.at O.whole there.closes O.naming (named_own O c.args.number c.in-Some.word.now (sym c.in-Some.ensures))
    ∙ ap (λ q. word_doing O.program q c.args.number (Some there.def) (base_seen O.naming c.args.base) (stack_of O.naming c.args.marks.now c.args.stack)) (sym O.word_is)
    ∙ ap (λ o. word_doing O.program O.word c.args.number o (base_seen O.naming c.args.base) (stack_of O.naming c.args.marks.now c.args.stack)) (sym there.at))
    c.word_item.ensures.does

pub returns-then-number-subject-clause-does : goal.returns-then-number-subject-clause-does
returns-then-number-subject-clause-does c = λ O.
    let base = base_seen O.naming c.args.base in
    let marks = stack_of O.naming c.args.marks.now c.args.stack in
    subst (λ (w : ℕ). breaks NotKnown ≡ word_doing O.program O.word w (slice_get O.program.words w) base marks) (sym (c.if-number-subject.true ∙ O.closes.top)) (top_item O.program (session_of_whole O.program O.whole) O.word base marks)

pub returns-in-None-clause-does : goal.returns-in-None-clause-does
returns-in-None-clause-does c = λ O.
    let C = c.args.subject.closed.now in
    no_word O.program C.program C.templates O.closes O.word c.args.number (base_seen O.naming c.args.base) (stack_of O.naming c.args.marks.now c.args.stack) (sym c.in-None.ensures)
