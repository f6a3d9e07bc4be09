use Rattle.std.proofs.Common.{◌≡◌, sym, ap, subst}
use Rattle.fac_locals.specs.Closed.{ClosesWord}
use Rattle.fac_locals.proofs.Lookups.{word_open}
use Rattle.fac_locals.proofs.OpeningLaws.{programs_open}
use Rattle.fac_check.specs.Judged.{numbered}
use Rattle.fac_check.specs.Verdicts.{word_verdict}
use Rattle.fac_check.proofs.JudgeLemmas.{flag_is, flag_exists}
use Rattle.fac_check.proofs.TakenPrograms.{taken_program, word_taken}
use Rattle.fac_check.proofs.judge.check_word.Goals as goal

pub word_broken-requires-clause-program : goal.word_broken-requires-clause-program
word_broken-requires-clause-program c =
    let C = c.args.closed.now in
    let stands = c.requires.stands in
    taken_program stands.0 C.program C.templates stands.1 stands.2

pub word_broken-requires-clause-word : goal.word_broken-requires-clause-word
word_broken-requires-clause-word c =
    let C = c.args.closed.now in
    let stands = c.requires.stands in
    word_taken C.program C.templates (taken_program stands.0 C.program C.templates stands.1 stands.2) c.args.number c.in-Some.word.now (sym c.in-Some.ensures)

pub flag-requires : goal.flag-requires
flag-requires c =
    let C = c.args.closed.now in
    let stands = c.requires.stands in
    flag_exists stands.0 C.program C.templates stands.1 c.args.undeclared.now c.requires.undeclared c.args.number c.requires.number

pub returns-in-Some-2 : goal.returns-in-Some-2
returns-in-Some-2 c = λ P closes whole d at.
    let C = c.args.closed.now in
    let w = c.args.number in
    let there = word_open P C.program C.templates closes w c.in-Some.word.now (sym c.in-Some.ensures) in
    let same : there.def ≡ d = (let e = there.at in cc) in
    let broken = c.in_ok-broken.ensures P closes whole d at (subst (λ x. ClosesWord P w x c.in-Some.word.now) same there.closes) ((programs_open P C.program C.templates closes).words w d c.in-Some.word.now at (sym c.in-Some.ensures)) (flag_is P C.program C.templates closes c.args.undeclared.now c.requires.undeclared w d c.flag.result at c.flag.ensures) in
    ap (numbered w) (subst (λ b. b ≡ word_verdict P C.start w d) c.in-Some-2.is broken)

pub returns-in-None : goal.returns-in-None
returns-in-None c = λ P closes whole d at.
    let C = c.args.closed.now in
    let w = c.args.number in
    let there = word_open P C.program C.templates closes w c.in-Some.word.now (sym c.in-Some.ensures) in
    let same : there.def ≡ d = (let e = there.at in cc) in
    let broken = c.in_ok-broken.ensures P closes whole d at (subst (λ x. ClosesWord P w x c.in-Some.word.now) same there.closes) ((programs_open P C.program C.templates closes).words w d c.in-Some.word.now at (sym c.in-Some.ensures)) (flag_is P C.program C.templates closes c.args.undeclared.now c.requires.undeclared w d c.flag.result at c.flag.ensures) in
    ap (numbered w) (subst (λ b. b ≡ word_verdict P C.start w d) c.in-None.is broken)
