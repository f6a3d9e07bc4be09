use Rattle.std.proofs.Common.{subst, arith}
use Rattle.std.specs.Prelude.{slice_get}
use Rattle.fac_abs.proofs.SeenLemmas.{grows_refl, grows_trans}
use Rattle.fac_check.specs.declared.doing.Transfer.{Transfer}
use Rattle.fac_check.specs.inner.Walking.{ComesTo}
use Rattle.fac_check.proofs.ExecutedItems.{comes_first, comes_on, comes_to_end, act_there}
use Rattle.fac_check.proofs.doing.follow.Goals as goal

pub following-init : goal.following-init
following-init c = record {
  grows = grows_refl c.args.marks.now;
  there = c.requires.doing;
  within = omega arith;
  follows = λ O next f l. comes_first O c.args.marks.now c.args.step c.args.doing next f l;
}

pub following-preserved : goal.following-preserved
following-preserved c =
    let M = c.args.marks.now in
    let L = c.following.marks in
    let K = c.word.new.marks in
    let i = c.following.invariant in
    record {
      grows = grows_trans _ _ _ i.grows c.in_ok-last-in-Some.ensures.grows;
      there = c.in_ok-last-in-Some.ensures.there;
      within = omega (arith, i.within, c.in-Some.ensures);
      follows = λ O next f l.
          let before = subst (λ (D : Transfer). ComesTo O M L c.args.step c.args.doing D next f c.following.left) c.in-Again.is (i.follows O next f l) in
          comes_on O M c.args.step c.args.doing next f L c.in-Again.number c.in-Again.stack c.following.left before K c.in_ok-last-in-Some.last c.in-Some.rest c.in-Some.ensures (c.in_ok-last-in-Some.ensures.does O);
    }

pub returns-in-None-clause-follows : goal.returns-in-None-clause-follows
returns-in-None-clause-follows c = λ O next f l.
    let M = c.args.marks.now in
    let L = c.following.marks in
    let i = c.following.invariant in
    let before = subst (λ (D : Transfer). ComesTo O M L c.args.step c.args.doing D next f c.following.left) c.in-Again.is (i.follows O next f l) in
    comes_to_end O M c.args.step c.args.doing next f L c.in-Again.number c.in-Again.stack c.following.left before c.in-None.ensures

pub returns-clause-there : goal.returns-clause-there
returns-clause-there c = (act_there (slice_get c.args.subject.closed.now.program.words) c.following.marks c.following.last c.in_default.not-Again c.following.invariant.there, c.following.invariant.within)
