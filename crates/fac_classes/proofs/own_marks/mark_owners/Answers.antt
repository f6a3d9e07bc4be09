use Rattle.std.proofs.Common.{ℕ, get_or, refl, ap, subst, ◌∙◌, arith}
use Rattle.fac_lang.specs.Classes.{class_with}
use Rattle.fac_classes.specs.inner.Filling.{MarksUp}
use Rattle.fac_classes.proofs.FillLemmas.{owner_here, owners_total, owns_more, owns_all}
use Rattle.fac_classes.proofs.own_marks.mark_owners.Goals as goal

pub mark_up-requires-clause-kind : goal.mark_up-requires-clause-kind
mark_up-requires-clause-kind c =
    let total = owners_total c.args.classes.now c.args.owners.now c.requires.owners in
    omega (arith, total)

pub mark_up-requires-clause-owner : goal.mark_up-requires-clause-owner
mark_up-requires-clause-owner c =
    ap (class_with 0 c.args.classes.now) c.loop-class.invariant.counted ∙ owner_here c.args.classes.now c.args.owners.now c.loop-class.class-index (get_or c.args.owners.now c.loop-class.class-index 0) c.requires.owners c.loop-class-test.true refl

pub overflow_add-kind : goal.overflow_add-kind
overflow_add-kind c =
    let total = owners_total c.args.classes.now c.args.owners.now c.requires.owners in
    omega (arith, total)

pub loop-class-preserved : goal.loop-class-preserved
loop-class-preserved c = record {
  counted = omega arith;
  owns =
      owns_more c.args.classes.now c.args.width c.loop-class.class-index (get_or c.args.owners.now c.loop-class.class-index 0) c.args.owners.now c.args.cells.now c.loop-class.cells c.mark_up.new.cells
      (c.requires.width ∙ owners_total c.args.classes.now c.args.owners.now c.requires.owners) c.loop-class-test.true refl c.loop-class.invariant.owns
      (subst (λ (k : ℕ). MarksUp c.args.classes.now c.args.width (get_or c.args.owners.now c.loop-class.class-index 0) k c.loop-class.cells c.mark_up.new.cells) c.loop-class.invariant.counted c.mark_up.ensures);
}

pub returns : goal.returns
returns c = owns_all c.args.classes.now c.requires.sound c.args.width c.loop-class.class-index c.args.owners.now c.args.cells.now c.loop-class.cells c.requires.owners (omega (arith, c.loop-class-test.false)) c.loop-class.invariant.owns
