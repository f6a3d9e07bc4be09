use Rattle.std.proofs.Common.{sym, arith}
use Rattle.fac_classes.proofs.FillLemmas.{climb_start, climb_end, climb_top, climb_up}
use Rattle.fac_classes.proofs.own_marks.mark_up.Goals as goal

pub up-init : goal.up-init
up-init c = climb_start c.args.classes.now c.args.width c.args.class c.args.kind c.args.cells.now c.requires.owner c.requires.right

pub returns-then-left-eq0 : goal.returns-then-left-eq0
returns-then-left-eq0 c =
    climb_end c.args.classes.now c.requires.sound c.args.width c.args.class c.args.kind c.up.left c.up.at c.args.cells.now c.up.cells c.mark.new.cells c.requires.kind c.requires.owner c.up.invariant c.mark.ensures c.if-left-eq0.true

pub up-preserved : goal.up-preserved
up-preserved c =
    climb_up c.args.classes.now c.requires.sound c.args.width c.args.class c.args.kind c.up.left c.up.at c.in-Some.parent c.args.cells.now c.up.cells c.mark.new.cells c.requires.kind c.requires.owner c.up.invariant c.mark.ensures (omega (arith, c.if-left-eq0.false)) (sym c.in-Some.ensures)

pub returns-in-None : goal.returns-in-None
returns-in-None c =
    climb_top c.args.classes.now c.requires.sound c.args.width c.args.class c.args.kind c.up.left c.up.at c.args.cells.now c.up.cells c.mark.new.cells c.requires.kind c.requires.owner c.up.invariant c.mark.ensures (sym c.in-None.ensures)
