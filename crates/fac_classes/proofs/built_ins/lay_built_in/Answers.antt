use Rattle.std.proofs.Common.{◌+◌, List, Bool, subst, sym, ◌∙◌}
use Rattle.fac_classes.proofs.FillLemmas.{LaysBelow, lays_marked, lays_passed}
use Rattle.fac_classes.proofs.built_ins.lay_built_in.Goals.{then-built_in_has, else-built_in_has}
use Rattle.fac_classes.proofs.built_ins.lay_built_in.Goals as goal

pub loop-kind-preserved : goal.loop-kind-preserved
loop-kind-preserved c =
    elim c.if-built_in_has.branch [
      | then-built_in_has w ↦ subst (λ (cells : List Bool). LaysBelow c.args.classes.now c.args.width c.args.class (c.loop-kind.kind + 1) c.args.cells.now cells) (sym w.cells-is)
          (lays_marked c.args.classes.now c.requires.sound c.args.width c.args.class c.args.number c.loop-kind.kind c.args.cells.now c.loop-kind.cells w.mark.new.cells c.requires.number c.loop-kind.invariant (sym w.if-built_in_has.true ∙ c.built_in_has.ensures) w.mark.ensures)
      | else-built_in_has w ↦ subst (λ (cells : List Bool). LaysBelow c.args.classes.now c.args.width c.args.class (c.loop-kind.kind + 1) c.args.cells.now cells) (sym w.cells-is)
          (lays_passed c.args.classes.now c.requires.sound c.args.width c.args.class c.args.number c.loop-kind.kind c.args.cells.now c.loop-kind.cells c.requires.number c.loop-kind.invariant (sym w.if-built_in_has.false ∙ c.built_in_has.ensures))
    ]
