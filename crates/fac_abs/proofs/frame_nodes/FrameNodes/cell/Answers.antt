use Rattle.std.proofs.Common.{[], ◌-◌, get_or, sym, ◌∙◌, arith}
use Rattle.fac_abs.proofs.FrameLemmas.{piled_at, piled_past, cell_some, cell_empty, cell_none}
use Rattle.fac_abs.proofs.frame_nodes.FrameNodes.cell.Goals as goal

pub returns-then-cell-height : goal.returns-then-cell-height
returns-then-cell-height c = piled_past (get_or c.args.self.now c.args.frame []) c.args.cell (omega (arith, c.height-height.ensures, c.if-cell-height.true))

pub returns-in_default : goal.returns-in_default
returns-in_default c =
    let cells = get_or c.args.self.now c.args.frame [] in
    cell_none (c.height-height.result - 1 - c.args.cell) cells c.in_default.ensures ∙ sym (piled_at cells [] (c.height-height.result - 1 - c.args.cell) c.args.cell (omega (arith, c.height-height.ensures)))

pub returns-in-Some-pop : goal.returns-in-Some-pop
returns-in-Some-pop c =
    let cells = get_or c.args.self.now c.args.frame [] in
    cell_some (c.height-height.result - 1 - c.args.cell) cells (get_or c.args.self.now c.in-Some.rest []) _ c.in-Some-pop.mark c.in-Some.ensures.1 c.in-Some-pop.ensures.1 ∙ sym (piled_at cells [] (c.height-height.result - 1 - c.args.cell) c.args.cell (omega (arith, c.height-height.ensures)))

pub returns-in-None : goal.returns-in-None
returns-in-None c =
    let cells = get_or c.args.self.now c.args.frame [] in
    cell_empty (c.height-height.result - 1 - c.args.cell) cells (get_or c.args.self.now c.in-Some.rest []) c.in-Some.ensures.1 c.in-None.ensures ∙ sym (piled_at cells [] (c.height-height.result - 1 - c.args.cell) c.args.cell (omega (arith, c.height-height.ensures)))
