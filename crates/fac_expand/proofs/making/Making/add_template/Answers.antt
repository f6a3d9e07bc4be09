use Rattle.std.proofs.Common.{◌++◌, ℕ, List, ap, ◌∙◌}
use Rattle.fac_code.specs.declared.image.Instr.{Instr}
use Rattle.fac_code.specs.declared.image.TemplateRow.{TemplateRow}
use Rattle.fac_expand.proofs.MadePieces.{template_goes}
use Rattle.fac_expand.proofs.making.Making.add_template.Goals as goal

pub returns : goal.returns
returns c =
    let so_far = c.args.self.now in
    let template = c.args.template.now in
    let added = c.in_ok-add_piece.ensures ∙ ap (λ (p : List Instr). so_far.code ++ p) c.as_slice.ensures in
    let row : TemplateRow = record { entry = c.len-at.result; cells = c.in_ok-cells.cells; holes = template.holes; height = template.height } in
    template_goes c.args.plain.now so_far c.len-at.result template row c.in_ok-piece.piece c.add_piece.new.code c.push.new.self c.len-at.ensures c.in_ok-piece.ensures c.requires
    (ap (λ (cells : List ℕ). record { entry = c.len-at.result; cells = cells; holes = template.holes; height = template.height }) c.in_ok-cells.ensures) added c.in_ok-push.ensures.ok
