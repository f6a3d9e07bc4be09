use Rattle.std.proofs.Common.{◌++◌, List, ap, ◌∙◌}
use Rattle.fac_code.specs.declared.image.Instr.{Instr}
use Rattle.fac_expand.proofs.MadePieces.{begins}
use Rattle.fac_expand.proofs.making.Making.add_start.Goals as goal

pub returns : goal.returns
returns c =
    let so_far = c.args.self.now in
    let added = c.in_ok-add_piece.ensures ∙ ap (λ (p : List Instr). so_far.code ++ p) c.as_slice.ensures in
    begins c.args.plain.now so_far c.len-at.result c.in_ok-piece.piece c.add_piece.new.code c.len-at.ensures c.in_ok-piece.ensures added
