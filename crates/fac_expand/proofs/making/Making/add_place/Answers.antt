use Rattle.std.proofs.Common.{◌++◌, List, ap, ◌∙◌}
use Rattle.fac_code.specs.declared.image.Instr.{Instr}
use Rattle.fac_expand.proofs.MadePieces.{place_goes}
use Rattle.fac_expand.proofs.making.Making.add_place.Goals as goal

pub returns : goal.returns
returns c =
    let so_far = c.args.self.now in
    let added = c.in_ok-add_piece.ensures ∙ ap (λ (p : List Instr). so_far.code ++ p) c.as_slice.ensures in
    place_goes c.args.plain.now so_far c.len-at.result c.args.place c.in_ok-piece.piece c.add_piece.new.code c.note.new.places c.len-at.ensures c.in_ok-piece.ensures added c.note.ensures
