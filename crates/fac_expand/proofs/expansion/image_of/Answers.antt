use Rattle.std.proofs.Common.{ℕ, List, Option, subst}
use Rattle.fac_code.specs.declared.image.WordRow.{WordRow}
use Rattle.fac_expand.specs.inner.Makings.{AreMoved}
use Rattle.fac_expand.specs.inner.Pieces.{ArePlaced}
use Rattle.fac_expand.proofs.Expansions.{image_where}
use Rattle.fac_expand.proofs.expansion.image_of.Goals as goal

pub returns : goal.returns
returns c =
    let N = c.args.plain.now in
    let making = c.args.making in
    let tested = c.are_placed.ensures c.if-not-are_placed.false in
    let placed = subst (λ (ps : List (Option ℕ)). ArePlaced ps c.args.top N.words) c.as_slice.ensures (subst (λ (ws : List WordRow). ArePlaced c.as_slice.result.now c.args.top ws) c.as_slice-2.ensures tested) in
    let moved = subst (λ (ps : List (Option ℕ)). AreMoved N c.args.start ps making.templates c.in_ok-tables.tables) c.as_slice-3.ensures c.in_ok-tables.ensures in
    image_where c.args.top N c.in_ok-tables.tables making.code c.args.start making.places making.templates c.requires.made c.requires.count c.requires.starts placed moved c.new.result c.new.ensures
