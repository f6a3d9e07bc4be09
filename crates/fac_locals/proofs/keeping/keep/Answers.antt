use Rattle.std.proofs.Common.{◌∙◌, ◌++◌, ap, sym, refl, List, ℕ, []}
use Rattle.fac_locals.specs.declared.cell.Cell.{Cell}
use Rattle.fac_locals.specs.Cells.{kept_cells, hole_cells}
use Rattle.fac_locals.specs.Asked.{cells_of}
use Rattle.fac_locals.proofs.CellLemmas.{cells_of_captured}
use Rattle.fac_locals.proofs.keeping.keep.Goals as goal

pub returns-clause-captures : goal.returns-clause-captures
returns-clause-captures c = λ i h. c.in_ok-captures.ensures i h

pub returns-clause-cells : goal.returns-clause-cells
returns-clause-cells c =
    λ i h holes.
    c.in_ok-own.ensures
    ∙ ap (λ (cs : List Cell). cs ++ hole_cells c.args.holes) (ap (λ (ks : List ℕ). cells_of c.args.cells.now ks) (c.in_ok-captures.ensures i h) ∙ cells_of_captured [] c.args.cells.now i 0 refl)
    ∙ ap (λ (n : ℕ). kept_cells c.args.cells.now i ++ hole_cells n) (sym holes)
