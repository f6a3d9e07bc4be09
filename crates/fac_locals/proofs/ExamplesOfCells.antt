-- Examples that compute: which cells a quotation keeps, where a local is found, and what is put for cells.
use Rattle.std.proofs.Common.{◌≡◌, List, [], ◌∷◌, Some, refl}
use Rattle.fac_lang.specs.Meaning.{nowhere}
use Rattle.fac_lang.specs.Phrases.{yes, no, Phrase, end, then, Item, quot, bind, local, fry, hole, held, plain}
use Rattle.fac_lang.specs.Substitution.{put_local, put_holes}
use Rattle.fac_locals.specs.declared.cell.Cell.TheVariants.{Local, Hole}
use Rattle.fac_locals.specs.Cells.{cell_number, captured, inner_cells, hole_cells}
use Rattle.fac_locals.specs.Frames.{filled}

-- items at no place
abbrev phrase : List Item → Phrase
phrase [] = end
phrase (i ∷ is) = then i nowhere (phrase is)

-- an inner local hides an outer one of the same number
pub inner_hides : cell_number (Local 0 ∷ Local 1 ∷ Local 0 ∷ []) (Local 0) ≡ Some 2
inner_hides = refl

-- a quotation keeps what it asks for, in the order of the cells around it
pub in_order : captured (Local 0 ∷ Local 1 ∷ Local 2 ∷ []) (quot (phrase (local 2 ∷ local 0 ∷ local 2 ∷ []))) ≡ 0 ∷ 2 ∷ []
in_order = refl

-- what a quotation in it asks for, but for what is bound before
pub of_inner : captured (Local 0 ∷ Local 1 ∷ []) (quot (phrase (quot (phrase (local 1 ∷ [])) ∷ bind 0 ∷ local 0 ∷ []))) ≡ 1 ∷ []
of_inner = refl

-- a hidden cell isn't kept
pub hidden : captured (Local 0 ∷ Local 0 ∷ []) (quot (phrase (local 0 ∷ []))) ≡ 1 ∷ []
hidden = refl

-- a quotation in a fry keeps holes of the fry, and a fry in it has its own
pub holes_of_fry : captured (hole_cells 2) (quot (phrase (hole 1 ∷ []))) ≡ 1 ∷ []
holes_of_fry = refl

pub holes_of_nested_fry : captured (Local 0 ∷ hole_cells 2) (fry (phrase (hole 0 ∷ local 0 ∷ [])) 1) ≡ 0 ∷ []
holes_of_nested_fry = refl

-- captures come first, then holes
pub cells_of_fry : inner_cells (Local 0 ∷ Local 1 ∷ []) (fry (phrase (hole 0 ∷ local 1 ∷ [])) 1) ≡ Local 1 ∷ Hole 0 ∷ []
cells_of_fry = refl

abbrev first : Item
first = held (plain yes)

abbrev second : Item
second = held (plain no)

-- what is put for cells, as the meaning puts it for locals and holes
pub put_like_locals : filled (Local 0 ∷ Local 1 ∷ []) (first ∷ second ∷ []) (phrase (local 1 ∷ quot (phrase (local 0 ∷ [])) ∷ bind 0 ∷ local 0 ∷ [])) ≡ phrase (second ∷ quot (phrase (first ∷ [])) ∷ bind 0 ∷ local 0 ∷ [])
put_like_locals = refl

pub put_as_bound :
    put_local 0 second (phrase (local 0 ∷ quot (phrase (local 0 ∷ [])) ∷ [])) ≡ filled (Local 0 ∷ []) (second ∷ []) (phrase (local 0 ∷ quot (phrase (local 0 ∷ [])) ∷ []))
put_as_bound = refl

pub put_as_holes : put_holes (first ∷ second ∷ []) (phrase (hole 1 ∷ quot (phrase (hole 0 ∷ [])) ∷ [])) ≡ filled (hole_cells 2) (first ∷ second ∷ []) (phrase (hole 1 ∷ quot (phrase (hole 0 ∷ [])) ∷ []))
put_as_holes = refl
