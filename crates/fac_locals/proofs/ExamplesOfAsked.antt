-- Examples that compute: the quotations of a phrase in reading order, and what is kept where cells are asked for.
use Rattle.std.proofs.Common.{◌≡◌, List, [], ◌∷◌, refl}
use Rattle.fac_lang.specs.Meaning.{nowhere}
use Rattle.fac_lang.specs.Phrases.{Phrase, end, then, Item, quot, local, fry, hole}
use Rattle.fac_locals.specs.declared.cell.Cell.TheVariants.{Local, Hole}
use Rattle.fac_locals.specs.Cells.{captured, inner_cells}
use Rattle.fac_locals.specs.Asked.{has_cell, kept_from, cells_of, quotations_in}

-- items at no place
abbrev phrase : List Item → Phrase
phrase [] = end
phrase (i ∷ is) = then i nowhere (phrase is)

-- `[ a ]` and `'[ _ [ a b ] ]`, where a and b are locals
abbrev inner : Item
inner = quot (phrase (local 0 ∷ local 1 ∷ []))

abbrev first : Item
first = quot (phrase (local 0 ∷ []))

abbrev second : Item
second = fry (phrase (hole 0 ∷ inner ∷ [])) 1

pub in_reading_order : quotations_in (phrase (first ∷ second ∷ [])) ≡ first ∷ second ∷ inner ∷ []
in_reading_order = refl

-- cells that are asked for are kept where they were bound last
pub kept_of_last : kept_from 0 (Local 1 ∷ Local 0 ∷ Local 1 ∷ []) (has_cell (record { locals = 0 ∷ 1 ∷ []; holes = [] })) ≡ 1 ∷ 2 ∷ []
kept_of_last = refl

pub cells_kept : cells_of (Local 1 ∷ Local 0 ∷ Local 1 ∷ []) (1 ∷ 2 ∷ []) ≡ Local 0 ∷ Local 1 ∷ []
cells_kept = refl

pub captured_alike : captured (Local 1 ∷ Local 0 ∷ Local 1 ∷ []) second ≡ 1 ∷ 2 ∷ []
captured_alike = refl

-- the frame of the fry: what it keeps, and its hole
pub frame_of_fry : inner_cells (Local 1 ∷ Local 0 ∷ Local 1 ∷ []) second ≡ Local 0 ∷ Local 1 ∷ Hole 0 ∷ []
frame_of_fry = refl
