-- Names that compute as notes tell them.
use Rattle.std.specs.Prelude.{◌≡◌, refl, [], ◌∷◌, codes}
use Rattle.fac_notes.specs.Visible.{visible}
use Rattle.fac_notes.specs.WordNames.{name_text}

-- an escape, a line's end and a delete, between letters of one and of two bytes
controls : visible (27 ∷ 97 ∷ 10 ∷ 195 ∷ 169 ∷ 127 ∷ []) ≡ 63 ∷ 97 ∷ 63 ∷ 195 ∷ 169 ∷ 63 ∷ []
controls = refl

-- a space and the greatest of the others
no_controls : visible (32 ∷ 126 ∷ 128 ∷ []) ≡ 32 ∷ 126 ∷ 128 ∷ []
no_controls = refl

-- of a word both parts
both_parts : name_text (record { vocab = 7 ∷ 118 ∷ []; name = 119 ∷ 7 ∷ [] }) ≡ codes "?v:w?"
both_parts = refl
