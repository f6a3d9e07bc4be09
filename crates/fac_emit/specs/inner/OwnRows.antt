-- The row that the kinds of an image have for a class, and the pair that a word has.
use Rattle.std.specs.Prelude.{ℕ, List, [], ◌∷◌, true, false, Option, Some, None}
use Rattle.fac_lang.specs.declared.program.ClassDef.{ClassDef}
use Rattle.fac_lang.specs.Classes.{has_own}
use Rattle.fac_locals.specs.declared.closing.Closed.{Closed}
use Rattle.fac_code.specs.declared.image.KindRow.{KindRow}
use Rattle.fac_emit.specs.ProgramTables.{kind_row_of}

-- that of class c, where it has a kind of its own
abbrev pub own_rows : Closed → ℕ → ClassDef → List KindRow
own_rows C c d = elim (has_own d.shape) [ true ↦ kind_row_of C c d ∷ [] | false ↦ [] ]

-- that of a word, where it is that of a class with this kind
abbrev pub own_pairs : ℕ → Option ℕ → List (ℕ × ℕ)
own_pairs w None = []
own_pairs w (Some k) = (w, k) ∷ []
