-- The forms that are rows, as the code's table has them.
use Rattle.std.specs.Prelude.{ℕ, Bool, false, List, [], ◌∷◌, Option, Some, None, map, slice_get, if◌then◌else◌}
use Rattle.std.specs.Str.{bytes_eq}
use denote.Enum.Declared.{tag_of}
use Rattle.fac_source.specs.contracts.tree.FormKind.{the_type}
use Rattle.fac_source.specs.declared.tree.FormKind.{FormKind}
use Rattle.fac_source.specs.declared.form_table.FormRow.{FormRow}
use Rattle.fac_source.specs.declared.form_table.Slot.{Slot}
use Rattle.fac_source.specs.declared.form_table.TheConstants.{FORMS}

-- a row of the table
abbrev pub Row : Type 0
Row = FormRow record { now : List ℕ } record { now : List Slot }

-- the row of a form, which stands at its number
abbrev pub row_of : FormKind → Option Row
row_of kind = slice_get FORMS (tag_of the_type kind)

abbrev pub head_in : Option Row → List ℕ
head_in None = []
head_in (Some row) = row.head.now

abbrev pub slots_in : Option Row → List Slot
slots_in None = []
slots_in (Some row) = row.slots.now

abbrev pub phrase_in : Option Row → Bool
phrase_in None = false
phrase_in (Some row) = row.has_phrase

-- the first token of a form
abbrev pub head_of : FormKind → List ℕ
head_of kind = head_in (row_of kind)

-- its slots
abbrev pub slots_of : FormKind → List Slot
slots_of kind = slots_in (row_of kind)

-- whether it defines a word that has a phrase
abbrev pub gives_phrase : FormKind → Bool
gives_phrase kind = phrase_in (row_of kind)

-- the first of these that a token of this text begins
abbrev pub kind_among : List (List ℕ × FormKind) → List ℕ → Option FormKind
kind_among [] text = None
kind_among (r ∷ rs) text = (if bytes_eq text r.0 then Some r.1 else kind_among rs text)

abbrev pub begins : Row → List ℕ × FormKind
begins row = (row.head.now, row.kind)

-- the form that a token of this text begins
unfoldable pub kind_begun : List ℕ → Option FormKind
kind_begun text = kind_among (map begins FORMS) text
