-- Items as they stand one behind another: each without a bracket, or a bracket.
use Rattle.std.specs.Prelude.{List, [], ◌∷◌, map, Option, None}
use Rattle.fac_base.specs.declared.place.Place.{Place}
use Rattle.fac_source.specs.declared.tree.Bracket.{Bracket}
use Rattle.fac_source.specs.declared.tree.Bracket.TheVariants.{Quotation, Array, Fry}
use Rattle.fac_source.specs.declared.tree.Element.{Element}
use Rattle.fac_source.specs.declared.tree.Element.TheVariants as element
use Rattle.fac_items.specs.Written.{Tok, Node}
use Rattle.fac_items.specs.FromElements.{node, tok}

-- An array comes with the name behind it, where the array is one that `cond` could read and the search takes the name to `cond`.
pub data Bit : Type 0 where
  leaf : Node → Bit
  opens : Bracket → Place → Bit
  opens_locals : List Tok → Place → Bit
  opens_array : Option Tok → Place → Bit
  closes : Bit

-- Elements, where each array takes the next one of these names.

abbrev pub next_name : List (Option Tok) → Option Tok
next_name [] = None
next_name (o ∷ os) = o

abbrev pub later_names : List (Option Tok) → List (Option Tok)
later_names [] = []
later_names (o ∷ os) = os

abbrev pub opens_bit : Bracket → Place → List (Option Tok) → Bit
opens_bit Quotation p os = opens Quotation p
opens_bit Fry p os = opens Fry p
opens_bit Array p os = opens_array (next_name os) p

abbrev pub names_within : Bracket → List (Option Tok) → List (Option Tok)
names_within Quotation os = os
names_within Fry os = os
names_within Array os = later_names os

abbrev pub element_bit : List (Option Tok) → Element → Bit
element_bit os (element.Item t) = leaf (node t)
element_bit os (element.Opens b p) = opens_bit b p os
element_bit os (element.OpensLocals p names bar) = opens_locals (map tok names) p
element_bit os (element.Closes b p) = closes

abbrev pub names_behind : Element → List (Option Tok) → List (Option Tok)
names_behind (element.Opens b p) os = names_within b os
names_behind _ os = os

abbrev pub all_bits : List (Option Tok) → List Element → List Bit
all_bits os [] = []
all_bits os (e ∷ es) = element_bit os e ∷ all_bits (names_behind e os) es
