-- Literal arrays, computed.
use Rattle.std.specs.Prelude.{◌≡◌, ℕ, List, [], ◌∷◌, Option, Some, None, codes}
use Rattle.std.proofs.Common.{refl, replicate}
use Rattle.fac_base.specs.declared.place.Place.{Place}
use Rattle.fac_source.specs.declared.token.Token.{Token}
use Rattle.fac_source.specs.declared.tree.Bracket.TheVariants as bracket
use Rattle.fac_source.specs.declared.tree.Element.{Element}
use Rattle.fac_source.specs.declared.tree.Element.TheVariants.{Item, Opens, Closes}
use Rattle.fac_source.specs.declared.tree.Literal.TheVariants.{True}
use Rattle.fac_source.specs.declared.tree.Term.TheVariants.{Literal}
use Rattle.fac_source.specs.declared.tree.Form.{Form}
use Rattle.fac_source.specs.declared.tree.Form.TheVariants.{Items}
use Rattle.fac_parse.specs.declared.context.Around.TheVariants as around
use Rattle.fac_parse.specs.declared.context.Context.{Context}
use Rattle.fac_source.specs.FormRows.{kind_begun}
use Rattle.fac_effect.specs.Spellings.{plain_token, spelling_of, has_integer_form, word_spelling, sign_spelling, reserved_spelling}
use Rattle.fac_parse.specs.Contexts.{items_in, behind}
use Rattle.fac_parse.specs.inner.Reader.{State, start, steps, ended}

abbrev pub here : Place
here = record { file = 1; token = 1 }

abbrev pub w : List ℕ → Token
w text = plain_token here text

-- the tree of these tokens, if there is one
abbrev pub forms_read : Option State → Option (List Form)
forms_read None = None
forms_read (Some s) = ended s

abbrev pub tree : List Token → Option (List Form)
tree tokens = forms_read (steps (Some start) tokens)

abbrev item : Element
item = Item (Literal (w (codes "t")) True)

-- a quotation, and an array with so many elements, where no local is in scope and no fry is around
abbrev pub plain : Context
plain = items_in None

abbrev pub array : ℕ → Context
array n = record { around = around.Array n; locals = None; holes = None }

-- { t [ t ] { } }
nested : tree (w (codes "{") ∷ w (codes "t") ∷ w (codes "[") ∷ w (codes "t") ∷ w (codes "]") ∷ w (codes "{") ∷ w (codes "}") ∷ w (codes "}") ∷ []) ≡
    Some (Items (Opens bracket.Array here ∷ item ∷ Opens bracket.Quotation here ∷ item ∷ Closes bracket.Quotation here ∷ Opens bracket.Array here ∷ Closes bracket.Array here ∷ Closes bracket.Array here ∷ []) ∷ [])
unfolding spelling_of has_integer_form word_spelling sign_spelling kind_begun reserved_spelling
nested = refl

-- { [ } ]
crossed : tree (w (codes "{") ∷ w (codes "[") ∷ w (codes "}") ∷ w (codes "]") ∷ []) ≡ None
unfolding spelling_of has_integer_form word_spelling sign_spelling kind_begun reserved_spelling
crossed = refl

-- Each item and each bracket that opens is an element of the array around it, and what stands in a quotation is none.
item_counts : behind (array 7 ∷ []) item ≡ Some (array 8 ∷ [])
item_counts = refl

quotation_counts : behind (array 7 ∷ []) (Opens bracket.Quotation here) ≡ Some (plain ∷ array 8 ∷ [])
quotation_counts = refl

array_counts : behind (array 7 ∷ []) (Opens bracket.Array here) ≡ Some (array 0 ∷ array 8 ∷ [])
array_counts = refl

quoted_counts_not : behind (plain ∷ array 8 ∷ []) item ≡ Some (plain ∷ array 8 ∷ [])
quoted_counts_not = refl

closing_counts_not : behind (array 3 ∷ array 8 ∷ []) (Closes bracket.Array here) ≡ Some (array 8 ∷ [])
closing_counts_not = refl

-- A bracket closes a pair of its kind.
array_stays_open : behind (array 3 ∷ plain ∷ []) (Closes bracket.Quotation here) ≡ None
array_stays_open = refl

quotation_stays_open : behind (plain ∷ plain ∷ []) (Closes bracket.Array here) ≡ None
quotation_stays_open = refl

-- Of 1,000,000 elements the last one may stand, and none behind it. The array ends, and a quotation that is the last one takes items.
last_stands : behind (array 999999 ∷ []) item ≡ Some (array 1000000 ∷ [])
last_stands = refl

item_too_many : behind (array 1000000 ∷ []) item ≡ None
item_too_many = refl

quotation_too_many : behind (array 1000000 ∷ []) (Opens bracket.Quotation here) ≡ None
quotation_too_many = refl

full_ends : behind (array 1000000 ∷ plain ∷ []) (Closes bracket.Array here) ≡ Some (plain ∷ [])
full_ends = refl

in_last : behind (plain ∷ array 1000000 ∷ []) item ≡ Some (plain ∷ array 1000000 ∷ [])
in_last = refl

-- Quotations and arrays nest 256 deep, counted together.
level_256 : behind (plain ∷ replicate 255 (array 1)) (Opens bracket.Array here) ≡ Some (array 0 ∷ plain ∷ replicate 255 (array 1))
level_256 = refl

level_257 : behind (plain ∷ replicate 256 (array 1)) (Opens bracket.Array here) ≡ None
level_257 = refl
