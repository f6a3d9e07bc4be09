-- Locals, fries and holes, computed.
use Rattle.std.specs.Prelude.{◌≡◌, ℕ, List, [], ◌∷◌, map, Option, Some, None, codes}
use Rattle.std.proofs.Common.{refl, replicate}
use Rattle.fac_source.specs.declared.token.Token.{Token}
use Rattle.fac_source.specs.declared.tree.Bracket.TheVariants as bracket
use Rattle.fac_source.specs.declared.tree.Element.{Element}
use Rattle.fac_source.specs.declared.tree.Element.TheVariants.{Item, Opens, OpensLocals, Closes}
use Rattle.fac_source.specs.declared.tree.Form.{Form}
use Rattle.fac_source.specs.declared.tree.Form.TheVariants.{Items}
use Rattle.fac_source.specs.declared.tree.Term.TheVariants.{Bind, Hole, CalledHole}
use Rattle.fac_effect.specs.declared.spelling.Spelling.TheVariants as spelled
use Rattle.fac_source.specs.FormRows.{kind_begun}
use Rattle.fac_effect.specs.Spellings.{spelling_of, has_integer_form, word_spelling, sign_spelling, reserved_spelling}
use Rattle.fac_parse.specs.declared.context.Around.TheVariants as around
use Rattle.fac_parse.specs.declared.context.Context.{Context}
use Rattle.fac_parse.specs.Contexts.{items_in, behind}
use Rattle.fac_parse.specs.inner.Reader.{State, start, steps, no_half, binding, heading, stuck, begun_as, grow}
use Rattle.fac_parse.proofs.ExamplesOfArrays.{here, w, tree, plain, array}

-- the tree of tokens with these texts, and whether some tree begins with them
abbrev read : List (List ℕ) → Option (List Form)
read texts = tree (map w texts)

abbrev reaches : List (List ℕ) → Option State
reaches texts = steps (Some start) (map w texts)

abbrev x : Token
x = w (codes "x")

abbrev bind : Element
bind = Item (Bind here x)

abbrev hole : Element
hole = Item (Hole here)

-- items with so many locals in scope, a fry with so many holes, a quotation in it, and an array with locals around
abbrev locals : ℕ → Context
locals n = items_in (Some n)

abbrev fry : ℕ → Context
fry n = record { around = around.Fry; locals = None; holes = Some n }

abbrev quoted : ℕ → Context
quoted n = record { around = around.Items; locals = None; holes = Some n }

abbrev array_in : ℕ → Context
array_in n = record { around = around.Array 0; locals = Some n; holes = None }

-- [| x | :> x ]
quotation_with_locals : read (codes "[|" ∷ codes "x" ∷ codes "|" ∷ codes ":>" ∷ codes "x" ∷ codes "]" ∷ []) ≡ Some (Items (OpensLocals here (x ∷ []) here ∷ bind ∷ Closes bracket.Quotation here ∷ []) ∷ [])
unfolding spelling_of has_integer_form word_spelling sign_spelling kind_begun reserved_spelling
quotation_with_locals = refl

-- '[ _ [ @ ] ]
fry_with_holes : read (codes "'[" ∷ codes "_" ∷ codes "[" ∷ codes "@" ∷ codes "]" ∷ codes "]" ∷ []) ≡ Some (Items (Opens bracket.Fry here ∷ hole ∷ Opens bracket.Quotation here ∷ Item (CalledHole here) ∷ Closes bracket.Quotation here ∷ Closes bracket.Quotation here ∷ []) ∷ [])
unfolding spelling_of has_integer_form word_spelling sign_spelling kind_begun reserved_spelling
fry_with_holes = refl

-- `:>` stands neither in `:` nor at the top level, nor directly in an array: : x ( -- ) :> and [ :> and :: x ( -- ) { :>
no_local_in_word : reaches (codes ":" ∷ codes "x" ∷ codes "(" ∷ codes "--" ∷ codes ")" ∷ codes ":>" ∷ []) ≡ None
unfolding spelling_of has_integer_form word_spelling sign_spelling kind_begun reserved_spelling
no_local_in_word = refl

no_local_outside : reaches (codes "[" ∷ codes ":>" ∷ []) ≡ None
unfolding spelling_of has_integer_form word_spelling sign_spelling kind_begun reserved_spelling
no_local_outside = refl

no_local_in_array : behind (array_in 3 ∷ locals 3 ∷ []) bind ≡ None
no_local_in_array = refl

local_in_quotation_of_array : behind (locals 3 ∷ array_in 3 ∷ locals 3 ∷ []) bind ≡ Some (locals 4 ∷ array_in 3 ∷ locals 3 ∷ [])
local_in_quotation_of_array = refl

-- A local ends with the quotation that it is bound in.
local_ends : behind (locals 9 ∷ locals 3 ∷ []) (Closes bracket.Quotation here) ≡ Some (locals 3 ∷ [])
local_ends = refl

-- At most 64 locals are in scope: inputs are locals, a local that another of its name hides counts, and so do those around an array. Where 64 are, `:>` can't stand.
local_64 : behind (locals 63 ∷ []) bind ≡ Some (locals 64 ∷ [])
local_64 = refl

local_65 : grow (locals 64 ∷ []) no_half spelled.Binds (w (codes ":>")) ≡ stuck
local_65 = refl

local_65_in_array : grow (locals 64 ∷ array_in 64 ∷ locals 64 ∷ []) no_half spelled.Binds (w (codes ":>")) ≡ stuck
local_65_in_array = refl

input_64 : grow (locals 62 ∷ []) (heading here (x ∷ [])) spelled.Name x ≡ begun_as (heading here (x ∷ x ∷ []))
input_64 = refl

input_65 : grow (locals 62 ∷ []) (heading here (x ∷ x ∷ [])) spelled.Name x ≡ stuck
input_65 = refl

inputs_are_in_scope : behind (plain ∷ []) (OpensLocals here (replicate 64 x) here) ≡ Some (locals 64 ∷ plain ∷ [])
inputs_are_in_scope = refl

-- The name of a local doesn't end in `!`, and the token is that of the name.
no_bang : grow (locals 0 ∷ []) (binding here) spelled.Name (w (codes "x!")) ≡ stuck
no_bang = refl

no_bang_in_heading : grow (plain ∷ []) (heading here []) spelled.Name (w (codes "x!")) ≡ stuck
no_bang_in_heading = refl

-- :: x ( x! and :: x ( x!: and :: x ( q: ( x! -- ) -- x! ) ;
no_bang_in_input : reaches (codes "::" ∷ codes "x" ∷ codes "(" ∷ codes "x!" ∷ []) ≡ None
unfolding spelling_of has_integer_form word_spelling sign_spelling kind_begun reserved_spelling
no_bang_in_input = refl

no_bang_before_colon : reaches (codes "::" ∷ codes "x" ∷ codes "(" ∷ codes "x!:" ∷ []) ≡ None
unfolding spelling_of has_integer_form word_spelling sign_spelling kind_begun reserved_spelling
no_bang_before_colon = refl

-- Two dots begin a row variable, which is no local: :: x ( ..x! q: ( x! -- ) -- x! ) :> x ;
abbrev with_bangs : List (List ℕ)
with_bangs =
    codes "::" ∷ codes "x" ∷ codes "(" ∷ codes "..x!" ∷ codes "q:" ∷ codes "(" ∷ codes "x!" ∷ codes "--" ∷ codes ")" ∷ codes "--" ∷ codes "x!" ∷ codes ")" ∷ codes ":>" ∷ codes "x" ∷ []

abbrev is_some_state : Option State → Option ℕ
is_some_state None = None
is_some_state (Some s) = Some 0

bang_elsewhere : is_some_state (reaches with_bangs) ≡ Some 0
unfolding spelling_of has_integer_form word_spelling sign_spelling kind_begun reserved_spelling
bang_elsewhere = refl

-- In an array are the locals around it, and no holes. Holes stand in a fry and in the quotations of one.
array_around : behind (locals 3 ∷ []) (Opens bracket.Array here) ≡ Some (array_in 3 ∷ locals 3 ∷ [])
array_around = refl

array_in_fry : behind (fry 2 ∷ plain ∷ []) (Opens bracket.Array here) ≡ Some (array 0 ∷ fry 2 ∷ plain ∷ [])
array_in_fry = refl

hole_outside : behind (plain ∷ []) hole ≡ None
hole_outside = refl

hole_in_array : behind (array 3 ∷ fry 2 ∷ plain ∷ []) hole ≡ None
hole_in_array = refl

hole_in_quotation_of_array : behind (plain ∷ array 3 ∷ fry 2 ∷ plain ∷ []) hole ≡ None
hole_in_quotation_of_array = refl

-- The holes of a quotation are those of the fry around it, and those of a fry are its own, in an array too.
hole_of_quotation : behind (quoted 5 ∷ fry 2 ∷ plain ∷ []) (Closes bracket.Quotation here) ≡ Some (fry 5 ∷ plain ∷ [])
hole_of_quotation = refl

hole_of_fry : behind (fry 5 ∷ fry 2 ∷ plain ∷ []) (Closes bracket.Quotation here) ≡ Some (fry 2 ∷ plain ∷ [])
hole_of_fry = refl

fry_in_array : behind (plain ∷ array 3 ∷ fry 2 ∷ plain ∷ []) (Opens bracket.Fry here) ≡ Some (fry 0 ∷ plain ∷ array 3 ∷ fry 2 ∷ plain ∷ [])
fry_in_array = refl

-- A fry has 64 holes.
hole_64 : behind (quoted 63 ∷ fry 2 ∷ plain ∷ []) hole ≡ Some (quoted 64 ∷ fry 2 ∷ plain ∷ [])
hole_64 = refl

hole_65 : behind (quoted 64 ∷ fry 2 ∷ plain ∷ []) hole ≡ None
hole_65 = refl

-- Fries and quotations with locals are no elements, and count for the levels.
fry_no_element : behind (array 3 ∷ plain ∷ []) (Opens bracket.Fry here) ≡ None
fry_no_element = refl

locals_no_element : grow (array 3 ∷ plain ∷ []) no_half spelled.OpensLocals (w (codes "[|")) ≡ stuck
locals_no_element = refl

fry_257 : behind (replicate 257 plain) (Opens bracket.Fry here) ≡ None
fry_257 = refl

locals_257 : grow (replicate 257 plain) no_half spelled.OpensLocals (w (codes "[|")) ≡ stuck
locals_257 = refl
