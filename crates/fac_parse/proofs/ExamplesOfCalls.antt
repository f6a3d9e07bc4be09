-- Words as values, and calls with a declared effect, computed.
use Rattle.std.specs.Prelude.{◌≡◌, ℕ, List, [], ◌∷◌, map, Option, Some, None, codes}
use Rattle.std.proofs.Common.{refl, replicate}
use Rattle.fac_base.specs.declared.height.Height.{Height}
use Rattle.fac_source.specs.declared.token.Token.{Token}
use Rattle.fac_source.specs.declared.token.TokKind.TheVariants.{Str}
use Rattle.fac_source.specs.declared.tree.Bracket.TheVariants as bracket
use Rattle.fac_source.specs.declared.tree.Callee.{Callee}
use Rattle.fac_source.specs.declared.tree.Callee.TheVariants.{Callable, Word}
use Rattle.fac_source.specs.declared.tree.Element.{Element}
use Rattle.fac_source.specs.declared.tree.Element.TheVariants.{Item, Opens, Closes}
use Rattle.fac_source.specs.declared.tree.Form.{Form}
use Rattle.fac_source.specs.declared.tree.Form.TheVariants.{Row, Items}
use Rattle.fac_source.specs.declared.tree.FormKind.TheVariants.{Constant}
use Rattle.fac_source.specs.declared.tree.Literal.TheVariants.{Text}
use Rattle.fac_source.specs.declared.tree.Part.TheVariants as part
use Rattle.fac_source.specs.declared.tree.Term.TheVariants.{Wrapped, EffectCall}
use Rattle.fac_effect.specs.declared.spelling.Spelling.TheVariants as spelled
use Rattle.fac_source.specs.FormRows.{kind_begun}
use Rattle.fac_effect.specs.Spellings.{wrap_text, spelling_of, has_integer_form, word_spelling, sign_spelling, reserved_spelling}
use Rattle.fac_parse.specs.Contexts.{behind}
use Rattle.fac_parse.specs.inner.Reader.{State, start, steps, no_half, wrapping, stuck, begun_as, grow}
use Rattle.fac_parse.proofs.ExamplesOfArrays.{here, w, tree, plain, array}

-- the tree of tokens with these texts, and the number of forms before what is open where some tree begins with them
abbrev read : List (List ℕ) → Option (List Form)
read texts = tree (map w texts)

abbrev forms_before : Option State → Option (List Form)
forms_before None = None
forms_before (Some s) = Some s.forms

abbrev begun : List (List ℕ) → Option (List Form)
begun texts = forms_before (steps (Some start) (map w texts))

abbrev x : Token
x = w (codes "x")

abbrev item : Element
item = Item (Wrapped here x)

abbrev height : ℕ → Option ℕ → Height
height ins outs = record { ins = ins; outs = outs }

abbrev called : Callee → List (List ℕ) → ℕ → Option ℕ → Element
called callee texts ins outs = Item (EffectCall callee here (map w texts) (height ins outs))

-- \ x
word_as_value : read (wrap_text ∷ codes "x" ∷ []) ≡ Some (Items (item ∷ []) ∷ [])
unfolding spelling_of has_integer_form word_spelling sign_spelling kind_begun reserved_spelling
word_as_value = refl

-- { \ x } and CONSTANT: x \ x
word_in_array : read (codes "{" ∷ wrap_text ∷ codes "x" ∷ codes "}" ∷ []) ≡ Some (Items (Opens bracket.Array here ∷ item ∷ Closes bracket.Array here ∷ []) ∷ [])
unfolding spelling_of has_integer_form word_spelling sign_spelling kind_begun reserved_spelling
word_in_array = refl

constant_word : read (codes "CONSTANT:" ∷ codes "x" ∷ wrap_text ∷ codes "x" ∷ []) ≡ Some (Row Constant here (part.Name x ∷ part.Literal (item ∷ []) ∷ []) ∷ [])
unfolding spelling_of has_integer_form word_spelling sign_spelling kind_begun reserved_spelling
constant_word = refl

-- A word as a value is one element, and no token of it stands where the array is full.
word_counts : behind (array 7 ∷ []) item ≡ Some (array 8 ∷ [])
word_counts = refl

last_word : grow (array 999999 ∷ plain ∷ []) no_half spelled.Wraps (w wrap_text) ≡ begun_as (wrapping here)
last_word = refl

word_too_many : grow (array 1000000 ∷ plain ∷ []) no_half spelled.Wraps (w wrap_text) ≡ stuck
word_too_many = refl

-- Behind `\` stands a name: not \ ; nor \ [ nor \ t nor \ \ nor \ call( nor \ 7 nor a string.
wraps_no_sign : begun (wrap_text ∷ codes ";" ∷ []) ≡ None
unfolding spelling_of has_integer_form word_spelling sign_spelling kind_begun reserved_spelling
wraps_no_sign = refl

wraps_no_quotation : begun (wrap_text ∷ codes "[" ∷ []) ≡ None
unfolding spelling_of has_integer_form word_spelling sign_spelling kind_begun reserved_spelling
wraps_no_quotation = refl

wraps_no_truth : begun (wrap_text ∷ codes "t" ∷ []) ≡ None
unfolding spelling_of has_integer_form word_spelling sign_spelling kind_begun reserved_spelling
wraps_no_truth = refl

wraps_once : begun (wrap_text ∷ wrap_text ∷ []) ≡ None
unfolding spelling_of has_integer_form word_spelling sign_spelling kind_begun reserved_spelling
wraps_once = refl

wraps_no_call : begun (wrap_text ∷ codes "call(" ∷ []) ≡ None
unfolding spelling_of has_integer_form word_spelling sign_spelling kind_begun reserved_spelling
wraps_no_call = refl

wraps_no_integer : begun (wrap_text ∷ codes "7" ∷ []) ≡ None
unfolding spelling_of has_integer_form word_spelling sign_spelling kind_begun reserved_spelling
wraps_no_integer = refl

wraps_no_string : grow (plain ∷ []) (wrapping here) (spelled.Literal Text) (record { place = here; kind = Str (codes "x") }) ≡ stuck
wraps_no_string = refl

-- call( x x -- x ) and execute( -- * )
call_declared : read (codes "call(" ∷ codes "x" ∷ codes "x" ∷ codes "--" ∷ codes "x" ∷ codes ")" ∷ []) ≡ Some (Items (called Callable (codes "x" ∷ codes "x" ∷ codes "--" ∷ codes "x" ∷ codes ")" ∷ []) 2 (Some 1) ∷ []) ∷ [])
unfolding spelling_of has_integer_form word_spelling sign_spelling kind_begun reserved_spelling
call_declared = refl

execute_never_returns : read (codes "execute(" ∷ codes "--" ∷ codes "*" ∷ codes ")" ∷ []) ≡ Some (Items (called Word (codes "--" ∷ codes "*" ∷ codes ")" ∷ []) 0 None ∷ []) ∷ [])
unfolding spelling_of has_integer_form word_spelling sign_spelling kind_begun reserved_spelling
execute_never_returns = refl

-- '[ execute( -- ) _ ]
execute_in_fry : begun (codes "'[" ∷ codes "execute(" ∷ codes "--" ∷ codes ")" ∷ codes "_" ∷ codes "]" ∷ []) ≡ Some []
unfolding spelling_of has_integer_form word_spelling sign_spelling kind_begun reserved_spelling
execute_in_fry = refl

-- A call is no element and no literal: { execute( and CONSTANT: x call( and { [ call( -- ) ] }
call_no_element : begun (codes "{" ∷ codes "execute(" ∷ []) ≡ None
unfolding spelling_of has_integer_form word_spelling sign_spelling kind_begun reserved_spelling
call_no_element = refl

call_no_literal : begun (codes "CONSTANT:" ∷ codes "x" ∷ codes "call(" ∷ []) ≡ None
unfolding spelling_of has_integer_form word_spelling sign_spelling kind_begun reserved_spelling
call_no_literal = refl

call_in_quotation_of_array : begun (codes "{" ∷ codes "[" ∷ codes "call(" ∷ codes "--" ∷ codes ")" ∷ codes "]" ∷ codes "}" ∷ []) ≡ Some []
unfolding spelling_of has_integer_form word_spelling sign_spelling kind_begun reserved_spelling
call_in_quotation_of_array = refl

-- No row variable stands in the effect, at any depth, and it is the token that can't go on: call( ..x and call( -- ..x and call( -- x: ( ..x and call( x: ( ..x:
row_in_call : begun (codes "call(" ∷ codes "..x" ∷ []) ≡ None
unfolding spelling_of has_integer_form word_spelling sign_spelling kind_begun reserved_spelling
row_in_call = refl

row_left_by_call : begun (codes "call(" ∷ codes "--" ∷ codes "..x" ∷ []) ≡ None
unfolding spelling_of has_integer_form word_spelling sign_spelling kind_begun reserved_spelling
row_left_by_call = refl

row_in_output_of_call : begun (codes "call(" ∷ codes "--" ∷ codes "x:" ∷ codes "(" ∷ codes "..x" ∷ []) ≡ None
unfolding spelling_of has_integer_form word_spelling sign_spelling kind_begun reserved_spelling
row_in_output_of_call = refl

documented_row_in_call : begun (codes "call(" ∷ codes "x:" ∷ codes "(" ∷ codes "..x:" ∷ []) ≡ None
unfolding spelling_of has_integer_form word_spelling sign_spelling kind_begun reserved_spelling
documented_row_in_call = refl

before_row : begun (codes "call(" ∷ codes "x:" ∷ codes "(" ∷ []) ≡ Some []
unfolding spelling_of has_integer_form word_spelling sign_spelling kind_begun reserved_spelling
before_row = refl

-- An effect in the effect is one input, and a class with two dots is no row variable: call( x: ( x -- ) x: ..x -- )
nested_in_call :
    read (codes "call(" ∷ codes "x:" ∷ codes "(" ∷ codes "x" ∷ codes "--" ∷ codes ")" ∷ codes "x:" ∷ codes "..x" ∷ codes "--" ∷ codes ")" ∷ []) ≡
    Some (Items (called Callable (codes "x:" ∷ codes "(" ∷ codes "x" ∷ codes "--" ∷ codes ")" ∷ codes "x:" ∷ codes "..x" ∷ codes "--" ∷ codes ")" ∷ []) 2 (Some 0) ∷ []) ∷ [])
unfolding spelling_of has_integer_form word_spelling sign_spelling kind_begun reserved_spelling
nested_in_call = refl

-- The effect has 64 names, and the 65th can't go on.
name_64 : begun (codes "call(" ∷ replicate 64 (codes "x")) ≡ Some []
unfolding spelling_of has_integer_form word_spelling sign_spelling kind_begun reserved_spelling
name_64 = refl

name_65 : begun (codes "call(" ∷ replicate 65 (codes "x")) ≡ None
unfolding spelling_of has_integer_form word_spelling sign_spelling kind_begun reserved_spelling
name_65 = refl

-- Where the tokens end too early, all of them begin a tree: call( and call( x -- and \
call_ends : read (codes "call(" ∷ []) ≡ None
unfolding spelling_of has_integer_form word_spelling sign_spelling kind_begun reserved_spelling
call_ends = refl

call_begins : begun (codes "call(" ∷ []) ≡ Some []
unfolding spelling_of has_integer_form word_spelling sign_spelling kind_begun reserved_spelling
call_begins = refl

effect_ends : read (codes "call(" ∷ codes "x" ∷ codes "--" ∷ []) ≡ None
unfolding spelling_of has_integer_form word_spelling sign_spelling kind_begun reserved_spelling
effect_ends = refl

wrap_ends : read (wrap_text ∷ []) ≡ None
unfolding spelling_of has_integer_form word_spelling sign_spelling kind_begun reserved_spelling
wrap_ends = refl

wrap_begins : begun (wrap_text ∷ []) ≡ Some []
unfolding spelling_of has_integer_form word_spelling sign_spelling kind_begun reserved_spelling
wrap_begins = refl
