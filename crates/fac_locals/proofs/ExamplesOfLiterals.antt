-- The literals of a small program, and its closed form.
use Rattle.std.proofs.Common.{◌≡◌, ℕ, pos, List, [], ◌∷◌, ◌++◌, false, None, refl}
use Rattle.std.specs.Prelude.{map, codes}
use Rattle.fac_base.specs.declared.place.Place.{Place}
use Rattle.fac_lang.specs.declared.phrase.Template.{Template}
use Rattle.fac_lang.specs.declared.program.Lit.{Lit}
use Rattle.fac_lang.specs.declared.program.Lit.TheVariants.{Int as l_int, Arr as l_arr, Quot as l_quot, Made as l_made}
use Rattle.fac_lang.specs.declared.program.Program.{Program}
use Rattle.fac_lang.specs.declared.program.WordDef.{WordDef}
use Rattle.fac_lang.specs.declared.program.Sort.TheVariants.{Body as body, Past as past, Method as method}
use Rattle.fac_base.specs.Signatures.{signature, no_inputs, leaves}
use Rattle.fac_lang.specs.Phrases.{Phrase, end, then, Item, lit_arr, quot, word, next_method, made, next_after}
use Rattle.fac_lang.specs.Meaning.{nowhere}
use Rattle.fac_lang.proofs.DemoWords.{phrase, number, quotation}
use Rattle.fac_lang.proofs.DemoPrelude.{word_of}
use Rattle.fac_locals.specs.Literals.{Quoted, literals, literal_places, literal_numbered}
use Rattle.fac_locals.specs.inner.Numbering.{template_of}
use Rattle.fac_locals.proofs.ClosedForms.{made_words, made_templates, made_arrays}

-- a word with this phrase
abbrev written : List Item → WordDef
written is = word_of (codes "scratchpad") (codes "w") (body (phrase is)) (signature None no_inputs (leaves None [])) false false

-- : w ( -- ) 1 [ 2 [ 3 ] 4 ] [ ] ;   and at the top   [ [ w ] w ] 5
abbrev words : List WordDef
words = written (number 1 ∷ quotation (number 2 ∷ quotation (number 3 ∷ []) ∷ number 4 ∷ []) ∷ quotation [] ∷ []) ∷ written (quotation (quotation (word 0 ∷ []) ∷ word 0 ∷ []) ∷ number 5 ∷ []) ∷ []

abbrev program : Program
program = record { words = words; arrays = []; classes = []; top = 1 }

-- the quotation of a word with so many items before it, and its phrase
abbrev literal : ℕ → ℕ → List Item → Quoted
literal w index is = record { at = record { word = w; around = []; index = index }; cells = []; item = quotation is }

-- word by word, each as it is read, an outer quotation before those in it
pub literals_are :
    literals program ≡ literal 0 1 (number 2 ∷ quotation (number 3 ∷ []) ∷ number 4 ∷ []) ∷ literal 0 3 (number 3 ∷ []) ∷ literal 0 6 [] ∷ literal 1 0 (quotation (word 0 ∷ []) ∷ word 0 ∷ []) ∷ literal 1 1 (word 0 ∷ []) ∷ []
literals_are = refl

-- behind the last there is a literal without items, of a word that isn't there
pub none_behind : literal_numbered program 7 ≡ literal 2 7 []
none_behind = refl

-- each quotation stands as its number
pub closed_are : made_words words [] ≡ written (number 1 ∷ made 0 ∷ made 2 ∷ []) ∷ written (made 3 ∷ number 5 ∷ []) ∷ []
closed_are = refl

abbrev template : List Item → Template
template is = template_of [] nowhere (quotation is) (phrase is)

-- also in the templates
pub templates_are : made_templates words [] ≡ template (number 2 ∷ made 1 ∷ number 4 ∷ []) ∷ template (number 3 ∷ []) ∷ template [] ∷ template (made 4 ∷ word 0 ∷ []) ∷ template (word 0 ∷ []) ∷ []
templates_are = refl

-- The phrase as an earlier one, and another behind it. What there was has the number that it had.
abbrev earlier : List Item → WordDef
earlier is = word_of (codes "scratchpad") (codes "w") (past (phrase is)) (signature None no_inputs (leaves None [])) false false

abbrev later : List WordDef
later = written (number 1 ∷ quotation (number 2 ∷ quotation (number 3 ∷ []) ∷ number 4 ∷ []) ∷ quotation [] ∷ []) ∷ earlier (quotation (quotation (word 0 ∷ []) ∷ word 0 ∷ []) ∷ number 5 ∷ []) ∷ written (quotation (number 6 ∷ []) ∷ []) ∷ []

pub later_literals_are : literals (record { words = later; arrays = []; classes = []; top = 2 }) ≡ literals program ++ literal 2 0 (number 6 ∷ []) ∷ []
later_literals_are = refl

pub later_closed_are : made_words later [] ≡ written (number 1 ∷ made 0 ∷ made 2 ∷ []) ∷ earlier (made 3 ∷ number 5 ∷ []) ∷ written (made 5 ∷ []) ∷ []
later_closed_are = refl

pub later_templates_are : made_templates later [] ≡ made_templates words [] ++ template (number 6 ∷ []) ∷ []
later_templates_are = refl

abbrev token : ℕ → Place
token n = record { file = 1; token = n }

-- a word with this phrase
abbrev holding : Phrase → WordDef
holding t = word_of (codes "scratchpad") (codes "w") (body t) (signature None no_inputs (leaves None [])) false false

-- From token 5 on   : w ( -- ) [ 5 [ ] ] [ ] ;   and at the top, from token 18 on,   5 [ ]
abbrev placed : List WordDef
placed = holding (then (quot (then (number 5) (token 11) (then (quot end) (token 12) end))) (token 10) (then (quot end) (token 15) end)) ∷ holding (then (number 5) (token 18) (then (quot end) (token 19) end)) ∷ []

-- a quotation is at its `[`, an outer one before those in it
pub places_are : literal_places (record { words = placed; arrays = []; classes = []; top = 1 }) ≡ token 10 ∷ token 12 ∷ token 15 ∷ token 19 ∷ []
places_are = refl

-- its template is there too
pub placed_are : map (λ (t : Template). t.place) (made_templates placed []) ≡ token 10 ∷ token 12 ∷ token 15 ∷ token 19 ∷ []
placed_are = refl

-- Literal arrays.

-- an integer and a quotation as elements of an array
abbrev integer : ℕ → Lit
integer n = l_int (pos n)

abbrev block : List Item → Lit
block is = l_quot (phrase is)

-- : v ( -- ) 1 { 2 [ 3 { 4 [ 5 ] } ] { [ 6 ] 7 } [ 8 ] } [ 9 ] ;   and at the top   [ { [ ] } ]
abbrev with_arrays : List WordDef
with_arrays = written (number 1 ∷ lit_arr 2 ∷ quotation (number 9 ∷ []) ∷ []) ∷ written (quotation (lit_arr 3 ∷ []) ∷ []) ∷ []

-- an inner array before the one around it
abbrev four_arrays : List (List Lit)
four_arrays = (integer 4 ∷ block (number 5 ∷ []) ∷ []) ∷ (block (number 6 ∷ []) ∷ integer 7 ∷ []) ∷ (integer 2 ∷ block (number 3 ∷ lit_arr 0 ∷ []) ∷ l_arr 1 ∷ block (number 8 ∷ []) ∷ []) ∷ (block [] ∷ []) ∷ []

abbrev array_program : Program
array_program = record { words = with_arrays; arrays = four_arrays; classes = []; top = 1 }

-- the quotation of a word in these arrays with so many items before it, and its phrase
abbrev in_arrays : ℕ → List ℕ → ℕ → List Item → Quoted
in_arrays w around index is = record { at = record { word = w; around = around; index = index }; cells = []; item = quotation is }

-- Those of an array come where the array stands: also those of an array in a quotation in an array, and of an array in an array.
pub array_literals_are :
    literals array_program
    ≡ in_arrays 0 (1 ∷ []) 1 (number 3 ∷ lit_arr 0 ∷ []) ∷ in_arrays 0 (1 ∷ 3 ∷ []) 1 (number 5 ∷ []) ∷ in_arrays 0 (1 ∷ 4 ∷ []) 0 (number 6 ∷ []) ∷ in_arrays 0 (1 ∷ []) 5 (number 8 ∷ []) ∷ literal 0 2 (number 9 ∷ []) ∷ literal 1 0 (lit_arr 3 ∷ []) ∷ in_arrays 1 (1 ∷ []) 0 [] ∷ []
array_literals_are = refl

-- a phrase keeps its arrays, which stand closed by their numbers
pub arrays_closed_are : made_words with_arrays four_arrays ≡ written (number 1 ∷ lit_arr 2 ∷ made 4 ∷ []) ∷ written (made 5 ∷ []) ∷ []
arrays_closed_are = refl

pub closed_arrays_are : made_arrays with_arrays four_arrays ≡ (integer 4 ∷ l_made 1 ∷ []) ∷ (l_made 2 ∷ integer 7 ∷ []) ∷ (integer 2 ∷ l_made 0 ∷ l_arr 1 ∷ l_made 3 ∷ []) ∷ (l_made 6 ∷ []) ∷ []
closed_arrays_are = refl

pub array_templates_are : made_templates with_arrays four_arrays ≡ template (number 3 ∷ lit_arr 0 ∷ []) ∷ template (number 5 ∷ []) ∷ template (number 6 ∷ []) ∷ template (number 8 ∷ []) ∷ template (number 9 ∷ []) ∷ template (lit_arr 3 ∷ []) ∷ template [] ∷ []
array_templates_are = refl

-- At the top, from token 18 on   5 { [ 6 [ ] ] 7 [ ] } [ ]
abbrev placed_array : List WordDef
placed_array = holding (then (number 5) (token 18) (then (lit_arr 0) (token 19) (then (quot end) (token 30) end))) ∷ []

abbrev elements : List (List Lit)
elements = (l_quot (then (number 6) (token 21) (then (quot end) (token 22) end)) ∷ integer 7 ∷ l_quot end ∷ []) ∷ []

-- a quotation that is an element is at the `{` of its array, and one in it at its own `[`
pub array_places_are : literal_places (record { words = placed_array; arrays = elements; classes = []; top = 0 }) ≡ token 19 ∷ token 22 ∷ token 19 ∷ token 30 ∷ []
array_places_are = refl

pub array_placed_are : map (λ (t : Template). t.place) (made_templates placed_array elements) ≡ token 19 ∷ token 22 ∷ token 19 ∷ token 30 ∷ []
array_placed_are = refl

-- Methods.

-- a method with this phrase
abbrev meant : List Item → WordDef
meant is = word_of (codes "scratchpad") (codes "m") (method 0 0 (phrase is)) (signature None no_inputs (leaves None [])) false false

-- a word   [ 3 ] ;   and a method   call-next-method [ 2 call-next-method ] { [ call-next-method ] } ;
abbrev with_method : List WordDef
with_method = written (quotation (number 3 ∷ []) ∷ []) ∷ meant (next_method ∷ quotation (number 2 ∷ next_method ∷ []) ∷ lit_arr 0 ∷ []) ∷ []

abbrev its_array : List (List Lit)
its_array = (block (next_method ∷ []) ∷ []) ∷ []

-- A next method is next after the method in whose phrase it stands, also in its quotations and in those of its arrays.
pub method_closed_is : made_words with_method its_array ≡ written (made 0 ∷ []) ∷ meant (next_after 1 ∷ made 1 ∷ lit_arr 0 ∷ []) ∷ []
method_closed_is = refl

pub method_templates_are : made_templates with_method its_array ≡ template (number 3 ∷ []) ∷ template (number 2 ∷ next_after 1 ∷ []) ∷ template (next_after 1 ∷ []) ∷ []
method_templates_are = refl
