-- Closed forms of small programs with locals and fries.
use Rattle.std.proofs.Common.{◌≡◌, ℕ, List, [], ◌∷◌, false, None, refl}
use Rattle.std.specs.Prelude.{codes}
use Rattle.fac_lang.specs.declared.phrase.Template.{Template}
use Rattle.fac_lang.specs.declared.program.Program.{Program}
use Rattle.fac_lang.specs.declared.program.WordDef.{WordDef}
use Rattle.fac_lang.specs.declared.program.Lit.{Lit}
use Rattle.fac_lang.specs.declared.program.Lit.TheVariants.{Quot as l_quot, Made as l_made}
use Rattle.fac_lang.specs.declared.program.Sort.TheVariants.{Body as body, Method as method}
use Rattle.fac_base.specs.Signatures.{signature, no_inputs, leaves}
use Rattle.fac_lang.specs.Phrases.{Item, lit_arr, quot, word, bind, local, fry, hole, next_method, made, next_after}
use Rattle.fac_lang.specs.Meaning.{nowhere}
use Rattle.fac_lang.specs.PhraseView.{choices_from}
use Rattle.fac_lang.proofs.DemoWords.{phrase, number, quotation}
use Rattle.fac_lang.proofs.DemoPrelude.{word_of}
use Rattle.fac_locals.specs.declared.cell.Cell.{Cell}
use Rattle.fac_locals.specs.declared.cell.Cell.TheVariants.{Local}
use Rattle.fac_locals.specs.Literals.{Quoted, literals}
use Rattle.fac_locals.proofs.ClosedForms.{made_words, made_templates, made_arrays}

-- a program of one word with this phrase
abbrev written : List Item → List WordDef
written is = word_of (codes "scratchpad") (codes "w") (body (phrase is)) (signature None no_inputs (leaves None [])) false false ∷ []

abbrev of_phrase : List Item → Program
of_phrase is = record { words = written is; arrays = []; classes = []; top = 0 }

abbrev template : List Item → List ℕ → ℕ → Template
template is captures holes = record { body = phrase is; captures = captures; holes = holes; place = nowhere }

abbrev literal : ℕ → List Cell → Item → Quoted
literal index cells i = record { at = record { word = 0; around = []; index = index }; cells = cells; item = i }

abbrev slot : ℕ → List ℕ
slot k = k ∷ []

-- :> a :> b :> c [ 1 [ c a ] ]   where a, b and c are locals 5, 6 and 7
abbrev nested : List Item
nested = bind 5 ∷ bind 6 ∷ bind 7 ∷ quotation (number 1 ∷ quotation (local 7 ∷ local 5 ∷ []) ∷ []) ∷ []

-- a quotation stands under the cells of what it is in: the outer one under three, the inner one under the two that the outer one keeps
pub nested_literals_are : literals (of_phrase nested) ≡ literal 3 (Local 5 ∷ Local 6 ∷ Local 7 ∷ []) (quotation (number 1 ∷ quotation (local 7 ∷ local 5 ∷ []) ∷ [])) ∷ literal 5 (Local 5 ∷ Local 7 ∷ []) (quotation (local 7 ∷ local 5 ∷ [])) ∷ []
nested_literals_are = refl

pub nested_closed_is : made_words (written nested) [] ≡ written (bind 0 ∷ bind 1 ∷ bind 2 ∷ made 0 ∷ [])
nested_closed_is = refl

-- A local that an inner quotation asks for goes through the outer one, in the order of the cells.
pub nested_templates_are : made_templates (written nested) [] ≡ template (number 1 ∷ made 1 ∷ []) (0 ∷ 2 ∷ []) 0 ∷ template (local 1 ∷ local 0 ∷ []) (0 ∷ 1 ∷ []) 0 ∷ []
nested_templates_are = refl

-- :> a :> b '[ _ b _ [ _ a ] ]   where a and b are locals 0 and 1
abbrev with_fry : List Item
with_fry = bind 0 ∷ bind 1 ∷ fry (phrase (hole 0 ∷ local 1 ∷ hole 1 ∷ quotation (hole 2 ∷ local 0 ∷ []) ∷ [])) 3 ∷ []

-- Captures come first, and then the holes. A quotation in a fry keeps holes as it keeps locals.
pub fry_templates_are : made_templates (written with_fry) [] ≡ template (local 2 ∷ local 1 ∷ local 3 ∷ made 1 ∷ []) (0 ∷ 1 ∷ []) 3 ∷ template (local 1 ∷ local 0 ∷ []) (0 ∷ 4 ∷ []) 0 ∷ []
fry_templates_are = refl

-- '[ _ '[ _ ] ]: holes of a nested fry are its own
pub fry_in_fry_is : made_templates (written (fry (phrase (hole 0 ∷ fry (phrase (hole 0 ∷ [])) 1 ∷ [])) 1 ∷ [])) [] ≡ template (local 0 ∷ made 1 ∷ []) [] 1 ∷ template (local 0 ∷ []) [] 1 ∷ []
fry_in_fry_is = refl

-- :> a '[ a _ :> b b a ]: a local that is bound in a fry comes behind what it keeps and its holes
abbrev bound_in_fry : List Item
bound_in_fry = bind 0 ∷ fry (phrase (local 0 ∷ hole 0 ∷ bind 1 ∷ local 1 ∷ local 0 ∷ [])) 1 ∷ []

pub bound_in_fry_is : made_templates (written bound_in_fry) [] ≡ template (local 0 ∷ local 1 ∷ bind 2 ∷ local 2 ∷ local 0 ∷ []) (slot 0) 1 ∷ []
bound_in_fry_is = refl

-- :> a :> a a [ a ] [ :> a a ]: an inner local hides an outer one, which isn't kept then
abbrev hiding : List Item
hiding = bind 0 ∷ bind 0 ∷ local 0 ∷ quotation (local 0 ∷ []) ∷ quotation (bind 0 ∷ local 0 ∷ []) ∷ []

pub hiding_closed_is : made_words (written hiding) [] ≡ written (bind 0 ∷ bind 1 ∷ local 1 ∷ made 0 ∷ made 1 ∷ [])
hiding_closed_is = refl

pub hiding_templates_are : made_templates (written hiding) [] ≡ template (local 0 ∷ []) (slot 1) 0 ∷ template (bind 0 ∷ local 0 ∷ []) [] 0 ∷ []
hiding_templates_are = refl

-- Choices inside one another.

-- :> a [ 1 [ a [ 2 ] w ] w ] as choices, where w is word 5
abbrev choosing : List Item
choosing = bind 0 ∷ quot (choices_from 5 nowhere (phrase (number 1 ∷ []) ∷ phrase (local 0 ∷ []) ∷ phrase (number 2 ∷ []) ∷ [])) ∷ []

-- Each choice is a quotation with a number of its own, and what an inner one asks for goes through the outer ones.
pub choosing_templates_are : made_templates (written choosing) [] ≡ template (number 1 ∷ made 1 ∷ word 5 ∷ []) (slot 0) 0 ∷ template (local 0 ∷ made 2 ∷ word 5 ∷ []) (slot 0) 0 ∷ template (number 2 ∷ []) [] 0 ∷ []
choosing_templates_are = refl

-- Literal arrays and methods.

-- :> a { [ :> b b ] } [ a ]: no cell of around is there in an array's quotation
abbrev beside_array : List Item
beside_array = bind 0 ∷ lit_arr 0 ∷ quotation (local 0 ∷ []) ∷ []

abbrev its_array : List (List Lit)
its_array = (l_quot (phrase (bind 1 ∷ local 1 ∷ [])) ∷ []) ∷ []

pub array_closed_is : made_arrays (written beside_array) its_array ≡ (l_made 0 ∷ []) ∷ []
array_closed_is = refl

pub array_templates_are : made_templates (written beside_array) its_array ≡ template (bind 0 ∷ local 0 ∷ []) [] 0 ∷ template (local 0 ∷ []) (slot 0) 0 ∷ []
array_templates_are = refl

-- a method   :> a '[ _ a call-next-method ]
abbrev meant : List Item → List WordDef
meant is = word_of (codes "scratchpad") (codes "m") (method 0 0 (phrase is)) (signature None no_inputs (leaves None [])) false false ∷ []

pub method_templates_are : made_templates (meant (bind 0 ∷ fry (phrase (hole 0 ∷ local 0 ∷ next_method ∷ [])) 1 ∷ [])) [] ≡ template (local 1 ∷ local 0 ∷ next_after 0 ∷ []) (slot 0) 1 ∷ []
method_templates_are = refl
