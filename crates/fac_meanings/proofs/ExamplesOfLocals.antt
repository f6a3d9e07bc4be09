-- Sources with locals and fries, and what they resolve to.
use Rattle.std.specs.Prelude.{ℕ, pos, suc, List, [], ◌∷◌, Some, false, codes}
use Rattle.std.proofs.Common.{◌≡◌, refl}
use Rattle.std.specs.Str.{bytes_eq}
use Rattle.fac_lang.specs.Phrases.{int, end, lit, lit_arr, quot, word, bind, local, fry, hole}
use Rattle.fac_lang.specs.Primitives.{built_primitive_words}
use Rattle.fac_lang.specs.declared.program.Lit.TheVariants.{Wref as l_word}
use Rattle.fac_source.specs.declared.token.TokKind.TheVariants.{Plain as plain_text}
use Rattle.fac_source.specs.declared.token.Token.{Token}
use Rattle.fac_source.specs.declared.tree.Bracket.TheVariants.{Quotation, Array, Fry}
use Rattle.fac_source.specs.declared.tree.Element.{Element}
use Rattle.fac_source.specs.declared.tree.Element.TheVariants as element
use Rattle.fac_source.specs.declared.tree.Term.TheVariants as term
use Rattle.fac_source.specs.FormRows.{kind_begun}
use Rattle.fac_effect.specs.Spellings.{has_integer_form, reserved_spelling, spelling_of, sign_spelling, word_spelling}
use Rattle.fac_vocab.specs.Scopes.{found}
use Rattle.fac_source.specs.declared.refusal.NameKind.TheVariants.{Unknown, Twice}
use Rattle.fac_items.specs.Written.{Tok, Node, n_locals, n_fry, n_bind, n_hole, n_at, Form, f_locals, f_using}
use Rattle.fac_items.specs.FromElements.{nested}
use Rattle.fac_endings.specs.Words.{no_effect}
use Rattle.fac_names.specs.KnownWords.{known_words}
use Rattle.fac_meanings.specs.Meanings.{Words, meanings}
use Rattle.fac_meanings.specs.Signs.{closes, filled, one, opens, value}
use Rattle.fac_names.specs.WrittenInputs.{written_inputs}
use Rattle.fac_meanings.proofs.WrittenSources.{at, tk, nodes, named, literal, run, resolves, known, items, made, top, array, quotation, arrays_of, yes, no}

-- `:> n`, where the sign has this number
abbrev bound : List ℕ → ℕ → Node
bound text t = n_bind (tk text (suc t)) false (at t)

abbrev with_locals : List Tok → List Node → ℕ → Node
with_locals ts ns t = n_locals ts (nodes ns) (at t)

abbrev fried : List Node → ℕ → Node
fried ns t = n_fry (nodes ns) (at t)

-- a definition whose inputs are locals
abbrev definition : ℕ → List Tok → List Node → Form
definition t inputs ns = f_locals (tk (codes "w") t) inputs no_effect (nodes ns) false false

-- :: w ( a b -- ) a b ;
last_input_bound_first : resolves ((definition 2 (tk (codes "a") 4 ∷ tk (codes "b") 5 ∷ []) (named (codes "a") 8 ∷ named (codes "b") 9 ∷ []) ∷ []) ∷ []) ≡ yes (made (codes "scratchpad") (codes "w") 2 (items ((bind 0, 5) ∷ (bind 1, 4) ∷ (local 1, 8) ∷ (local 0, 9) ∷ [])) ∷ top end ∷ [])
unfolding known_words built_primitive_words found
last_input_bound_first = refl

-- :: w ( a b a -- ) ;
input_repeats : resolves ((definition 2 (tk (codes "a") 4 ∷ tk (codes "b") 5 ∷ tk (codes "a") 6 ∷ []) [] ∷ []) ∷ []) ≡ no 6 Twice (codes "a")
unfolding known_words built_primitive_words found
input_repeats = refl

-- :: w ( a -- ) [ 1 :> a a ] a ;
inner_local_hides : resolves ((definition 2 (tk (codes "a") 4 ∷ []) (quotation (literal (int (pos 1)) 8 ∷ bound (codes "a") 9 ∷ named (codes "a") 11 ∷ []) 7 ∷ named (codes "a") 13 ∷ []) ∷ []) ∷ []) ≡
    yes (made (codes "scratchpad") (codes "w") 2 (items ((bind 0, 4) ∷ (quot (items ((lit (int (pos 1)), 8) ∷ (bind 1, 9) ∷ (local 1, 11) ∷ [])), 7) ∷ (local 0, 13) ∷ [])) ∷ top end ∷ [])
unfolding known_words built_primitive_words found
inner_local_hides = refl

-- [| a b | b ]
inputs_of_a_quotation : resolves ((run (with_locals (tk (codes "a") 2 ∷ tk (codes "b") 3 ∷ []) (named (codes "b") 5 ∷ []) 1 ∷ []) ∷ []) ∷ []) ≡ yes (top (items ((quot (items ((bind 0, 3) ∷ (bind 1, 2) ∷ (local 0, 5) ∷ [])), 1) ∷ [])) ∷ [])
unfolding known_words built_primitive_words found
inputs_of_a_quotation = refl

-- '[ _ [ _ ] '[ _ ] @ ]
holes_of_fries : resolves ((run (fried (n_hole (at 2) ∷ quotation (n_hole (at 4) ∷ []) 3 ∷ fried (n_hole (at 7) ∷ []) 6 ∷ n_at (at 9) ∷ []) 1 ∷ []) ∷ []) ∷ []) ≡
    yes (top (items ((fry (items ((hole 0, 2) ∷ (quot (items ((hole 1, 4) ∷ [])), 3) ∷ (fry (items ((hole 0, 7) ∷ [])) 1, 6) ∷ (hole 2, 9) ∷ (word (known (codes "kernel") (codes "call")), 9) ∷ [])) 3, 1) ∷ [])) ∷ [])
unfolding known_words built_primitive_words found
holes_of_fries = refl

-- :: w ( a -- ) { [ a ] } ;
array_sees_no_locals : resolves ((definition 2 (tk (codes "a") 4 ∷ []) (array (quotation (named (codes "a") 9 ∷ []) 8 ∷ []) 7 ∷ []) ∷ []) ∷ []) ≡ no 9 Unknown (codes "a")
unfolding known_words built_primitive_words found
array_sees_no_locals = refl

-- USING: combinators ; :: w ( a -- ) { [ a ] } cond ;
cond_sees_locals : resolves ((f_using (tk (codes "combinators") 2 ∷ []) ∷ definition 5 (tk (codes "a") 7 ∷ []) (array (quotation (named (codes "a") 12 ∷ []) 11 ∷ []) 10 ∷ named (codes "cond") 15 ∷ []) ∷ []) ∷ []) ≡
    yes (made (codes "scratchpad") (codes "w") 5 (items ((bind 0, 7) ∷ (local 0, 12) ∷ [])) ∷ top end ∷ [])
unfolding known_words built_primitive_words found
cond_sees_locals = refl

-- USING: combinators ; :: w ( -- ) { [ 1 :> b b ] } cond b ;
local_of_a_last_quotation_ends : resolves ((f_using (tk (codes "combinators") 2 ∷ []) ∷ definition 5 [] (array (quotation (literal (int (pos 1)) 11 ∷ bound (codes "b") 12 ∷ named (codes "b") 14 ∷ []) 10 ∷ []) 9 ∷ named (codes "cond") 17 ∷ named (codes "b") 18 ∷ []) ∷ []) ∷ []) ≡ no 18 Unknown (codes "b")
unfolding known_words built_primitive_words found
local_of_a_last_quotation_ends = refl

-- USING: combinators ; :: w ( cond -- ) { } cond ;
local_is_no_cond : resolves ((f_using (tk (codes "combinators") 2 ∷ []) ∷ definition 5 (tk (codes "cond") 7 ∷ []) (array [] 10 ∷ named (codes "cond") 12 ∷ []) ∷ []) ∷ []) ≡
    yes (made (codes "scratchpad") (codes "w") 5 (items ((bind 0, 7) ∷ (lit_arr 0, 10) ∷ (local 0, 12) ∷ [])) ∷ top end ∷ [])
unfolding known_words built_primitive_words found
local_is_no_cond = refl

-- USING: kernel ; :: w ( dup -- ) { dup } ;
name_in_an_array_is_a_word : arrays_of ((f_using (tk (codes "kernel") 2 ∷ []) ∷ definition 5 (tk (codes "dup") 7 ∷ []) (array (named (codes "dup") 11 ∷ []) 10 ∷ []) ∷ []) ∷ []) ≡ (l_word (known (codes "kernel") (codes "dup")) ∷ []) ∷ []
unfolding known_words built_primitive_words found
name_in_an_array_is_a_word = refl

-- Elements, which are flat.

abbrev spelled : List ℕ → ℕ → Token
spelled text t = record { place = at t; kind = plain_text text }

-- [| a | '[ _ a ] ]
fry_in_a_quotation : nested (element.OpensLocals (at 1) (spelled (codes "a") 2 ∷ []) (at 3) ∷ element.Opens Fry (at 4) ∷ element.Item (term.Hole (at 5)) ∷ element.Item (term.Name (spelled (codes "a") 6)) ∷ element.Closes Quotation (at 7) ∷ element.Closes Quotation (at 8) ∷ []) ≡
    nodes (with_locals (tk (codes "a") 2 ∷ []) (fried (n_hole (at 5) ∷ named (codes "a") 6 ∷ []) 4 ∷ []) 1 ∷ [])
fry_in_a_quotation = refl

-- where each name finds the word 7, the name `cond` finds that word, and readings name the words from 9 on
abbrev any_words : Words
any_words = record { named = λ name. 7; is_cond = λ name. bytes_eq name (codes "cond"); calling = 9; choosing = 10; failing = 11; making = 12 }

-- [| a | '[ _ a ] { a } @ ]
fry_in_a_quotation_means : meanings any_words [] 0 (nested (element.OpensLocals (at 1) (spelled (codes "a") 2 ∷ []) (at 3) ∷ element.Opens Fry (at 4) ∷ element.Item (term.Hole (at 5)) ∷ element.Item (term.Name (spelled (codes "a") 6)) ∷ element.Closes Quotation (at 7) ∷ element.Opens Array (at 8) ∷ element.Item (term.Name (spelled (codes "a") 9)) ∷ element.Closes Array (at 10) ∷ element.Item (term.CalledHole (at 11)) ∷ element.Closes Quotation (at 12) ∷ [])) ≡
    opens Quotation (Some (at 1)) ∷ one (bind 0) (at 2) ∷ opens Fry (Some (at 4)) ∷ one (hole 0) (at 5) ∷ one (local 0) (at 6) ∷ filled 1 ∷ closes Fry ∷ opens Array (Some (at 8)) ∷ value (l_word 7) ∷ closes Array ∷ one (hole 0) (at 11) ∷ one (word 9) (at 11) ∷ closes Quotation ∷ []
fry_in_a_quotation_means = refl

-- a, a local, in { { [ a ] [ b ] } { [ ] [ a ] } [ a ] } cond b
abbrev cases_written : List Element
cases_written =
    element.Opens Array (at 1) ∷ element.Opens Array (at 2) ∷ element.Opens Quotation (at 3) ∷ element.Item (term.Name (spelled (codes "a") 4)) ∷ element.Closes Quotation (at 5) ∷ element.Opens Quotation (at 6) ∷ element.Item (term.Name (spelled (codes "b") 7)) ∷ element.Closes Quotation (at 8) ∷ element.Closes Array (at 9)
    ∷ element.Opens Array (at 10) ∷ element.Opens Quotation (at 11) ∷ element.Closes Quotation (at 12) ∷ element.Opens Quotation (at 13) ∷ element.Item (term.Name (spelled (codes "a") 14)) ∷ element.Closes Quotation (at 15) ∷ element.Closes Array (at 16)
    ∷ element.Opens Quotation (at 17) ∷ element.Item (term.Name (spelled (codes "a") 18)) ∷ element.Closes Quotation (at 19) ∷ element.Closes Array (at 20) ∷ element.Item (term.Name (spelled (codes "cond") 21)) ∷ element.Item (term.Name (spelled (codes "b") 22)) ∷ []

cases_mean : meanings any_words (codes "a" ∷ []) 0 (nested cases_written) ≡
    opens Quotation (Some (at 3)) ∷ one (local 0) (at 4) ∷ closes Quotation ∷ one (word 9) (at 21) ∷ opens Quotation (Some (at 6)) ∷ one (word 7) (at 7) ∷ closes Quotation
    ∷ opens Quotation (Some (at 21)) ∷ opens Quotation (Some (at 11)) ∷ closes Quotation ∷ one (word 9) (at 21) ∷ opens Quotation (Some (at 13)) ∷ one (local 0) (at 14) ∷ closes Quotation
    ∷ opens Quotation (Some (at 21)) ∷ one (local 0) (at 18) ∷ closes Quotation ∷ one (word 10) (at 21) ∷ closes Quotation ∷ one (word 10) (at 21) ∷ one (word 7) (at 22) ∷ []
cases_mean = refl

-- { } cond
no_cases_mean : meanings any_words [] 0 (nested (element.Opens Array (at 1) ∷ element.Closes Array (at 2) ∷ element.Item (term.Name (spelled (codes "cond") 3)) ∷ [])) ≡ one (word 11) (at 3) ∷ []
no_cases_mean = refl

-- { } cond, where `cond` is a local
local_reads_no_cases : meanings any_words (codes "cond" ∷ []) 0 (nested (element.Opens Array (at 1) ∷ element.Closes Array (at 2) ∷ element.Item (term.Name (spelled (codes "cond") 3)) ∷ [])) ≡ opens Array (Some (at 1)) ∷ closes Array ∷ one (local 0) (at 3) ∷ []
local_reads_no_cases = refl

-- ( ..r x: integer q: ( y -- z ) b -- c )
inputs_where_they_stand : written_inputs (spelled (codes "(") 3 ∷ spelled (codes "..r") 4 ∷ spelled (codes "x:") 5 ∷ spelled (codes "integer") 6 ∷ spelled (codes "q:") 7 ∷ spelled (codes "(") 8 ∷ spelled (codes "y") 9 ∷ spelled (codes "--") 10 ∷ spelled (codes "z") 11 ∷ spelled (codes ")") 12 ∷ spelled (codes "b") 13 ∷ spelled (codes "--") 14 ∷ spelled (codes "c") 15 ∷ spelled (codes ")") 16 ∷ []) ≡
    tk (codes "x") 5 ∷ tk (codes "q") 7 ∷ tk (codes "b") 13 ∷ []
unfolding spelling_of has_integer_form word_spelling sign_spelling kind_begun reserved_spelling
inputs_where_they_stand = refl
