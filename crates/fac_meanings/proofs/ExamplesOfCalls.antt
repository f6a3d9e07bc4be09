-- Sources with words as values and calls with a declared effect, and what they resolve to.
use Rattle.std.specs.Prelude.{ℕ, suc, List, [], ◌∷◌, Option, Some, None, false, codes}
use Rattle.std.proofs.Common.{◌≡◌, refl}
use Rattle.fac_lang.specs.Phrases.{end, wrd, lit, lit_arr, quot, word, bind, local, fry, hole, call_effect, execute_effect}
use Rattle.fac_lang.specs.Primitives.{built_primitive_words}
use Rattle.fac_base.specs.Signatures.{signature, no_inputs, value, leaves}
use Rattle.fac_base.specs.declared.height.Height.{Height}
use Rattle.fac_lang.specs.declared.program.Lit.TheVariants.{Wref as l_word}
use Rattle.fac_lang.specs.declared.program.Sort.TheVariants.{Body as body, Generic as generic, Method as method}
use Rattle.fac_source.specs.declared.token.TokKind.TheVariants.{Plain as plain_text}
use Rattle.fac_source.specs.declared.token.Token.{Token}
use Rattle.fac_source.specs.declared.tree.Callee.TheVariants.{Callable, Word}
use Rattle.fac_source.specs.declared.tree.Element.TheVariants as element
use Rattle.fac_source.specs.declared.tree.Term.TheVariants as term
use Rattle.fac_vocab.specs.Scopes.{found}
use Rattle.fac_source.specs.declared.refusal.NameKind.TheVariants.{Unknown, Ambiguous}
use Rattle.fac_items.specs.Written.{Node, n_ref, n_call_effect, n_execute_effect, n_fry, n_hole, f_constant, f_defer, f_generic, f_in, f_locals, f_method, f_single, f_symbol, f_using}
use Rattle.fac_items.specs.FromElements.{nested}
use Rattle.fac_endings.specs.Words.{no_effect}
use Rattle.fac_names.specs.KnownWords.{known_classes, known_words}
use Rattle.fac_meanings.proofs.WrittenSources.{at, tk, nodes, named, run, defined, kernel_and_math, resolves, name, own, known, items, word_def, made, top, array, quotation, arrays_of, yes, no}

-- `\ n`, where the sign has this number
abbrev reference : List ℕ → ℕ → Node
reference text t = n_ref (tk text (suc t)) (at t)

abbrev height : ℕ → Option ℕ → Height
height ins outs = record { ins = ins; outs = outs }

-- USING: kernel math ; \ + execute
word_as_a_value : resolves ((kernel_and_math ∷ run (reference (codes "+") 5 ∷ named (codes "execute") 7 ∷ []) ∷ []) ∷ []) ≡ yes (top (items ((lit (wrd (known (codes "math") (codes "+"))), 5) ∷ (word (known (codes "kernel") (codes "execute")), 7) ∷ [])) ∷ [])
unfolding known_words built_primitive_words found
word_as_a_value = refl

-- USING: kernel math ; \ nosuch
refused_at_its_name : resolves ((kernel_and_math ∷ run (reference (codes "nosuch") 5 ∷ []) ∷ []) ∷ []) ≡ no 6 Unknown (codes "nosuch")
unfolding known_words built_primitive_words found
refused_at_its_name = refl

-- IN: a : go ( -- ) ; IN: b : go ( -- ) ; IN: c USING: a b ; \ go
several_found : resolves ((f_in (tk (codes "a") 2) ∷ defined (codes "go") 4 [] ∷ f_in (tk (codes "b") 10) ∷ defined (codes "go") 12 [] ∷ f_in (tk (codes "c") 18) ∷ f_using (tk (codes "a") 20 ∷ tk (codes "b") 21 ∷ []) ∷ run (reference (codes "go") 23 ∷ []) ∷ []) ∷ []) ≡
    no 24 (Ambiguous (name (codes "a") (codes "go")) (name (codes "b") (codes "go"))) (codes "go")
unfolding known_words built_primitive_words found
several_found = refl

-- A local hides no word behind `\`.
-- USING: kernel ; :: w ( dup -- ) \ dup dup ;
word_and_local : resolves ((f_using (tk (codes "kernel") 2 ∷ []) ∷ f_locals (tk (codes "w") 5) (tk (codes "dup") 7 ∷ []) no_effect (nodes (reference (codes "dup") 10 ∷ named (codes "dup") 12 ∷ [])) false false ∷ []) ∷ []) ≡
    yes (made (codes "scratchpad") (codes "w") 5 (items ((bind 0, 7) ∷ (lit (wrd (known (codes "kernel") (codes "dup"))), 10) ∷ (local 0, 12) ∷ [])) ∷ top end ∷ [])
unfolding known_words built_primitive_words found
word_and_local = refl

-- :: w ( a -- ) \ a ;
local_is_no_word : resolves ((f_locals (tk (codes "w") 2) (tk (codes "a") 4 ∷ []) no_effect (nodes (reference (codes "a") 7 ∷ [])) false false ∷ []) ∷ []) ≡ no 8 Unknown (codes "a")
unfolding known_words built_primitive_words found
local_is_no_word = refl

-- In an array `\ n` and `n` are alike.
-- SYMBOL: s DEFER: d GENERIC: g ( x -- ) SINGLETON: c { \ s d \ g \ c \ c? } : d ( -- ) ;
words_of_all_sorts : arrays_of ((f_symbol (tk (codes "s") 2) ∷ f_defer (tk (codes "d") 4) ∷ f_generic (tk (codes "g") 6) (signature None (value (codes "x") no_inputs) (leaves None [])) ∷ f_single (tk (codes "c") 12) ∷ run (array (reference (codes "s") 14 ∷ named (codes "d") 16 ∷ reference (codes "g") 17 ∷ reference (codes "c") 19 ∷ reference (codes "c?") 21 ∷ []) 13 ∷ []) ∷ defined (codes "d") 25 [] ∷ []) ∷ []) ≡
    (l_word (own 0) ∷ l_word (own 1) ∷ l_word (own 2) ∷ l_word (own 3) ∷ l_word (own 4) ∷ []) ∷ []
unfolding known_words known_classes built_primitive_words found
words_of_all_sorts = refl

-- CONSTANT: c \ c
constant_word : resolves ((f_constant (tk (codes "c") 2) (reference (codes "c") 3) ∷ []) ∷ []) ≡ yes (word_def (codes "scratchpad") (codes "c") (body (items ((lit (wrd (own 0)), 3) ∷ []))) (signature None no_inputs (leaves None (codes "value" ∷ []))) false false (at 2) ∷ top end ∷ [])
unfolding known_words built_primitive_words found
constant_word = refl

-- USING: combinators ; { } \ cond
no_reading : resolves ((f_using (tk (codes "combinators") 2 ∷ []) ∷ run (array [] 4 ∷ reference (codes "cond") 6 ∷ []) ∷ []) ∷ []) ≡ yes (top (items ((lit_arr 0, 4) ∷ (lit (wrd (known (codes "combinators") (codes "cond"))), 6) ∷ [])) ∷ [])
unfolding known_words built_primitive_words found
no_reading = refl

-- Calls with a declared effect.

-- call( x y -- z ) execute( -- * ) [ execute( -- ) ] '[ _ call( x -- ) ]
declared_effects : resolves ((run (n_call_effect (height 2 (Some 1)) (at 1) ∷ n_execute_effect (height 0 None) (at 7) ∷ quotation (n_execute_effect (height 0 (Some 0)) (at 12) ∷ []) 11 ∷ n_fry (nodes (n_hole (at 17) ∷ n_call_effect (height 1 (Some 0)) (at 18) ∷ [])) (at 16) ∷ []) ∷ []) ∷ []) ≡
    yes (top (items ((call_effect (height 2 (Some 1)), 1) ∷ (execute_effect (height 0 None), 7) ∷ (quot (items ((execute_effect (height 0 (Some 0)), 12) ∷ [])), 11) ∷ (fry (items ((hole 0, 17) ∷ (call_effect (height 1 (Some 0)), 18) ∷ [])) 1, 16) ∷ [])) ∷ [])
unfolding known_words built_primitive_words found
declared_effects = refl

-- USING: combinators ; { { [ call( -- ? ) ] [ ] } [ execute( -- ) ] } cond
called_in_cases : resolves ((f_using (tk (codes "combinators") 2 ∷ []) ∷ run (array (array (quotation (n_call_effect (height 0 (Some 1)) (at 7) ∷ []) 6 ∷ quotation [] 12 ∷ []) 5 ∷ quotation (n_execute_effect (height 0 (Some 0)) (at 16) ∷ []) 15 ∷ []) 4 ∷ named (codes "cond") 21 ∷ []) ∷ []) ∷ []) ≡
    yes (top (items ((quot (items ((call_effect (height 0 (Some 1)), 7) ∷ [])), 6) ∷ (word (known (codes "kernel") (codes "call")), 21) ∷ (quot end, 12) ∷ (quot (items ((execute_effect (height 0 (Some 0)), 16) ∷ [])), 21) ∷ (word (known (codes "kernel") (codes "if")), 21) ∷ [])) ∷ [])
unfolding known_words built_primitive_words found
called_in_cases = refl

-- USING: math ; GENERIC: g ( x -- ) M: integer g \ g execute( x -- ) ;
called_in_a_method : resolves ((f_using (tk (codes "math") 2 ∷ []) ∷ f_generic (tk (codes "g") 5) (signature None (value (codes "x") no_inputs) (leaves None [])) ∷ f_method (tk (codes "integer") 11) (tk (codes "g") 12) (nodes (reference (codes "g") 13 ∷ n_execute_effect (height 1 (Some 0)) (at 15) ∷ [])) ∷ []) ∷ []) ≡
    yes (word_def (codes "scratchpad") (codes "g") generic (signature None (value (codes "x") no_inputs) (leaves None [])) false false (at 5)
    ∷ word_def [] (codes "g") (method 0 (own 0) (items ((lit (wrd (own 0)), 13) ∷ (execute_effect (height 1 (Some 0)), 15) ∷ []))) (signature None (value (codes "x") no_inputs) (leaves None [])) false false (at 12)
    ∷ top end
    ∷ [])
unfolding known_words built_primitive_words found
called_in_a_method = refl

-- Elements, which are flat.

abbrev spelled : List ℕ → ℕ → Token
spelled text t = record { place = at t; kind = plain_text text }

-- \ dup call( x -- ) execute( -- )
calls_as_nodes : nested (element.Item (term.Wrapped (at 1) (spelled (codes "dup") 2)) ∷ element.Item (term.EffectCall Callable (at 3) (spelled (codes "x") 4 ∷ spelled (codes "--") 5 ∷ spelled (codes ")") 6 ∷ []) (height 1 (Some 0))) ∷ element.Item (term.EffectCall Word (at 7) (spelled (codes "--") 8 ∷ spelled (codes ")") 9 ∷ []) (height 0 (Some 0))) ∷ []) ≡
    nodes (reference (codes "dup") 1 ∷ n_call_effect (height 1 (Some 0)) (at 3) ∷ n_execute_effect (height 0 (Some 0)) (at 7) ∷ [])
calls_as_nodes = refl
