-- Sources, and what they resolve to.
use Rattle.std.specs.Prelude.{ℕ, pos, negsuc, List, [], ◌∷◌, None, false, codes}
use Rattle.std.proofs.Common.{◌≡◌, refl}
use Rattle.fac_lang.specs.Phrases.{int, str, yes as yes_value, no as no_value, end, lit, lit_arr, word}
use Rattle.fac_lang.specs.Primitives.{built_primitive_words}
use Rattle.fac_base.specs.Signatures.{signature, no_inputs, leaves}
use Rattle.fac_lang.specs.declared.program.Lit.TheVariants.{Int as l_int, True as l_yes, Str as l_str, Arr as l_arr, Wref as l_word, Quot as l_quot}
use Rattle.fac_lang.specs.declared.program.Sort.TheVariants.{Body as body}
use Rattle.fac_source.specs.declared.token.Token.{Token}
use Rattle.fac_source.specs.declared.tree.Bracket.TheVariants.{Quotation, Array}
use Rattle.fac_source.specs.declared.tree.Element.TheVariants as element
use Rattle.fac_source.specs.declared.tree.Literal.TheVariants.{True, False}
use Rattle.fac_source.specs.declared.tree.Term.TheVariants as term
use Rattle.fac_effect.specs.Spellings.{plain_token}
use Rattle.fac_vocab.specs.Scopes.{found}
use Rattle.fac_source.specs.declared.refusal.NameKind.TheVariants.{Unknown, Ambiguous, Twice, NoVocab, Undefined}
use Rattle.fac_items.specs.Written.{given, Form, f_constant, f_in, f_use, f_using, f_from, f_qualified, f_private, f_public, f_defer, f_symbol, f_main, f_define}
use Rattle.fac_items.specs.FromElements.{nested}
use Rattle.fac_endings.specs.Words.{no_effect}
use Rattle.fac_names.specs.KnownWords.{known_words}
use Rattle.fac_meanings.proofs.WrittenSources.{at, tk, nodes, nodes, named, literal, run, defined, kernel_and_math, resolves, name, own, known, items, items, word_def, made, top, array, quotation, arrays_of, yes, no}

-- IN: a : go ( -- ) ; IN: b : go ( -- ) ; IN: c USING: a b ; go
two_go : resolves ((f_in (tk (codes "a") 2) ∷ defined (codes "go") 4 [] ∷ f_in (tk (codes "b") 10) ∷ defined (codes "go") 12 [] ∷ f_in (tk (codes "c") 18) ∷ (f_using ((tk (codes "a") 20) ∷ (tk (codes "b") 21) ∷ [])) ∷ run (named (codes "go") 23 ∷ []) ∷ []) ∷ []) ≡ no 23 (Ambiguous (name (codes "a") (codes "go")) (name (codes "b") (codes "go"))) (codes "go")
unfolding known_words built_primitive_words found
two_go = refl

-- IN: a : go ( -- ) ; IN: b : go ( -- ) ; IN: c USING: a b ; FROM: b => go ; go
go_from_b : resolves ((f_in (tk (codes "a") 2) ∷ defined (codes "go") 4 [] ∷ f_in (tk (codes "b") 10) ∷ defined (codes "go") 12 [] ∷ f_in (tk (codes "c") 18) ∷ (f_using ((tk (codes "a") 20) ∷ (tk (codes "b") 21) ∷ [])) ∷ (f_from (tk (codes "b") 24) ((tk (codes "go") 26) ∷ [])) ∷ run (named (codes "go") 28 ∷ []) ∷ []) ∷ []) ≡ yes (made (codes "a") (codes "go") 4 end ∷ made (codes "b") (codes "go") 12 end ∷ top (items ((word (own 1), 28) ∷ [])) ∷ [])
unfolding known_words built_primitive_words found
go_from_b = refl

-- USING: kernel math sequences arrays io prettyprint combinators accessors math.parser ; : spin ( -- ) "x" write spin ; spin
spin_names_itself : resolves (((f_using ((tk (codes "kernel") 2) ∷ (tk (codes "math") 3) ∷ (tk (codes "sequences") 4) ∷ (tk (codes "arrays") 5) ∷ (tk (codes "io") 6) ∷ (tk (codes "prettyprint") 7) ∷ (tk (codes "combinators") 8) ∷ (tk (codes "accessors") 9) ∷ (tk (codes "math.parser") 10) ∷ [])) ∷ (f_define (tk (codes "spin") 13) (given no_effect) (nodes (literal (str (codes "x")) 17 ∷ named (codes "write") 18 ∷ named (codes "spin") 19 ∷ [])) false false) ∷ run (named (codes "spin") 21 ∷ []) ∷ []) ∷ []) ≡ yes (word_def (codes "scratchpad") (codes "spin") (body (items ((lit (str (codes "x")), 17) ∷ (word (known (codes "io") (codes "write")), 18) ∷ (word (own 0), 19) ∷ []))) no_effect false false (at 13) ∷ top (items ((word (own 0), 21) ∷ [])) ∷ [])
unfolding known_words built_primitive_words found
spin_names_itself = refl

-- 1,000 0xff 0b101 -0o17
integer_forms : resolves ((run (literal (int (pos 1000)) 1 ∷ []) ∷ run (literal (int (pos 255)) 2 ∷ []) ∷ run (literal (int (pos 5)) 3 ∷ []) ∷ run (literal (int (negsuc 14)) 4 ∷ []) ∷ []) ∷ []) ≡ yes (top (items ((lit (int (pos 1000)), 1) ∷ (lit (int (pos 255)), 2) ∷ (lit (int (pos 5)), 3) ∷ (lit (int (negsuc 14)), 4) ∷ [])) ∷ [])
unfolding known_words built_primitive_words found
integer_forms = refl

-- QUALIFIED-WITH: math m DEFER: w : w ( -- x ) 1 2 m:+ ; w
deferred_and_qualified : resolves (((f_qualified (tk (codes "math") 2) (tk (codes "m") 3)) ∷ f_defer (tk (codes "w") 5) ∷ (f_define (tk (codes "w") 7) (given (signature None no_inputs (leaves None ((codes "x") ∷ [])))) (nodes (literal (int (pos 1)) 12 ∷ literal (int (pos 2)) 13 ∷ named (codes "m:+") 14 ∷ [])) false false) ∷ run (named (codes "w") 16 ∷ []) ∷ []) ∷ []) ≡ yes (word_def (codes "scratchpad") (codes "w") (body (items ((lit (int (pos 1)), 12) ∷ (lit (int (pos 2)), 13) ∷ (word (known (codes "math") (codes "+")), 14) ∷ []))) (signature None no_inputs (leaves None ((codes "x") ∷ []))) false false (at 7) ∷ top (items ((word (own 0), 16) ∷ [])) ∷ [])
unfolding known_words built_primitive_words found
deferred_and_qualified = refl

-- USING: kernel math prettyprint locals fry ; 1 .
empty_vocabularies_used : resolves (((f_using ((tk (codes "kernel") 2) ∷ (tk (codes "math") 3) ∷ (tk (codes "prettyprint") 4) ∷ (tk (codes "locals") 5) ∷ (tk (codes "fry") 6) ∷ [])) ∷ run (literal (int (pos 1)) 8 ∷ []) ∷ run (named (codes ".") 9 ∷ []) ∷ []) ∷ []) ≡ yes (top (items ((lit (int (pos 1)), 8) ∷ (word (known (codes "prettyprint") (codes ".")), 9) ∷ [])) ∷ [])
unfolding known_words built_primitive_words found
empty_vocabularies_used = refl

-- USING: kernel math ; nosuch
unknown_item : resolves ((kernel_and_math ∷ run (named (codes "nosuch") 5 ∷ []) ∷ []) ∷ []) ≡ no 5 Unknown (codes "nosuch")
unfolding known_words built_primitive_words found
unknown_item = refl

-- USING: kernel math ; : w ( -- ) nosuch ;
unknown_text : resolves ((kernel_and_math ∷ (f_define (tk (codes "w") 6) (given no_effect) (nodes (named (codes "nosuch") 10 ∷ [])) false false) ∷ []) ∷ []) ≡ no 10 Unknown (codes "nosuch")
unfolding known_words built_primitive_words found
unknown_text = refl

-- USING: kernel math ; MAIN: nosuch
unknown_main : resolves ((kernel_and_math ∷ f_main (tk (codes "nosuch") 6) ∷ []) ∷ []) ≡ no 6 Unknown (codes "nosuch")
unfolding known_words built_primitive_words found
unknown_main = refl

-- USING: kernel math ; FROM: math => + nosuch ;
unknown_from : resolves ((kernel_and_math ∷ (f_from (tk (codes "math") 6) ((tk (codes "+") 8) ∷ (tk (codes "nosuch") 9) ∷ [])) ∷ []) ∷ []) ≡ no 9 Unknown (codes "nosuch")
unfolding known_words built_primitive_words found
unknown_from = refl

-- USING: kernel math ; USE: kernel w : w ( -- ) ;
unknown_later : resolves ((kernel_and_math ∷ f_use (tk (codes "kernel") 6) ∷ run (named (codes "w") 7 ∷ []) ∷ defined (codes "w") 9 [] ∷ []) ∷ []) ≡ no 7 Unknown (codes "w")
unfolding known_words built_primitive_words found
unknown_later = refl

-- USING: kernel math ; IN: q <PRIVATE : h ( -- ) ; PRIVATE> IN: r USE: q h
unknown_companion : resolves ((kernel_and_math ∷ f_in (tk (codes "q") 6) ∷ f_private ∷ defined (codes "h") 9 [] ∷ f_public ∷ f_in (tk (codes "r") 16) ∷ f_use (tk (codes "q") 18) ∷ run (named (codes "h") 19 ∷ []) ∷ []) ∷ []) ≡ no 19 Unknown (codes "h")
unfolding known_words built_primitive_words found
unknown_companion = refl

-- USING: kernel math ; IN: a : go ( -- ) ; IN: a.b : go ( -- ) ; IN: c USING: a a.b ; go
ambiguous_bytes : resolves ((kernel_and_math ∷ f_in (tk (codes "a") 6) ∷ defined (codes "go") 8 [] ∷ f_in (tk (codes "a.b") 14) ∷ defined (codes "go") 16 [] ∷ f_in (tk (codes "c") 22) ∷ (f_using ((tk (codes "a") 24) ∷ (tk (codes "a.b") 25) ∷ [])) ∷ run (named (codes "go") 27 ∷ []) ∷ []) ∷ []) ≡ no 27 (Ambiguous (name (codes "a.b") (codes "go")) (name (codes "a") (codes "go"))) (codes "go")
unfolding known_words built_primitive_words found
ambiguous_bytes = refl

-- USING: kernel math ; IN: a : go ( -- ) ; IN: b IN: c USING: a b ; : x ( -- ) go ; IN: b : go ( -- ) ; IN: c go
ambiguous_later : resolves ((kernel_and_math ∷ f_in (tk (codes "a") 6) ∷ defined (codes "go") 8 [] ∷ f_in (tk (codes "b") 14) ∷ f_in (tk (codes "c") 16) ∷ (f_using ((tk (codes "a") 18) ∷ (tk (codes "b") 19) ∷ [])) ∷ (f_define (tk (codes "x") 22) (given no_effect) (nodes (named (codes "go") 26 ∷ [])) false false) ∷ f_in (tk (codes "b") 29) ∷ defined (codes "go") 31 [] ∷ f_in (tk (codes "c") 37) ∷ run (named (codes "go") 38 ∷ []) ∷ []) ∷ []) ≡ no 38 (Ambiguous (name (codes "a") (codes "go")) (name (codes "b") (codes "go"))) (codes "go")
unfolding known_words built_primitive_words found
ambiguous_later = refl

-- USING: kernel math ; IN: a : dup ( -- ) ; IN: b USING: a kernel ; dup
ambiguous_dup : resolves ((kernel_and_math ∷ f_in (tk (codes "a") 6) ∷ defined (codes "dup") 8 [] ∷ f_in (tk (codes "b") 14) ∷ (f_using ((tk (codes "a") 16) ∷ (tk (codes "kernel") 17) ∷ [])) ∷ run (named (codes "dup") 19 ∷ []) ∷ []) ∷ []) ≡ no 19 (Ambiguous (name (codes "a") (codes "dup")) (name (codes "kernel") (codes "dup"))) (codes "dup")
unfolding known_words built_primitive_words found
ambiguous_dup = refl

-- USING: kernel math ; : w ( -- ) ; : w ( -- ) ;
twice_word : resolves ((kernel_and_math ∷ defined (codes "w") 6 [] ∷ defined (codes "w") 12 [] ∷ []) ∷ []) ≡ no 12 Twice (codes "w")
unfolding known_words built_primitive_words found
twice_word = refl

-- USING: kernel math ; DEFER: w DEFER: w : w ( -- ) ;
twice_defer : resolves ((kernel_and_math ∷ f_defer (tk (codes "w") 6) ∷ f_defer (tk (codes "w") 8) ∷ defined (codes "w") 10 [] ∷ []) ∷ []) ≡ no 8 Twice (codes "w")
unfolding known_words built_primitive_words found
twice_defer = refl

-- USING: kernel math ; : w ( -- ) ; DEFER: w
twice_defined : resolves ((kernel_and_math ∷ defined (codes "w") 6 [] ∷ f_defer (tk (codes "w") 12) ∷ []) ∷ []) ≡ no 12 Twice (codes "w")
unfolding known_words built_primitive_words found
twice_defined = refl

-- USING: kernel math ; DEFER: w : w ( -- ) ; SYMBOL: w
twice_after_defer : resolves ((kernel_and_math ∷ f_defer (tk (codes "w") 6) ∷ defined (codes "w") 8 [] ∷ f_symbol (tk (codes "w") 14) ∷ []) ∷ []) ≡ no 14 Twice (codes "w")
unfolding known_words built_primitive_words found
twice_after_defer = refl

-- USING: kernel math ; IN: q : h ( -- ) ; <PRIVATE : h ( -- ) ;
twice_companion : resolves ((kernel_and_math ∷ f_in (tk (codes "q") 6) ∷ defined (codes "h") 8 [] ∷ f_private ∷ defined (codes "h") 15 [] ∷ []) ∷ []) ≡ no 15 Twice (codes "h")
unfolding known_words built_primitive_words found
twice_companion = refl

-- USING: kernel math ; IN: q <PRIVATE : h ( -- ) ; PRIVATE> : h ( -- ) ;
twice_companion_back : resolves ((kernel_and_math ∷ f_in (tk (codes "q") 6) ∷ f_private ∷ defined (codes "h") 9 [] ∷ f_public ∷ defined (codes "h") 16 [] ∷ []) ∷ []) ≡ no 16 Twice (codes "h")
unfolding known_words built_primitive_words found
twice_companion_back = refl

-- USING: kernel math ; IN: q : h ( -- ) ; IN: q.private : h ( -- ) ;
twice_private_entered : resolves ((kernel_and_math ∷ f_in (tk (codes "q") 6) ∷ defined (codes "h") 8 [] ∷ f_in (tk (codes "q.private") 14) ∷ defined (codes "h") 16 [] ∷ []) ∷ []) ≡ no 16 Twice (codes "h")
unfolding known_words built_primitive_words found
twice_private_entered = refl

-- USING: kernel math ; IN: q : h ( -- ) ; IN: q.private <PRIVATE : h ( -- ) ;
not_twice_far : resolves ((kernel_and_math ∷ f_in (tk (codes "q") 6) ∷ defined (codes "h") 8 [] ∷ f_in (tk (codes "q.private") 14) ∷ f_private ∷ defined (codes "h") 17 [] ∷ []) ∷ []) ≡ yes (made (codes "q") (codes "h") 8 end ∷ made (codes "q.private.private") (codes "h") 17 end ∷ top end ∷ [])
unfolding known_words built_primitive_words found
not_twice_far = refl

-- USING: kernel math ; IN: kernel : dup ( -- ) ;
twice_primitive : resolves ((kernel_and_math ∷ f_in (tk (codes "kernel") 6) ∷ defined (codes "dup") 8 [] ∷ []) ∷ []) ≡ no 8 Twice (codes "dup")
unfolding known_words built_primitive_words found
twice_primitive = refl

-- USING: kernel math ; IN: kernel SYMBOL: call
twice_core : resolves ((kernel_and_math ∷ f_in (tk (codes "kernel") 6) ∷ f_symbol (tk (codes "call") 8) ∷ []) ∷ []) ≡ no 8 Twice (codes "call")
unfolding known_words built_primitive_words found
twice_core = refl

-- USING: kernel math ; USE: nowhere
novocab_use : resolves ((kernel_and_math ∷ f_use (tk (codes "nowhere") 6) ∷ []) ∷ []) ≡ no 6 NoVocab (codes "nowhere")
unfolding known_words built_primitive_words found
novocab_use = refl

-- USING: kernel math ; FROM: nowhere => x ;
novocab_from : resolves ((kernel_and_math ∷ (f_from (tk (codes "nowhere") 6) ((tk (codes "x") 8) ∷ [])) ∷ []) ∷ []) ≡ no 6 NoVocab (codes "nowhere")
unfolding known_words built_primitive_words found
novocab_from = refl

-- USING: kernel math ; USE: a IN: a
novocab_later : resolves ((kernel_and_math ∷ f_use (tk (codes "a") 6) ∷ f_in (tk (codes "a") 8) ∷ []) ∷ []) ≡ no 6 NoVocab (codes "a")
unfolding known_words built_primitive_words found
novocab_later = refl

-- USING: kernel math ; USE: math.private.private
vocab_private : resolves ((kernel_and_math ∷ f_use (tk (codes "math.private.private") 6) ∷ []) ∷ []) ≡ yes (top end ∷ [])
unfolding known_words built_primitive_words found
vocab_private = refl

-- USING: kernel math ; IN: a.b IN: c USE: a.b.private
vocab_entered : resolves ((kernel_and_math ∷ f_in (tk (codes "a.b") 6) ∷ f_in (tk (codes "c") 8) ∷ f_use (tk (codes "a.b.private") 10) ∷ []) ∷ []) ≡ yes (top end ∷ [])
unfolding known_words built_primitive_words found
vocab_entered = refl

-- USING: kernel math ; DEFER: w
undefined : resolves ((kernel_and_math ∷ f_defer (tk (codes "w") 6) ∷ []) ∷ []) ≡ no 6 Undefined (codes "w")
unfolding known_words built_primitive_words found
undefined = refl

-- USING: kernel math ; IN: q <PRIVATE DEFER: w PRIVATE> : w2 ( -- ) w ;
undefined_private : resolves ((kernel_and_math ∷ f_in (tk (codes "q") 6) ∷ f_private ∷ f_defer (tk (codes "w") 9) ∷ f_public ∷ (f_define (tk (codes "w2") 12) (given no_effect) (nodes (named (codes "w") 16 ∷ [])) false false) ∷ []) ∷ []) ≡ no 9 Undefined (codes "w")
unfolding known_words built_primitive_words found
undefined_private = refl

-- USING: kernel math ; IN: q <PRIVATE DEFER: h PRIVATE> : h ( -- ) ; h
defined_private : resolves ((kernel_and_math ∷ f_in (tk (codes "q") 6) ∷ f_private ∷ f_defer (tk (codes "h") 9) ∷ f_public ∷ defined (codes "h") 12 [] ∷ run (named (codes "h") 17 ∷ []) ∷ []) ∷ []) ≡ yes (made (codes "q.private") (codes "h") 12 end ∷ top (items ((word (own 0), 17) ∷ [])) ∷ [])
unfolding known_words built_primitive_words found
defined_private = refl

-- USING: kernel math ; DEFER: w nosuch : x ( -- ) ; : x ( -- ) ;
first_by_place : resolves ((kernel_and_math ∷ f_defer (tk (codes "w") 6) ∷ run (named (codes "nosuch") 7 ∷ []) ∷ defined (codes "x") 9 [] ∷ defined (codes "x") 15 [] ∷ []) ∷ []) ≡ no 6 Undefined (codes "w")
unfolding known_words built_primitive_words found
first_by_place = refl

-- USING: kernel math ; nosuch DEFER: w
last_by_place : resolves ((kernel_and_math ∷ run (named (codes "nosuch") 5 ∷ []) ∷ f_defer (tk (codes "w") 7) ∷ []) ∷ []) ≡ no 5 Unknown (codes "nosuch")
unfolding known_words built_primitive_words found
last_by_place = refl

-- USING: kernel math ; DEFER: w 1 : w ( -- ) ; w
place_of_definition : resolves ((kernel_and_math ∷ f_defer (tk (codes "w") 6) ∷ run (literal (int (pos 1)) 7 ∷ []) ∷ defined (codes "w") 9 [] ∷ run (named (codes "w") 14 ∷ []) ∷ []) ∷ []) ≡ yes (made (codes "scratchpad") (codes "w") 9 end ∷ top (items ((lit (int (pos 1)), 7) ∷ (word (own 0), 14) ∷ [])) ∷ [])
unfolding known_words built_primitive_words found
place_of_definition = refl

-- USING: kernel math ; IN: a : go ( -- ) ; IN: b : go ( -- ) ; IN: c : go ( -- ) ; FROM: a => go ; USE: b go
order_current : resolves ((kernel_and_math ∷ f_in (tk (codes "a") 6) ∷ defined (codes "go") 8 [] ∷ f_in (tk (codes "b") 14) ∷ defined (codes "go") 16 [] ∷ f_in (tk (codes "c") 22) ∷ defined (codes "go") 24 [] ∷ (f_from (tk (codes "a") 30) ((tk (codes "go") 32) ∷ [])) ∷ f_use (tk (codes "b") 35) ∷ run (named (codes "go") 36 ∷ []) ∷ []) ∷ []) ≡ yes (made (codes "a") (codes "go") 8 end ∷ made (codes "b") (codes "go") 16 end ∷ made (codes "c") (codes "go") 24 end ∷ top (items ((word (own 2), 36) ∷ [])) ∷ [])
unfolding known_words built_primitive_words found
order_current = refl

-- USING: kernel math ; IN: c <PRIVATE : go ( -- ) ; PRIVATE> FROM: math => mod ; USE: math go
order_companion : resolves ((kernel_and_math ∷ f_in (tk (codes "c") 6) ∷ f_private ∷ defined (codes "go") 9 [] ∷ f_public ∷ (f_from (tk (codes "math") 16) ((tk (codes "mod") 18) ∷ [])) ∷ f_use (tk (codes "math") 21) ∷ run (named (codes "go") 22 ∷ []) ∷ []) ∷ []) ≡ yes (made (codes "c.private") (codes "go") 9 end ∷ top (items ((word (own 0), 22) ∷ [])) ∷ [])
unfolding known_words built_primitive_words found
order_companion = refl

-- USING: kernel math ; IN: a : go ( -- ) ; IN: b : go ( -- ) ; IN: c FROM: a => go ; FROM: b => go ; go
order_from_latest : resolves ((kernel_and_math ∷ f_in (tk (codes "a") 6) ∷ defined (codes "go") 8 [] ∷ f_in (tk (codes "b") 14) ∷ defined (codes "go") 16 [] ∷ f_in (tk (codes "c") 22) ∷ (f_from (tk (codes "a") 24) ((tk (codes "go") 26) ∷ [])) ∷ (f_from (tk (codes "b") 29) ((tk (codes "go") 31) ∷ [])) ∷ run (named (codes "go") 33 ∷ []) ∷ []) ∷ []) ≡ yes (made (codes "a") (codes "go") 8 end ∷ made (codes "b") (codes "go") 16 end ∷ top (items ((word (own 1), 33) ∷ [])) ∷ [])
unfolding known_words built_primitive_words found
order_from_latest = refl

-- USING: kernel math ; IN: a : go ( -- ) ; IN: b : go ( -- ) ; IN: c FROM: a => go ; USE: b go
order_from_used : resolves ((kernel_and_math ∷ f_in (tk (codes "a") 6) ∷ defined (codes "go") 8 [] ∷ f_in (tk (codes "b") 14) ∷ defined (codes "go") 16 [] ∷ f_in (tk (codes "c") 22) ∷ (f_from (tk (codes "a") 24) ((tk (codes "go") 26) ∷ [])) ∷ f_use (tk (codes "b") 29) ∷ run (named (codes "go") 30 ∷ []) ∷ []) ∷ []) ≡ yes (made (codes "a") (codes "go") 8 end ∷ made (codes "b") (codes "go") 16 end ∷ top (items ((word (own 0), 30) ∷ [])) ∷ [])
unfolding known_words built_primitive_words found
order_from_used = refl

-- USING: kernel math ; IN: a : go ( -- ) ; IN: b : m:go ( -- ) ; IN: c USE: b QUALIFIED-WITH: a m m:go
order_qualified : resolves ((kernel_and_math ∷ f_in (tk (codes "a") 6) ∷ defined (codes "go") 8 [] ∷ f_in (tk (codes "b") 14) ∷ defined (codes "m:go") 16 [] ∷ f_in (tk (codes "c") 22) ∷ f_use (tk (codes "b") 24) ∷ (f_qualified (tk (codes "a") 26) (tk (codes "m") 27)) ∷ run (named (codes "m:go") 28 ∷ []) ∷ []) ∷ []) ≡ yes (made (codes "a") (codes "go") 8 end ∷ made (codes "b") (codes "m:go") 16 end ∷ top (items ((word (own 0), 28) ∷ [])) ∷ [])
unfolding known_words built_primitive_words found
order_qualified = refl

-- USING: kernel math ; IN: a : go ( -- ) ; IN: b : go ( -- ) ; IN: c QUALIFIED-WITH: a m QUALIFIED-WITH: b m m:go
order_qualified_latest : resolves ((kernel_and_math ∷ f_in (tk (codes "a") 6) ∷ defined (codes "go") 8 [] ∷ f_in (tk (codes "b") 14) ∷ defined (codes "go") 16 [] ∷ f_in (tk (codes "c") 22) ∷ (f_qualified (tk (codes "a") 24) (tk (codes "m") 25)) ∷ (f_qualified (tk (codes "b") 27) (tk (codes "m") 28)) ∷ run (named (codes "m:go") 29 ∷ []) ∷ []) ∷ []) ≡ yes (made (codes "a") (codes "go") 8 end ∷ made (codes "b") (codes "go") 16 end ∷ top (items ((word (own 1), 29) ∷ [])) ∷ [])
unfolding known_words built_primitive_words found
order_qualified_latest = refl

-- USING: kernel math ; IN: a : go ( -- ) ; IN: b : run ( -- ) ; IN: c QUALIFIED-WITH: a m QUALIFIED-WITH: b m m:go m:run
order_qualified_falls : resolves ((kernel_and_math ∷ f_in (tk (codes "a") 6) ∷ defined (codes "go") 8 [] ∷ f_in (tk (codes "b") 14) ∷ defined (codes "run") 16 [] ∷ f_in (tk (codes "c") 22) ∷ (f_qualified (tk (codes "a") 24) (tk (codes "m") 25)) ∷ (f_qualified (tk (codes "b") 27) (tk (codes "m") 28)) ∷ run (named (codes "m:go") 29 ∷ []) ∷ run (named (codes "m:run") 30 ∷ []) ∷ []) ∷ []) ≡ yes (made (codes "a") (codes "go") 8 end ∷ made (codes "b") (codes "run") 16 end ∷ top (items ((word (own 0), 29) ∷ (word (own 1), 30) ∷ [])) ∷ [])
unfolding known_words built_primitive_words found
order_qualified_falls = refl

-- USING: kernel math ; IN: a IN: c QUALIFIED-WITH: a m IN: a : go ( -- ) ; IN: c m:go
order_qualified_later : resolves ((kernel_and_math ∷ f_in (tk (codes "a") 6) ∷ f_in (tk (codes "c") 8) ∷ (f_qualified (tk (codes "a") 10) (tk (codes "m") 11)) ∷ f_in (tk (codes "a") 13) ∷ defined (codes "go") 15 [] ∷ f_in (tk (codes "c") 21) ∷ run (named (codes "m:go") 22 ∷ []) ∷ []) ∷ []) ≡ yes (made (codes "a") (codes "go") 15 end ∷ top (items ((word (own 0), 22) ∷ [])) ∷ [])
unfolding known_words built_primitive_words found
order_qualified_later = refl

-- USING: kernel math ; IN: a IN: c USE: a IN: a : go ( -- ) ; IN: c go
order_used_later : resolves ((kernel_and_math ∷ f_in (tk (codes "a") 6) ∷ f_in (tk (codes "c") 8) ∷ f_use (tk (codes "a") 10) ∷ f_in (tk (codes "a") 12) ∷ defined (codes "go") 14 [] ∷ f_in (tk (codes "c") 20) ∷ run (named (codes "go") 21 ∷ []) ∷ []) ∷ []) ≡ yes (made (codes "a") (codes "go") 14 end ∷ top (items ((word (own 0), 21) ∷ [])) ∷ [])
unfolding known_words built_primitive_words found
order_used_later = refl

-- USING: kernel math ; IN: a : go ( -- ) ; IN: c FROM: a => go ; IN: d go
order_from_kept : resolves ((kernel_and_math ∷ f_in (tk (codes "a") 6) ∷ defined (codes "go") 8 [] ∷ f_in (tk (codes "c") 14) ∷ (f_from (tk (codes "a") 16) ((tk (codes "go") 18) ∷ [])) ∷ f_in (tk (codes "d") 21) ∷ run (named (codes "go") 22 ∷ []) ∷ []) ∷ []) ≡ yes (made (codes "a") (codes "go") 8 end ∷ top (items ((word (own 0), 22) ∷ [])) ∷ [])
unfolding known_words built_primitive_words found
order_from_kept = refl

-- USING: kernel math ; IN: a <PRIVATE : go ( -- ) ; IN: a go PRIVATE> go
order_private : resolves ((kernel_and_math ∷ f_in (tk (codes "a") 6) ∷ f_private ∷ defined (codes "go") 9 [] ∷ f_in (tk (codes "a") 15) ∷ run (named (codes "go") 16 ∷ []) ∷ f_public ∷ run (named (codes "go") 18 ∷ []) ∷ []) ∷ []) ≡ yes (made (codes "a.private") (codes "go") 9 end ∷ top (items ((word (own 0), 16) ∷ (word (own 0), 18) ∷ [])) ∷ [])
unfolding known_words built_primitive_words found
order_private = refl

-- USING: kernel math ; IN: a : go ( -- ) ; <PRIVATE go : run ( -- ) go ; PRIVATE> run
order_own_in_private : resolves ((kernel_and_math ∷ f_in (tk (codes "a") 6) ∷ defined (codes "go") 8 [] ∷ f_private ∷ run (named (codes "go") 14 ∷ []) ∷ (f_define (tk (codes "run") 16) (given no_effect) (nodes (named (codes "go") 20 ∷ [])) false false) ∷ f_public ∷ run (named (codes "run") 23 ∷ []) ∷ []) ∷ []) ≡ yes (made (codes "a") (codes "go") 8 end ∷ word_def (codes "a.private") (codes "run") (body (items ((word (own 0), 20) ∷ []))) no_effect false false (at 16) ∷ top (items ((word (own 0), 14) ∷ (word (own 1), 23) ∷ [])) ∷ [])
unfolding known_words built_primitive_words found
order_own_in_private = refl

-- USING: kernel math ; IN: a : go ( -- ) ; IN: a.private go
order_entered_private : resolves ((kernel_and_math ∷ f_in (tk (codes "a") 6) ∷ defined (codes "go") 8 [] ∷ f_in (tk (codes "a.private") 14) ∷ run (named (codes "go") 15 ∷ []) ∷ []) ∷ []) ≡ no 15 Unknown (codes "go")
unfolding known_words built_primitive_words found
order_entered_private = refl

-- USING: kernel math ; IN: a <PRIVATE IN: b : go ( -- ) ; go
order_private_open_in : resolves ((kernel_and_math ∷ f_in (tk (codes "a") 6) ∷ f_private ∷ f_in (tk (codes "b") 9) ∷ defined (codes "go") 11 [] ∷ run (named (codes "go") 16 ∷ []) ∷ []) ∷ []) ≡ yes (made (codes "b") (codes "go") 11 end ∷ top (items ((word (own 0), 16) ∷ [])) ∷ [])
unfolding known_words built_primitive_words found
order_private_open_in = refl

-- USING: kernel math ; IN: syntax : go ( -- ) ; IN: b go
order_syntax : resolves ((kernel_and_math ∷ f_in (tk (codes "syntax") 6) ∷ defined (codes "go") 8 [] ∷ f_in (tk (codes "b") 14) ∷ run (named (codes "go") 15 ∷ []) ∷ []) ∷ []) ≡ yes (made (codes "syntax") (codes "go") 8 end ∷ top (items ((word (own 0), 15) ∷ [])) ∷ [])
unfolding known_words built_primitive_words found
order_syntax = refl

-- USING: kernel math ; : a ( -- ) ; : b ( -- ) ; 1 MAIN: a 2 MAIN: b 3
read_main : resolves ((kernel_and_math ∷ defined (codes "a") 6 [] ∷ defined (codes "b") 12 [] ∷ run (literal (int (pos 1)) 17 ∷ []) ∷ f_main (tk (codes "a") 19) ∷ run (literal (int (pos 2)) 20 ∷ []) ∷ f_main (tk (codes "b") 22) ∷ run (literal (int (pos 3)) 23 ∷ []) ∷ []) ∷ []) ≡ yes (made (codes "scratchpad") (codes "a") 6 end ∷ made (codes "scratchpad") (codes "b") 12 end ∷ top (items ((lit (int (pos 1)), 17) ∷ (lit (int (pos 2)), 20) ∷ (lit (int (pos 3)), 23) ∷ (word (own 1), 22) ∷ [])) ∷ [])
unfolding known_words built_primitive_words found
read_main = refl

-- In several files, each begins in `scratchpad` with `syntax` alone used; the word of the last `MAIN:` comes behind all items.
-- IN: a : go ( -- ) ; MAIN: go 1
-- go
second_file : resolves ((f_in (tk (codes "a") 2) ∷ defined (codes "go") 4 [] ∷ f_main (tk (codes "go") 10) ∷ run (literal (int (pos 1)) 11 ∷ []) ∷ []) ∷ (run (named (codes "go") 1 ∷ []) ∷ []) ∷ []) ≡ no 1 Unknown (codes "go")
unfolding known_words built_primitive_words found
second_file = refl

-- IN: a : go ( -- ) ; MAIN: go 1
-- 2 USE: a go
main_of_first : resolves ((f_in (tk (codes "a") 2) ∷ defined (codes "go") 4 [] ∷ f_main (tk (codes "go") 10) ∷ run (literal (int (pos 1)) 11 ∷ []) ∷ []) ∷ (run (literal (int (pos 2)) 1 ∷ []) ∷ f_use (tk (codes "a") 3) ∷ run (named (codes "go") 4 ∷ []) ∷ []) ∷ []) ≡
    yes (made (codes "a") (codes "go") 4 end ∷ top (items ((lit (int (pos 1)), 11) ∷ (lit (int (pos 2)), 1) ∷ (word (own 0), 4) ∷ (word (own 0), 10) ∷ [])) ∷ [])
unfolding known_words built_primitive_words found
main_of_first = refl

-- Literal arrays.

-- { 1 { 2 t } "x" }
inner_first : List (List Form)
inner_first = (run (array (literal (int (pos 1)) 2 ∷ array (literal (int (pos 2)) 4 ∷ literal yes_value 5 ∷ []) 3 ∷ literal (str (codes "x")) 7 ∷ []) 1 ∷ []) ∷ []) ∷ []

array_in_array : resolves inner_first ≡ yes (top (items ((lit_arr 1, 1) ∷ [])) ∷ [])
unfolding inner_first known_words built_primitive_words found
array_in_array = refl

inner_is_earlier : arrays_of inner_first ≡ (l_int (pos 2) ∷ l_yes ∷ []) ∷ (l_int (pos 1) ∷ l_arr 0 ∷ l_str (codes "x") ∷ []) ∷ []
unfolding inner_first known_words built_primitive_words found
inner_is_earlier = refl

-- USING: kernel math ; { [ { } dup ] dup { } }
in_quotation : List (List Form)
in_quotation = (kernel_and_math ∷ run (array (quotation (array [] 7 ∷ named (codes "dup") 9 ∷ []) 6 ∷ named (codes "dup") 11 ∷ array [] 12 ∷ []) 5 ∷ []) ∷ []) ∷ []

-- in a quotation a name is an item, and in an array the word itself
arrays_around : arrays_of in_quotation ≡ [] ∷ [] ∷ (l_quot (items ((lit_arr 0, 7) ∷ (word (known (codes "kernel") (codes "dup")), 9) ∷ [])) ∷ l_word (known (codes "kernel") (codes "dup")) ∷ l_arr 1 ∷ []) ∷ []
unfolding in_quotation known_words built_primitive_words found
arrays_around = refl

-- USING: kernel math ; { 1 { nosuch } }
unknown_in_array : resolves ((kernel_and_math ∷ run (array (literal (int (pos 1)) 6 ∷ array (named (codes "nosuch") 8 ∷ []) 7 ∷ []) 5 ∷ []) ∷ []) ∷ []) ≡ no 8 Unknown (codes "nosuch")
unfolding known_words built_primitive_words found
unknown_in_array = refl

-- IN: a : go ( -- ) ; IN: b : go ( -- ) ; IN: c USING: a b ; { [ go ] }
ambiguous_in_array : resolves ((f_in (tk (codes "a") 2) ∷ defined (codes "go") 4 [] ∷ f_in (tk (codes "b") 10) ∷ defined (codes "go") 12 [] ∷ f_in (tk (codes "c") 18) ∷ (f_using ((tk (codes "a") 20) ∷ (tk (codes "b") 21) ∷ [])) ∷ run (array (quotation (named (codes "go") 25 ∷ []) 24 ∷ []) 23 ∷ []) ∷ []) ∷ []) ≡ no 25 (Ambiguous (name (codes "a") (codes "go")) (name (codes "b") (codes "go"))) (codes "go")
unfolding known_words built_primitive_words found
ambiguous_in_array = refl

-- CONSTANT: c { 1 } { 2 } c
constant_array : List (List Form)
constant_array = (f_constant (tk (codes "c") 2) (array (literal (int (pos 1)) 4 ∷ []) 3) ∷ run (array (literal (int (pos 2)) 7 ∷ []) 6 ∷ named (codes "c") 9 ∷ []) ∷ []) ∷ []

constant_is_array : resolves constant_array ≡ yes (word_def (codes "scratchpad") (codes "c") (body (items ((lit_arr 0, 3) ∷ []))) (signature None no_inputs (leaves None (codes "value" ∷ []))) false false (at 2) ∷ top (items ((lit_arr 1, 6) ∷ (word (own 0), 9) ∷ [])) ∷ [])
unfolding constant_array known_words built_primitive_words found
constant_is_array = refl

constant_first : arrays_of constant_array ≡ (l_int (pos 1) ∷ []) ∷ (l_int (pos 2) ∷ []) ∷ []
unfolding constant_array known_words built_primitive_words found
constant_first = refl

-- IN: a : cond ( -- ) ; { [ ] } cond
own_cond : resolves ((f_in (tk (codes "a") 2) ∷ defined (codes "cond") 4 [] ∷ run (array (quotation [] 10 ∷ []) 9 ∷ named (codes "cond") 13 ∷ []) ∷ []) ∷ []) ≡ yes (made (codes "a") (codes "cond") 4 end ∷ top (items ((lit_arr 0, 9) ∷ (word (own 0), 13) ∷ [])) ∷ [])
unfolding known_words built_primitive_words found
own_cond = refl

-- IN: combinators : cond ( -- ) ;
cond_again : resolves ((f_in (tk (codes "combinators") 2) ∷ defined (codes "cond") 4 [] ∷ []) ∷ []) ≡ no 4 Twice (codes "cond")
unfolding known_words built_primitive_words found
cond_again = refl

abbrev spelled : List ℕ → ℕ → Token
spelled text t = plain_token (at t) text

-- { [ ] t } f, as its elements
elements_nested : nested (element.Opens Array (at 1) ∷ element.Opens Quotation (at 2) ∷ element.Closes Quotation (at 3) ∷ element.Item (term.Literal (spelled (codes "t") 4) True) ∷ element.Closes Array (at 5) ∷ element.Item (term.Literal (spelled (codes "f") 6) False) ∷ []) ≡ nodes (array (quotation [] 2 ∷ literal yes_value 4 ∷ []) 1 ∷ literal no_value 6 ∷ [])
elements_nested = refl
