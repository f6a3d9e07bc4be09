-- Examples of the checker's verdicts where there are quotations: each rule with each of its numbers, the identity of literals, and the effects of callables.
use Rattle.std.proofs.Common.{◌≡◌, ℕ, zero, suc, ◌+◌, List, [], ◌∷◌, ◌++◌, length, Bool, true, false, Option, Some, None, refl}
use Rattle.std.specs.Prelude.{codes, map, pos}
use Rattle.fac_base.specs.declared.height.Height.{Height}
use Rattle.fac_base.specs.declared.place.Place.{Place}
use Rattle.fac_lang.specs.declared.program.Lit.{Lit}
use Rattle.fac_lang.specs.declared.program.Lit.TheVariants.{Wref as l_word, Quot as l_quot}
use Rattle.fac_lang.specs.declared.program.Program.{Program}
use Rattle.fac_lang.specs.declared.program.WordDef.{WordDef}
use Rattle.fac_lang.specs.declared.program.ClassDef.{ClassDef}
use Rattle.fac_lang.specs.declared.program.Sort.TheVariants.{Body as body, Past as past, Method as method, Generic as generic}
use Rattle.fac_base.specs.Signatures.{Signature, signature, Inputs, no_inputs, value, quoted, never, leaves}
use Rattle.fac_lang.specs.PrimitiveWords.{x}
use Rattle.fac_lang.specs.Phrases.{int, wrd, Phrase, end, then, Item, lit, lit_arr, quot, bind, local, fry, hole, call_effect, next_method, held, known, Value, plain, Callable, of_phrase, cur, both, Mark, any, lit_mark}
use Rattle.fac_lang.specs.Primitives.{prim_numbered}
use Rattle.fac_lang.proofs.DemoPrelude.{word_of, shared_words, built_in_classes}
use Rattle.fac_lang.proofs.DemoWords.{phrase, number, quotation, fried, itself, tested-call, tested-execute, own, t as yes, drop, dup, swap, over, pick, rot, -rot, nip, dupd, swapd, 2drop, 2dup, 3drop, 3dup, 2over, 2nip, choose, + as plus, /i, <, nth, curry, compose, throw, call, dip, if, execute, boa, cond, sq, times, own_number}
use Rattle.fac_lang.proofs.Demo.{program, tuple_words, tuple_of}
use Rattle.fac_abs.specs.Marks.{AbstractStack, dead, on, mark_eq}
use Rattle.fac_abs.specs.declared.rule.Rule.{Rule}
use Rattle.fac_abs.specs.declared.rule.Rule.TheVariants.{Underflow, NotKnown, NotAClass, Branches, RecursiveInput, Rows, UndeclaredRecursion, RowDeclaration, MethodEffect, TooDeep, TooLarge, Outputs, MustReturn}
use Rattle.fac_locals.specs.Literals.{first_of_word}
use Rattle.fac_check.specs.declared.refusal.Broken.{Broken}
use Rattle.fac_check.specs.Flow.{Walked, found, refused, walk, doing, most_nested}
use Rattle.fac_check.specs.Verdicts.{verdict, verdict_from}
use Rattle.fac_base.specs.HeightArithmetic.{curried_height, composed_height, fits}
use Rattle.fac_check.specs.CallableEffects.{least_height, callable_height}
use Rattle.fac_check.specs.TemplateWalks.{walked_alone, found_height}

-- The tokens of a phrase in order, so that each item has its place. A quotation stands at its opening bracket.
abbrev mutual
  tokens_in : Phrase → ℕ
  tokens_in end = 0
  tokens_in (then i p t) = tokens_of i + tokens_in t

  tokens_of : Item → ℕ
  tokens_of (quot t) = suc (suc (tokens_in t))
  tokens_of (fry t n) = suc (suc (tokens_in t))
  tokens_of (bind x) = 2
  tokens_of (lit (wrd w)) = 2
  tokens_of _ = 1

-- token k
abbrev token : ℕ → Place
token k = record { file = 1; token = k }

-- a phrase whose first token is k
abbrev mutual
  placed : ℕ → Phrase → Phrase
  placed k end = end
  placed k (then i p t) = then (placed_item k i) (token k) (placed (tokens_of i + k) t)

  placed_item : ℕ → Item → Item
  placed_item k (quot t) = quot (placed (suc k) t)
  placed_item k (fry t n) = fry (placed (suc k) t) n
  placed_item k i = i

-- `( x .. -- x .. )` with so many inputs and outputs
abbrev some_inputs : ℕ → Inputs
some_inputs zero = no_inputs
some_inputs (suc n) = value x (some_inputs n)

abbrev some_names : ℕ → List (List ℕ)
some_names zero = []
some_names (suc n) = x ∷ some_names n

abbrev takes : ℕ → ℕ → Signature
takes i o = signature None (some_inputs i) (leaves None (some_names o))

-- `( x .. -- * )`
abbrev stops : ℕ → Signature
stops i = signature None (some_inputs i) never

-- the rows `..a` and `..b`
abbrev a : Option (List ℕ)
a = Some (codes "a")

abbrev b : Option (List ℕ)
b = Some (codes "b")

-- `( ..r x .. -- ..s x .. )`
abbrev from_to : Option (List ℕ) → Option (List ℕ) → ℕ → ℕ → Signature
from_to r s i o = signature r (some_inputs i) (leaves s (some_names o))

-- `( ..r q: effect -- ..s )`
abbrev takes_quotation : Option (List ℕ) → Option (List ℕ) → Signature → Signature
takes_quotation r s e = signature r (quoted x e no_inputs) (leaves s [])

-- a definition with its name at token 2 and its phrase from token 10 on: its effect, whether it is inline and recursive, and its items
abbrev defined : Signature → Bool → Bool → List Item → WordDef
defined e inline recursive is = record (word_of (codes "scratchpad") (codes "name") (body (placed 10 (phrase is))) e inline recursive) { place = token 2 }

-- the top-level phrase, from token 1 on
abbrev top_level : List Item → WordDef
top_level is = word_of (codes "scratchpad") (codes "top-level") (body (placed 1 (phrase is))) (takes 0 0) false false

-- a program with words and classes of its own and a top-level phrase
abbrev program_of : List ClassDef → List WordDef → List Item → Program
program_of classes words is = record { words = shared_words ++ words ++ top_level is ∷ []; arrays = []; classes = built_in_classes ++ classes; top = own_number (length words) }

-- the verdict on its words, from the first of its own on, where the top-level phrase starts on so many values
abbrev verdict_on : ℕ → List ClassDef → List WordDef → List Item → Option (ℕ × Broken)
verdict_on start classes words is = verdict_from (program_of classes words is) start (own_number 0) (words ++ top_level is ∷ [])

abbrev verdict_of : List WordDef → List Item → Option (ℕ × Broken)
verdict_of words is = verdict_on 0 [] words is

-- with these literal arrays, each of which counts as one token
abbrev array_verdict : List (List Lit) → List WordDef → List Item → Option (ℕ × Broken)
array_verdict arrays words is = verdict_from (record (program_of [] words is) { arrays = arrays }) 0 (own_number 0) (words ++ top_level is ∷ [])

-- word number k of its own breaks a rule at a token; the top-level phrase is the one behind them
abbrev refuses : ℕ → Rule → ℕ → Option (ℕ × Broken)
refuses k rule n = Some (own_number k, record { rule = rule; place = token n })

-- the shared words of all examples are accepted, so the verdict on a program is that on its own words
pub shared_words_accepted : verdict (program [] [] [] []) 0 ≡ None
unfolding prim_numbered mark_eq
shared_words_accepted = refl

-- Underflow.

-- +
pub none_there : verdict_of [] (plus ∷ []) ≡ refuses 0 (Underflow 2 0) 1
unfolding prim_numbered mark_eq
none_there = refl

-- 1 +
pub one_there : verdict_of [] (number 1 ∷ plus ∷ []) ≡ refuses 0 (Underflow 2 1) 2
unfolding prim_numbered mark_eq
one_there = refl

-- : name ( x -- y ) + ;
pub input_there : verdict_of (defined (takes 1 1) false false (plus ∷ []) ∷ []) ([]) ≡ refuses 0 (Underflow 2 1) 10
unfolding prim_numbered mark_eq
input_there = refl

-- 1 '[ _ _ ]
pub holes_lack : verdict_of [] (number 1 ∷ fried 2 (hole 0 ∷ hole 1 ∷ []) ∷ []) ≡ refuses 0 (Underflow 2 1) 2
unfolding prim_numbered mark_eq
holes_lack = refl

-- 1 call( x -- ): what is called is no input
pub tested_lacks : verdict_of [] (number 1 ∷ tested-call 1 0 ∷ []) ≡ refuses 0 (Underflow 2 1) 2
unfolding prim_numbered mark_eq
tested_lacks = refl

-- execute( -- )
pub none_to_execute : verdict_of [] (tested-execute 0 0 ∷ []) ≡ refuses 0 (Underflow 1 0) 1
unfolding prim_numbered mark_eq
none_to_execute = refl

-- execute
pub no_word_to_execute : verdict_of [] (execute ∷ []) ≡ refuses 0 (Underflow 1 0) 1
unfolding prim_numbered mark_eq
no_word_to_execute = refl

-- call
pub none_to_call : verdict_of [] (call ∷ []) ≡ refuses 0 (Underflow 1 0) 1
unfolding prim_numbered mark_eq
none_to_call = refl

-- [ ] dip
pub one_to_dip : verdict_of [] (quotation ([]) ∷ dip ∷ []) ≡ refuses 0 (Underflow 2 1) 3
unfolding prim_numbered mark_eq
one_to_dip = refl

-- [ ] [ ] if
pub two_to_choose : verdict_of [] (quotation ([]) ∷ quotation ([]) ∷ if ∷ []) ≡ refuses 0 (Underflow 3 2) 5
unfolding prim_numbered mark_eq
two_to_choose = refl

-- :> a
pub none_to_bind : verdict_of [] (bind 0 ∷ []) ≡ refuses 0 (Underflow 1 0) 1
unfolding prim_numbered mark_eq
none_to_bind = refl

-- 1 [ + ] call: in the quotation, where it is called
pub in_quotation : verdict_of [] (number 1 ∷ quotation (plus ∷ []) ∷ call ∷ []) ≡ refuses 0 (Underflow 2 1) 3
unfolding prim_numbered mark_eq
in_quotation = refl

-- [ + ] drop
pub not_called : verdict_of [] (quotation (plus ∷ []) ∷ drop ∷ []) ≡ None
unfolding prim_numbered mark_eq
not_called = refl

-- 1 2 [ drop drop ] dip: the value on top is set aside
pub below_dip : verdict_of [] (number 1 ∷ number 2 ∷ quotation (drop ∷ drop ∷ []) ∷ dip ∷ []) ≡ refuses 0 (Underflow 1 0) 5
unfolding prim_numbered mark_eq
below_dip = refl

-- '[ _ ]
pub hole_missing : verdict_of [] (fried 1 (hole 0 ∷ []) ∷ []) ≡ refuses 0 (Underflow 1 0) 1
unfolding prim_numbered mark_eq
hole_missing = refl

-- [ ] call( x -- y ) needs its input and the callable
pub tested_call_needs : verdict_of [] (quotation ([]) ∷ tested-call 1 1 ∷ []) ≡ refuses 0 (Underflow 2 1) 3
unfolding prim_numbered mark_eq
tested_call_needs = refl

-- TUPLE: p x y ; 1 \ p boa: needs and has count the class
pub slots_missing : verdict_on 0 (tuple_of (codes "scratchpad") (codes "p") None (codes "x" ∷ codes "y" ∷ []) ∷ []) (tuple_words (codes "scratchpad") (codes "p") 12 (codes "x" ∷ codes "y" ∷ [])) (number 1 ∷ itself (own 0) ∷ boa ∷ []) ≡ refuses 8 (Underflow 3 2) 4
unfolding prim_numbered mark_eq
slots_missing = refl

-- + in a session with two values
pub starts_on_two : verdict_on 2 [] [] (plus ∷ []) ≡ None
unfolding prim_numbered mark_eq
starts_on_two = refl

-- Known callables and words.

-- 1 call
pub number_called : verdict_of [] (number 1 ∷ call ∷ []) ≡ refuses 0 NotKnown 2
unfolding prim_numbered mark_eq
number_called = refl

-- 1 2 dip
pub number_dipped : verdict_of [] (number 1 ∷ number 2 ∷ dip ∷ []) ≡ refuses 0 NotKnown 3
unfolding prim_numbered mark_eq
number_dipped = refl

-- t 1 [ ] if
pub number_first_branch : verdict_of [] (yes ∷ number 1 ∷ quotation ([]) ∷ if ∷ []) ≡ refuses 0 NotKnown 5
unfolding prim_numbered mark_eq
number_first_branch = refl

-- t [ ] 1 if
pub number_second_branch : verdict_of [] (yes ∷ quotation ([]) ∷ number 1 ∷ if ∷ []) ≡ refuses 0 NotKnown 5
unfolding prim_numbered mark_eq
number_second_branch = refl

-- 1 execute
pub number_executed : verdict_of [] (number 1 ∷ execute ∷ []) ≡ refuses 0 NotKnown 2
unfolding prim_numbered mark_eq
number_executed = refl

-- 1 boa
pub number_as_class : verdict_of [] (number 1 ∷ boa ∷ []) ≡ refuses 0 NotKnown 2
unfolding prim_numbered mark_eq
number_as_class = refl

-- 3 4 times
pub number_repeated : verdict_of [] (number 3 ∷ number 4 ∷ times ∷ []) ≡ refuses 0 NotKnown 3
unfolding prim_numbered mark_eq
number_repeated = refl

-- 1 cond, where no literal stands before it
pub cond_alone : verdict_of [] (number 1 ∷ cond ∷ []) ≡ refuses 0 NotKnown 2
unfolding prim_numbered mark_eq
cond_alone = refl

-- : name ( q -- ) call ;
pub input_called : verdict_of (defined (takes 1 0) false false (call ∷ []) ∷ []) ([]) ≡ refuses 0 NotKnown 10
unfolding prim_numbered mark_eq
input_called = refl

-- : name ( q -- ) call( -- ) ;
pub input_tested : verdict_of (defined (takes 1 0) false false (tested-call 0 0 ∷ []) ∷ []) ([]) ≡ None
unfolding prim_numbered mark_eq
input_tested = refl

-- : name ( -- q ) [ ] ; name call: the output of an ordinary word
pub output_called : verdict_of (defined (takes 0 1) false false (quotation ([]) ∷ []) ∷ []) (own 0 ∷ call ∷ []) ≡ refuses 1 NotKnown 2
unfolding prim_numbered mark_eq
output_called = refl

-- the same, inline
pub expanded_output_called : verdict_of (defined (takes 0 1) true false (quotation ([]) ∷ []) ∷ []) (own 0 ∷ call ∷ []) ≡ None
unfolding prim_numbered mark_eq
expanded_output_called = refl

-- 2 \ sq execute
pub word_executed : verdict_of [] (number 2 ∷ itself sq ∷ execute ∷ []) ≡ None
unfolding prim_numbered mark_eq
word_executed = refl

-- \ sq call
pub word_called : verdict_of [] (itself sq ∷ call ∷ []) ≡ refuses 0 NotKnown 3
unfolding prim_numbered mark_eq
word_called = refl

-- 1 2 curry call
pub curried_number : verdict_of [] (number 1 ∷ number 2 ∷ curry ∷ call ∷ []) ≡ refuses 0 NotKnown 4
unfolding prim_numbered mark_eq
curried_number = refl

-- [ ] 2 compose call
pub composed_number : verdict_of [] (quotation ([]) ∷ number 2 ∷ compose ∷ call ∷ []) ≡ refuses 0 NotKnown 5
unfolding prim_numbered mark_eq
composed_number = refl

-- 1 2 [ + ] curry call drop
pub curried_known : verdict_of [] (number 1 ∷ number 2 ∷ quotation (plus ∷ []) ∷ curry ∷ call ∷ drop ∷ []) ≡ None
unfolding prim_numbered mark_eq
curried_known = refl

-- 1 [ 2 + ] [ drop ] compose call
pub composed_known : verdict_of [] (number 1 ∷ quotation (number 2 ∷ plus ∷ []) ∷ quotation (drop ∷ []) ∷ compose ∷ call ∷ []) ≡ None
unfolding prim_numbered mark_eq
composed_known = refl

-- 1 [ + ] '[ 2 _ call ] call drop
pub fried_known : verdict_of [] (number 1 ∷ quotation (plus ∷ []) ∷ fried 1 (number 2 ∷ hole 0 ∷ call ∷ []) ∷ call ∷ drop ∷ []) ≡ None
unfolding prim_numbered mark_eq
fried_known = refl

-- [ drop ] :> q 1 [ q call ] call
pub local_known : verdict_of [] (quotation (drop ∷ []) ∷ bind 0 ∷ number 1 ∷ quotation (local 0 ∷ call ∷ []) ∷ call ∷ []) ≡ None
unfolding prim_numbered mark_eq
local_known = refl

-- [ + ] 5 '[ 1 2 _ call _ ] call: the first hole has the deepest value
pub first_hole_deepest : verdict_of [] (quotation (plus ∷ []) ∷ number 5 ∷ fried 2 (number 1 ∷ number 2 ∷ hole 0 ∷ call ∷ hole 1 ∷ []) ∷ call ∷ []) ≡ None
unfolding prim_numbered mark_eq
first_hole_deepest = refl

-- 5 [ + ] '[ 1 2 _ call _ ] call
pub first_hole_not_top : verdict_of [] (number 5 ∷ quotation (plus ∷ []) ∷ fried 2 (number 1 ∷ number 2 ∷ hole 0 ∷ call ∷ hole 1 ∷ []) ∷ call ∷ []) ≡ refuses 0 NotKnown 9
unfolding prim_numbered mark_eq
first_hole_not_top = refl

-- 1 [ drop ] '[ [ _ call ] call ] call: a hole in a quotation of a fry
pub hole_in_quotation : verdict_of [] (number 1 ∷ quotation (drop ∷ []) ∷ fried 1 (quotation (hole 0 ∷ call ∷ []) ∷ call ∷ []) ∷ call ∷ []) ≡ None
unfolding prim_numbered mark_eq
hole_in_quotation = refl

-- [ ] :> q 1 [ :> q q call ] call: an inner local hides an outer one
pub hidden_local : verdict_of [] (quotation ([]) ∷ bind 0 ∷ number 1 ∷ quotation (bind 0 ∷ local 0 ∷ call ∷ []) ∷ call ∷ []) ≡ refuses 0 NotKnown 10
unfolding prim_numbered mark_eq
hidden_local = refl

-- [ ] :> q 1 [ :> q ] call q call: and behind it the outer one is there
pub shown_local : verdict_of [] (quotation ([]) ∷ bind 0 ∷ number 1 ∷ quotation (bind 0 ∷ []) ∷ call ∷ local 0 ∷ call ∷ []) ≡ None
unfolding prim_numbered mark_eq
shown_local = refl

-- Calls that are tested when they run.

-- 1 2 [ + ] call( x x -- x ) drop
pub tested_call : verdict_of [] (number 1 ∷ number 2 ∷ quotation (plus ∷ []) ∷ tested-call 2 1 ∷ drop ∷ []) ≡ None
unfolding prim_numbered mark_eq
tested_call = refl

-- [ ] call( -- q ) call: nothing is known of what it leaves
pub tested_leaves_unknown : verdict_of [] (quotation ([]) ∷ tested-call 0 1 ∷ call ∷ []) ≡ refuses 0 NotKnown 4
unfolding prim_numbered mark_eq
tested_leaves_unknown = refl

-- 1 call( -- * ) +: nothing is walked behind it
pub tested_never_returns : verdict_of [] (number 1 ∷ call_effect (record { ins = 0; outs = None }) ∷ plus ∷ []) ≡ None
unfolding prim_numbered mark_eq
tested_never_returns = refl

-- 2 \ sq execute( x -- x ) drop
pub tested_word : verdict_of [] (number 2 ∷ itself sq ∷ tested-execute 1 1 ∷ drop ∷ []) ≡ None
unfolding prim_numbered mark_eq
tested_word = refl

-- Words that are executed.

-- \ execute execute: it finds `execute`, which needs a word
pub executes_itself : verdict_of [] (itself execute ∷ execute ∷ []) ≡ refuses 0 (Underflow 1 0) 3
unfolding prim_numbered mark_eq
executes_itself = refl

-- 2 \ sq \ execute execute drop
pub executes_twice : verdict_of [] (number 2 ∷ itself sq ∷ itself execute ∷ execute ∷ drop ∷ []) ≡ None
unfolding prim_numbered mark_eq
executes_twice = refl

-- [ ] \ call execute
pub executes_call : verdict_of [] (quotation ([]) ∷ itself call ∷ execute ∷ []) ≡ None
unfolding prim_numbered mark_eq
executes_call = refl

-- 1 \ call execute: the place is that of `execute`
pub executes_call_unknown : verdict_of [] (number 1 ∷ itself call ∷ execute ∷ []) ≡ refuses 0 NotKnown 4
unfolding prim_numbered mark_eq
executes_call_unknown = refl

-- : name ( -- q ) [ ] ; inline \ name execute call: an inline word is expanded
pub executes_expanded : verdict_of (defined (takes 0 1) true false (quotation ([]) ∷ []) ∷ []) (itself (own 0) ∷ execute ∷ call ∷ []) ≡ None
unfolding prim_numbered mark_eq
executes_expanded = refl

-- The identity of literals.

-- t [ [ ] ] [ [ ] ] if call: equal phrases at two places are two literals
pub two_literals : verdict_of [] (yes ∷ quotation (quotation ([]) ∷ []) ∷ quotation (quotation ([]) ∷ []) ∷ if ∷ call ∷ []) ≡ refuses 0 NotKnown 11
unfolding prim_numbered mark_eq
two_literals = refl

-- [ ] :> q t [ q ] [ q ] if call: one literal and itself
pub one_literal : verdict_of [] (quotation ([]) ∷ bind 0 ∷ yes ∷ quotation (local 0 ∷ []) ∷ quotation (local 0 ∷ []) ∷ if ∷ call ∷ []) ≡ None
unfolding prim_numbered mark_eq
one_literal = refl

-- of an expanded word that is used twice, too: : name ( -- q ) [ ] ; inline t [ name ] [ name ] if call
pub one_expanded : verdict_of (defined (takes 0 1) true false (quotation ([]) ∷ []) ∷ []) (yes ∷ quotation (own 0 ∷ []) ∷ quotation (own 0 ∷ []) ∷ if ∷ call ∷ []) ≡ None
unfolding prim_numbered mark_eq
one_expanded = refl

-- two such words: equal phrases at equal places are two literals
pub two_expanded : verdict_of (defined (takes 0 1) true false (quotation ([]) ∷ []) ∷ defined (takes 0 1) true false (quotation ([]) ∷ []) ∷ []) (yes ∷ quotation (own 0 ∷ []) ∷ quotation (own 1 ∷ []) ∷ if ∷ call ∷ []) ≡ refuses 2 NotKnown 9
unfolding prim_numbered mark_eq
two_expanded = refl

-- [ ] and [ ] in one phrase, one behind the other, are two
pub two_in_one : verdict_of [] (yes ∷ quotation ([]) ∷ quotation ([]) ∷ bind 1 ∷ bind 0 ∷ quotation (local 0 ∷ []) ∷ quotation (local 1 ∷ []) ∷ if ∷ call ∷ []) ≡ refuses 0 NotKnown 17
unfolding prim_numbered mark_eq
two_in_one = refl

-- : name ( x -- q ) :> x [ x ] ; inline t [ 1 name ] [ 2 name ] if call drop: nothing is known of what they capture
pub same_captures : verdict_of (defined (takes 1 1) true false (bind 0 ∷ quotation (local 0 ∷ []) ∷ []) ∷ []) (yes ∷ quotation (number 1 ∷ own 0 ∷ []) ∷ quotation (number 2 ∷ own 0 ∷ []) ∷ if ∷ call ∷ drop ∷ []) ≡ None
unfolding prim_numbered mark_eq
same_captures = refl

-- likewise with [ ] and [ ] in place of 1 and 2, which are two literals
pub other_captures : verdict_of (defined (takes 1 1) true false (bind 0 ∷ quotation (local 0 ∷ []) ∷ []) ∷ []) (yes ∷ quotation (quotation ([]) ∷ own 0 ∷ []) ∷ quotation (quotation ([]) ∷ own 0 ∷ []) ∷ if ∷ call ∷ drop ∷ []) ≡ refuses 1 NotKnown 13
unfolding prim_numbered mark_eq
other_captures = refl

-- Tuple classes.

-- \ + boa
pub no_class : verdict_of [] (itself plus ∷ boa ∷ []) ≡ refuses 0 NotAClass 3
unfolding prim_numbered mark_eq
no_class = refl

-- TUPLE: p x y ; 1 2 \ p boa drop
pub slots_there : verdict_on 0 (tuple_of (codes "scratchpad") (codes "p") None (codes "x" ∷ codes "y" ∷ []) ∷ []) (tuple_words (codes "scratchpad") (codes "p") 12 (codes "x" ∷ codes "y" ∷ [])) (number 1 ∷ number 2 ∷ itself (own 0) ∷ boa ∷ drop ∷ []) ≡ None
unfolding prim_numbered mark_eq
slots_there = refl

-- Branches.

-- t [ 1 ] [ 1 2 ] if
pub lengths_differ : verdict_of [] (yes ∷ quotation (number 1 ∷ []) ∷ quotation (number 1 ∷ number 2 ∷ []) ∷ if ∷ []) ≡ refuses 0 (Branches 1 2) 9
unfolding prim_numbered mark_eq
lengths_differ = refl

-- : name ( ..a x q: ( ..a -- ..b ) -- ..b ) swap [ call ] [ drop ] if ; inline
pub bases_differ : verdict_of (defined (signature a (value x (quoted x (from_to a b 0 0) no_inputs)) (leaves b [])) true false (swap ∷ quotation (call ∷ []) ∷ quotation (drop ∷ []) ∷ if ∷ []) ∷ []) ([]) ≡ refuses 0 (Branches 0 0) 17
unfolding prim_numbered mark_eq
bases_differ = refl

-- : name ( -- x ) t [ 1 throw ] [ 2 ] if ;: a branch that never returns joins to the other
pub dead_branch : verdict_of (defined (takes 0 1) false false (yes ∷ quotation (number 1 ∷ throw ∷ []) ∷ quotation (number 2 ∷ []) ∷ if ∷ []) ∷ []) ([]) ≡ None
unfolding prim_numbered mark_eq
dead_branch = refl

-- 1 throw +: what stands behind is not walked
pub behind_dead : verdict_of [] (number 1 ∷ throw ∷ plus ∷ []) ≡ None
unfolding prim_numbered mark_eq
behind_dead = refl

-- The own recursive call.

-- : name ( ..a q: ( ..a -- ..a ) -- ..a ) drop [ ] name ; inline recursive
pub other_first_input : verdict_of (defined (takes_quotation a a (from_to a a 0 0)) true true (drop ∷ quotation ([]) ∷ own 0 ∷ []) ∷ []) ([]) ≡ refuses 0 (RecursiveInput 1) 13
unfolding prim_numbered mark_eq
other_first_input = refl

-- : name ( ..a x q: ( ..a -- ..a ) -- ..a ) drop [ ] name ; inline recursive
pub other_second_input : verdict_of (defined (signature a (value x (quoted x (from_to a a 0 0) no_inputs)) (leaves a [])) true true (drop ∷ quotation ([]) ∷ own 0 ∷ []) ∷ []) ([]) ≡ refuses 0 (RecursiveInput 2) 13
unfolding prim_numbered mark_eq
other_second_input = refl

-- : name ( ..a q: ( ..a -- ..a ) -- ..a ) dup dip name ; inline recursive
pub same_input : verdict_of (defined (takes_quotation a a (from_to a a 0 0)) true true (dup ∷ dip ∷ own 0 ∷ []) ∷ []) ([]) ≡ None
unfolding prim_numbered mark_eq
same_input = refl

-- .. 1 swap name drop ..: one value too many below the inputs
pub row_of_own_call : verdict_of (defined (takes_quotation a a (from_to a a 0 0)) true true (number 1 ∷ swap ∷ own 0 ∷ drop ∷ []) ∷ []) ([]) ≡ refuses 0 (Rows 0 0 1) 12
unfolding prim_numbered mark_eq
row_of_own_call = refl

-- : name ( x -- x ) drop name ; inline recursive: the own recursive call needs its inputs
pub own_call_lacks : verdict_of (defined (takes 1 1) true true (drop ∷ own 0 ∷ []) ∷ []) ([]) ≡ refuses 0 (Underflow 1 0) 11
unfolding prim_numbered mark_eq
own_call_lacks = refl

-- without a row variable it stands on the hidden row: : name ( x -- x ) name ; inline recursive
pub hidden_row : verdict_of (defined (takes 1 1) true true (own 0 ∷ []) ∷ []) ([]) ≡ None
unfolding prim_numbered mark_eq
hidden_row = refl

-- with one value below: .. dup name drop
pub hidden_row_below : verdict_of (defined (takes 1 1) true true (dup ∷ own 0 ∷ drop ∷ []) ∷ []) ([]) ≡ refuses 0 (Rows 0 0 1) 11
unfolding prim_numbered mark_eq
hidden_row_below = refl

-- in the quotation of another row word it stands on no row: : u ( q: ( -- ) -- ) drop ; inline recursive : name ( -- ) [ name ] u ; inline recursive
pub hidden_row_elsewhere : verdict_of (defined (takes_quotation None None (takes 0 0)) true true (drop ∷ []) ∷ defined (takes 0 0) true true (quotation (own 1 ∷ []) ∷ own 0 ∷ []) ∷ []) ([]) ≡ refuses 1 (Rows 0 0 0) 11
unfolding prim_numbered mark_eq
hidden_row_elsewhere = refl

-- Rows.

-- 3 [ 1 ] times
pub leaves_more : verdict_of [] (number 3 ∷ quotation (number 1 ∷ []) ∷ times ∷ []) ≡ refuses 0 (Rows 2 0 1) 5
unfolding prim_numbered mark_eq
leaves_more = refl

-- 3 3 [ drop ] times
pub leaves_less : verdict_of [] (number 3 ∷ number 3 ∷ quotation (drop ∷ []) ∷ times ∷ []) ≡ refuses 0 (Rows 2 1 0) 6
unfolding prim_numbered mark_eq
leaves_less = refl

-- [ 1 ] 3 [ drop [ 2 3 ] ] times call: another literal
pub leaves_other : verdict_of [] (quotation (number 1 ∷ []) ∷ number 3 ∷ quotation (drop ∷ quotation (number 2 ∷ number 3 ∷ []) ∷ []) ∷ times ∷ call ∷ []) ≡ refuses 0 (Rows 2 1 1) 12
unfolding prim_numbered mark_eq
leaves_other = refl

-- 0 5 [ 2 + ] times drop
pub leaves_same : verdict_of [] (number 0 ∷ number 5 ∷ quotation (number 2 ∷ plus ∷ []) ∷ times ∷ drop ∷ []) ≡ None
unfolding prim_numbered mark_eq
leaves_same = refl

-- where the input is declared never to return: : name ( q: ( -- * ) -- * ) call ; inline recursive [ 1 ] name
pub returns_though : verdict_of (defined (signature None (quoted x (stops 0) no_inputs) never) true true (call ∷ []) ∷ []) (quotation (number 1 ∷ []) ∷ own 0 ∷ []) ≡ refuses 1 (Rows 1 0 1) 4
unfolding prim_numbered mark_eq
returns_though = refl

-- where the input has no row: : name ( q: ( x -- y ) -- ) drop ; inline recursive [ drop ] name
pub without_rows : verdict_of (defined (takes_quotation None None (takes 1 1)) true true (drop ∷ []) ∷ []) (quotation (drop ∷ []) ∷ own 0 ∷ []) ≡ refuses 1 (Rows 1 1 0) 4
unfolding prim_numbered mark_eq
without_rows = refl

-- : name ( ..a q: ( ..a x -- ..a ) -- ..a ) call ; inline
pub input_too_few : verdict_of (defined (takes_quotation a a (from_to a a 1 0)) true false (call ∷ []) ∷ []) ([]) ≡ refuses 0 (Rows 1 1 0) 10
unfolding prim_numbered mark_eq
input_too_few = refl

-- : name ( ..a q: ( ..a -- ..a ) -- ..a ) 1 swap call ; inline
pub input_too_many : verdict_of (defined (takes_quotation a a (from_to a a 0 0)) true false (number 1 ∷ swap ∷ call ∷ []) ∷ []) ([]) ≡ refuses 0 (Rows 1 0 1) 12
unfolding prim_numbered mark_eq
input_too_many = refl

-- with two inputs q: ( ..a -- ..b ) and p: ( ..a -- ..a ), : name .. [ call ] dip call ; inline calls the second on the row of the first
pub input_base : verdict_of (defined (signature a (quoted x (from_to a b 0 0) (quoted x (from_to a a 0 0) no_inputs)) (leaves b [])) true false (quotation (call ∷ []) ∷ dip ∷ call ∷ []) ∷ []) ([]) ≡ refuses 0 (Rows 2 0 0) 14
unfolding prim_numbered mark_eq
input_base = refl

-- and in the other order, swap [ call ] dip call, it is accepted
pub two_inputs : verdict_of (defined (signature a (quoted x (from_to a b 0 0) (quoted x (from_to a a 0 0) no_inputs)) (leaves b [])) true false (swap ∷ quotation (call ∷ []) ∷ dip ∷ call ∷ []) ∷ []) ([]) ≡ None
unfolding prim_numbered mark_eq
two_inputs = refl

-- its use binds ..b to what the first leaves: [ 1 2 ] [ ] name drop drop
pub used_so : verdict_of (defined (signature a (quoted x (from_to a b 0 0) (quoted x (from_to a a 0 0) no_inputs)) (leaves b [])) true false (swap ∷ quotation (call ∷ []) ∷ dip ∷ call ∷ []) ∷ []) (quotation (number 1 ∷ number 2 ∷ []) ∷ quotation ([]) ∷ own 0 ∷ drop ∷ drop ∷ []) ≡ None
unfolding prim_numbered mark_eq
used_so = refl

-- a quotation that never returns binds it to that, and covers every row: [ 1 throw ] [ 1 throw ] name +
pub dead_row : verdict_of (defined (signature a (quoted x (from_to a b 0 0) (quoted x (from_to a a 0 0) no_inputs)) (leaves b [])) true false (swap ∷ quotation (call ∷ []) ∷ dip ∷ call ∷ []) ∷ []) (quotation (number 1 ∷ throw ∷ []) ∷ quotation (number 1 ∷ throw ∷ []) ∷ own 0 ∷ plus ∷ []) ≡ None
unfolding prim_numbered mark_eq
dead_row = refl

-- times on one value
pub use_lacks : verdict_of [] (number 3 ∷ times ∷ []) ≡ refuses 0 (Underflow 2 1) 2
unfolding prim_numbered mark_eq
use_lacks = refl

-- a free row has the named outputs above it: : name ( ..a q: ( ..a -- ..b x x ) -- ..b ) call drop drop ; inline 1 [ ] name
pub too_few_above : verdict_of (defined (takes_quotation a b (from_to a b 0 2)) true false (call ∷ drop ∷ drop ∷ []) ∷ []) (number 1 ∷ quotation ([]) ∷ own 0 ∷ []) ≡ refuses 1 (Rows 1 2 1) 4
unfolding prim_numbered mark_eq
too_few_above = refl

-- and is bound to what is below them: 1 [ 2 3 ] name drop
pub bound_below : verdict_of (defined (takes_quotation a b (from_to a b 0 2)) true false (call ∷ drop ∷ drop ∷ []) ∷ []) (number 1 ∷ quotation (number 2 ∷ number 3 ∷ []) ∷ own 0 ∷ drop ∷ []) ≡ None
unfolding prim_numbered mark_eq
bound_below = refl

-- a row that is bound to what never returns covers nothing else: : name ( ..a p: ( ..a -- ..b ) q: ( ..a -- ..b ) -- ..b ) drop call ; inline [ 1 throw ] [ ] name
pub dead_covers : verdict_of (defined (signature a (quoted x (from_to a b 0 0) (quoted x (from_to a b 0 0) no_inputs)) (leaves b [])) true false (drop ∷ call ∷ []) ∷ []) (quotation (number 1 ∷ throw ∷ []) ∷ quotation ([]) ∷ own 0 ∷ []) ≡ refuses 1 (Rows 2 0 0) 7
unfolding prim_numbered mark_eq
dead_covers = refl

-- the quotations are walked from left to right: [ + ] [ drop ] name
pub first_quotation : verdict_of (defined (signature a (quoted x (from_to a b 0 0) (quoted x (from_to a b 0 0) no_inputs)) (leaves b [])) true false (drop ∷ call ∷ []) ∷ []) (quotation (plus ∷ []) ∷ quotation (drop ∷ []) ∷ own 0 ∷ []) ≡ refuses 1 (Underflow 2 0) 2
unfolding prim_numbered mark_eq
first_quotation = refl

-- both have to leave the same: [ 1 ] [ 1 2 ] name
pub rows_of_both : verdict_of (defined (signature a (quoted x (from_to a b 0 0) (quoted x (from_to a b 0 0) no_inputs)) (leaves b [])) true false (drop ∷ call ∷ []) ∷ []) (quotation (number 1 ∷ []) ∷ quotation (number 1 ∷ number 2 ∷ []) ∷ own 0 ∷ []) ≡ refuses 1 (Rows 2 1 2) 8
unfolding prim_numbered mark_eq
rows_of_both = refl

-- from a row that never returns nothing is walked: : name ( ..a p: ( ..a -- ..b ) q: ( ..b -- ..b ) -- ..b ) [ call ] dip call ; inline [ 1 throw ] [ + ] name
pub dead_start : verdict_of (defined (signature a (quoted x (from_to a b 0 0) (quoted x (from_to b b 0 0) no_inputs)) (leaves b [])) true false (quotation (call ∷ []) ∷ dip ∷ call ∷ []) ∷ []) (quotation (number 1 ∷ throw ∷ []) ∷ quotation (plus ∷ []) ∷ own 0 ∷ []) ≡ None
unfolding prim_numbered mark_eq
dead_start = refl

-- and from one that was bound before its values are there: [ 1 2 ] [ + 3 ] name drop drop
pub bound_start : verdict_of (defined (signature a (quoted x (from_to a b 0 0) (quoted x (from_to b b 0 0) no_inputs)) (leaves b [])) true false (quotation (call ∷ []) ∷ dip ∷ call ∷ []) ∷ []) (quotation (number 1 ∷ number 2 ∷ []) ∷ quotation (plus ∷ number 3 ∷ []) ∷ own 0 ∷ drop ∷ drop ∷ []) ≡ None
unfolding prim_numbered mark_eq
bound_start = refl

-- an input without rows takes its inputs on any base: : name ( q: ( x -- y ) -- y ) call ; inline recursive
pub rowless_input_lacks : verdict_of (defined (signature None (quoted x (takes 1 1) no_inputs) (leaves None (x ∷ []))) true true (call ∷ []) ∷ []) ([]) ≡ refuses 0 (Rows 1 1 0) 10
unfolding prim_numbered mark_eq
rowless_input_lacks = refl

-- .. 1 2 rot call nip
pub rowless_input : verdict_of (defined (signature None (quoted x (takes 1 1) no_inputs) (leaves None (x ∷ []))) true true (number 1 ∷ number 2 ∷ rot ∷ call ∷ nip ∷ []) ∷ []) ([]) ≡ None
unfolding prim_numbered mark_eq
rowless_input = refl

-- one that never returns leaves nothing to walk: : name ( q: ( x -- * ) -- * ) 1 swap call + ; inline recursive [ throw ] name
pub input_never_returns : verdict_of (defined (signature None (quoted x (stops 1) no_inputs) never) true true (number 1 ∷ swap ∷ call ∷ plus ∷ []) ∷ []) (quotation (throw ∷ []) ∷ own 0 ∷ []) ≡ None
unfolding prim_numbered mark_eq
input_never_returns = refl

-- Undeclared recursion.

-- : name ( q -- ) dup call name ; inline
pub leads_to_itself : verdict_of (defined (takes 1 0) true false (dup ∷ call ∷ own 0 ∷ []) ∷ []) ([]) ≡ refuses 0 UndeclaredRecursion 2
unfolding prim_numbered mark_eq
leads_to_itself = refl

-- in a quotation, too
pub leads_in_quotation : verdict_of (defined (takes 0 0) true false (quotation (own 0 ∷ []) ∷ drop ∷ []) ∷ []) ([]) ≡ refuses 0 UndeclaredRecursion 2
unfolding prim_numbered mark_eq
leads_in_quotation = refl

-- and by \
pub leads_by_name : verdict_of (defined (takes 0 0) true false (itself (own 0) ∷ drop ∷ []) ∷ []) ([]) ≡ refuses 0 UndeclaredRecursion 2
unfolding prim_numbered mark_eq
leads_by_name = refl

-- through another inline word
pub leads_through_another : verdict_of (defined (takes 0 0) true false (own 1 ∷ []) ∷ defined (takes 0 0) true false (own 0 ∷ []) ∷ []) ([]) ≡ refuses 0 UndeclaredRecursion 2
unfolding prim_numbered mark_eq
leads_through_another = refl

-- which `recursive` does not allow
pub declared_through_another : verdict_of (defined (takes 0 0) true true (own 1 ∷ []) ∷ defined (takes 0 0) true false (own 0 ∷ []) ∷ []) ([]) ≡ refuses 0 UndeclaredRecursion 2
unfolding prim_numbered mark_eq
declared_through_another = refl

-- an ordinary word is not followed
pub through_ordinary : verdict_of (defined (takes 0 0) true false (own 1 ∷ []) ∷ defined (takes 0 0) false false (own 0 ∷ []) ∷ []) ([]) ≡ None
unfolding prim_numbered mark_eq
through_ordinary = refl

-- directly, in a word marked recursive
pub declared : verdict_of (defined (takes 0 0) true true (own 0 ∷ []) ∷ []) ([]) ≡ None
unfolding prim_numbered mark_eq
declared = refl

-- also by \: : name ( -- ) \ name execute ; inline recursive
pub declared_by_name : verdict_of (defined (takes 0 0) true true (itself (own 0) ∷ execute ∷ []) ∷ []) ([]) ≡ None
unfolding prim_numbered mark_eq
declared_by_name = refl

-- Declarations of rows.

-- : name ( ..a q: ( ..a -- ..a ) -- ..a ) drop ;
pub not_inline : verdict_of (defined (takes_quotation a a (from_to a a 0 0)) false false (drop ∷ []) ∷ []) ([]) ≡ refuses 0 RowDeclaration 2
unfolding prim_numbered mark_eq
not_inline = refl

-- : name ( ..a -- ) ; inline
pub one_side : verdict_of (defined (from_to a None 0 0) true false ([]) ∷ []) ([]) ≡ refuses 0 RowDeclaration 2
unfolding prim_numbered mark_eq
one_side = refl

-- : name ( ..a -- * ) 1 throw ; inline, where the output side never returns
pub one_side_never : verdict_of (defined (signature a no_inputs never) true false (number 1 ∷ throw ∷ []) ∷ []) ([]) ≡ None
unfolding prim_numbered mark_eq
one_side_never = refl

-- : name ( ..a q: ( ..a -- ) -- ..a ) drop ; inline
pub one_side_nested : verdict_of (defined (takes_quotation a a (from_to a None 0 0)) true false (drop ∷ []) ∷ []) ([]) ≡ refuses 0 RowDeclaration 2
unfolding prim_numbered mark_eq
one_side_nested = refl

-- : name ( q: ( ..a -- ..a ) -- ) drop ; inline
pub nested_alone : verdict_of (defined (takes_quotation None None (from_to a a 0 0)) true false (drop ∷ []) ∷ []) ([]) ≡ refuses 0 RowDeclaration 2
unfolding prim_numbered mark_eq
nested_alone = refl

-- : name ( ..a q: ( ..b -- ..b ) -- ..a ) drop ; inline
pub never_bound : verdict_of (defined (takes_quotation a a (from_to b b 0 0)) true false (drop ∷ []) ∷ []) ([]) ≡ refuses 0 RowDeclaration 2
unfolding prim_numbered mark_eq
never_bound = refl

-- : name ( ..a -- ..b ) ; inline
pub output_not_bound : verdict_of (defined (from_to a b 0 0) true false ([]) ∷ []) ([]) ≡ refuses 0 RowDeclaration 2
unfolding prim_numbered mark_eq
output_not_bound = refl

-- a use before it: : u ( -- ) [ ] name + ; is dead once the input is there, and the later word is refused
pub use_of_refused : verdict_of (defined (takes 0 0) false false (quotation ([]) ∷ own 1 ∷ plus ∷ []) ∷ defined (takes_quotation a a (from_to b b 0 0)) true false (drop ∷ []) ∷ []) ([]) ≡ refuses 1 RowDeclaration 2
unfolding prim_numbered mark_eq
use_of_refused = refl

-- Generics and methods.

-- GENERIC: name ( -- x )
pub generic_without_input : verdict_of (record (word_of (codes "scratchpad") (codes "name") generic (takes 0 1) false false) { place = token 2 } ∷ []) ([]) ≡ refuses 0 MethodEffect 2
unfolding prim_numbered mark_eq
generic_without_input = refl

-- GENERIC: name ( x: ( -- ) -- )
pub generic_with_quotation : verdict_of (record (word_of (codes "scratchpad") (codes "name") generic (takes_quotation None None (takes 0 0)) false false) { place = token 2 } ∷ []) ([]) ≡ refuses 0 MethodEffect 2
unfolding prim_numbered mark_eq
generic_with_quotation = refl

-- GENERIC: name ( ..a x -- ..a ), which is no inline word
pub generic_with_row : verdict_of (record (word_of (codes "scratchpad") (codes "name") generic (from_to a a 1 0) false false) { place = token 2 } ∷ []) ([]) ≡ refuses 0 RowDeclaration 2
unfolding prim_numbered mark_eq
generic_with_row = refl

-- : name ( x -- y ) call-next-method ;
pub next_outside : verdict_of (defined (takes 1 1) false false (next_method ∷ []) ∷ []) ([]) ≡ refuses 0 MethodEffect 10
unfolding prim_numbered mark_eq
next_outside = refl

-- GENERIC: name ( x -- y ) M: object name [ call-next-method ] call ;
pub next_inside : verdict_of (record (word_of (codes "scratchpad") (codes "name") generic (takes 1 1) false false) { place = token 2 } ∷ record (word_of [] [] (method 11 (own_number 0) (placed 10 (phrase (quotation (next_method ∷ []) ∷ call ∷ [])))) (takes 1 1) false false) { place = token 2 } ∷ []) ([]) ≡ None
unfolding prim_numbered mark_eq
next_inside = refl

-- M: object name dup ;
pub method_leaves : verdict_of (record (word_of (codes "scratchpad") (codes "name") generic (takes 1 1) false false) { place = token 2 } ∷ record (word_of [] [] (method 11 (own_number 0) (placed 10 (phrase (dup ∷ [])))) (takes 1 1) false false) { place = token 2 } ∷ []) ([]) ≡ refuses 1 (Outputs 1 2) 2
unfolding prim_numbered mark_eq
method_leaves = refl

-- Nested applications.

-- so many nested `[ .. ] call`
abbrev nested : ℕ → List Item
nested zero = []
nested (suc n) = quotation (nested n) ∷ call ∷ []

-- so many times one item, and then others
abbrev many : ℕ → Item → List Item → List Item
many zero i is = is
many (suc n) i is = i ∷ many n i is

-- [ dup call ] dup call
pub calls_itself : verdict_of [] (quotation (dup ∷ call ∷ []) ∷ dup ∷ call ∷ []) ≡ refuses 0 TooDeep 3
unfolding prim_numbered mark_eq
calls_itself = refl

-- 64 nested quotations
pub deepest : verdict_of [] (nested 64) ≡ None
unfolding prim_numbered mark_eq
deepest = refl

-- 65: the innermost call is the 65th
pub one_deeper : verdict_of [] (nested 65) ≡ refuses 0 TooDeep 67
unfolding prim_numbered mark_eq
one_deeper = refl

-- an expanded word inside so many nested quotations
abbrev deep_use : ℕ → List Item
deep_use zero = own 0 ∷ []
deep_use (suc n) = quotation (deep_use n) ∷ call ∷ []

-- an expanded word counts, too
pub expanded_deep : verdict_of (defined (takes 0 0) true false ([]) ∷ []) (deep_use 64) ≡ refuses 1 TooDeep 65
unfolding prim_numbered mark_eq
expanded_deep = refl

-- 64 times curry, which is called
pub curried_deep : verdict_of [] (many 64 (number 1) (quotation (many 64 drop []) ∷ many 64 curry (call ∷ []))) ≡ None
unfolding prim_numbered mark_eq
curried_deep = refl

-- with one more the mark would be too deep, so nothing is known
pub curried_deeper : verdict_of [] (many 65 (number 1) (quotation (many 65 drop []) ∷ many 65 curry (call ∷ []))) ≡ refuses 0 NotKnown 198
unfolding prim_numbered mark_eq
curried_deeper = refl

-- Walked items. Here walks with few items left are computed, with the items that are left at the end.

-- a walk of a phrase that may walk so many items
abbrev walk_of : List WordDef → ℕ → List Item → Walked AbstractStack
walk_of words n is = walk None (doing (program_of [] words is) None) (suc n) (first_of_word (own_number (length words))) most_nested (placed 1 (phrase is)) None [] n

-- 1 2 + drop
pub just_walked : walk_of ([]) 4 (number 1 ∷ number 2 ∷ plus ∷ drop ∷ []) ≡ found (on None []) 0
unfolding prim_numbered mark_eq
just_walked = refl

-- with one item less
pub too_many : walk_of ([]) 3 (number 1 ∷ number 2 ∷ plus ∷ drop ∷ []) ≡ refused TooLarge (token 4)
unfolding prim_numbered mark_eq
too_many = refl

-- a rule that the item breaks by itself comes first
pub own_rule_first : walk_of ([]) 3 (number 1 ∷ number 2 ∷ plus ∷ plus ∷ []) ≡ refused (Underflow 2 1) (token 4)
unfolding prim_numbered mark_eq
own_rule_first = refl

-- also not-known
pub callable_rule_first : walk_of ([]) 1 (number 1 ∷ call ∷ []) ≡ refused NotKnown (token 2)
unfolding prim_numbered mark_eq
callable_rule_first = refl

-- 1 [ 2 + ] call drop: the items of a quotation count where it is called
pub calls_count : walk_of ([]) 6 (number 1 ∷ quotation (number 2 ∷ plus ∷ []) ∷ call ∷ drop ∷ []) ≡ found (on None []) 0
unfolding prim_numbered mark_eq
calls_count = refl

-- 1 [ drop ] curry call: the value of curry counts
pub curried_counts : walk_of ([]) 6 (number 1 ∷ quotation (drop ∷ []) ∷ curry ∷ call ∷ []) ≡ found (on None []) 0
unfolding prim_numbered mark_eq
curried_counts = refl

-- [ ] [ ] compose call: the entry of compose counts
pub composed_counts : walk_of ([]) 5 (quotation ([]) ∷ quotation ([]) ∷ compose ∷ call ∷ []) ≡ found (on None []) 0
unfolding prim_numbered mark_eq
composed_counts = refl

-- in place of it too-large, at the call
pub composed_too_many : walk_of ([]) 4 (quotation ([]) ∷ quotation ([]) ∷ compose ∷ call ∷ []) ≡ refused TooLarge (token 6)
unfolding prim_numbered mark_eq
composed_too_many = refl

-- 2 \ sq execute drop: execute and the word
pub executed_counts : walk_of ([]) 5 (number 2 ∷ itself sq ∷ execute ∷ drop ∷ []) ≡ found (on None []) 0
unfolding prim_numbered mark_eq
executed_counts = refl

-- 2 \ sq \ execute execute drop: both, and the word
pub executed_twice_counts : walk_of ([]) 7 (number 2 ∷ itself sq ∷ itself execute ∷ execute ∷ drop ∷ []) ≡ found (on None []) 0
unfolding prim_numbered mark_eq
executed_twice_counts = refl

-- with two items less too-large is at `execute`
pub executed_too_many : walk_of ([]) 5 (number 2 ∷ itself sq ∷ itself execute ∷ execute ∷ drop ∷ []) ≡ refused TooLarge (token 6)
unfolding prim_numbered mark_eq
executed_too_many = refl

-- an expanded word of two items
pub expanded_counts : walk_of (defined (takes 0 0) true false (number 1 ∷ drop ∷ []) ∷ []) 3 (own 0 ∷ []) ≡ found (on None []) 0
unfolding prim_numbered mark_eq
expanded_counts = refl

-- [ 1 drop ] name, where : name ( ..a q: ( ..a -- ..b ) -- ..b ) call ; inline: the use counts once, and the quotation as it is walked
pub uses_count : walk_of (defined (takes_quotation a b (from_to a b 0 0)) true false (call ∷ []) ∷ []) 4 (quotation (number 1 ∷ drop ∷ []) ∷ own 0 ∷ []) ≡ found (on None []) 0
unfolding prim_numbered mark_eq
uses_count = refl

-- with one item less
pub uses_too_many : walk_of (defined (takes_quotation a b (from_to a b 0 0)) true false (call ∷ []) ∷ []) 3 (quotation (number 1 ∷ drop ∷ []) ∷ own 0 ∷ []) ≡ refused TooLarge (token 3)
unfolding prim_numbered mark_eq
uses_too_many = refl

-- likewise the walk of a top-level phrase, where no application may be entered any more
abbrev deepest_walk_of : List WordDef → ℕ → List Item → Walked AbstractStack
deepest_walk_of words n is = walk None (doing (program_of [] words is) None) (suc n) (first_of_word (own_number (length words))) 0 (placed 1 (phrase is)) None [] n

-- [ ] name: the use breaks too-deep by its quotation before it counts
pub use_rule_first : deepest_walk_of (defined (takes_quotation a b (from_to a b 0 0)) true false (call ∷ []) ∷ []) 1 (quotation ([]) ∷ own 0 ∷ []) ≡ refused TooDeep (token 3)
unfolding prim_numbered mark_eq
use_rule_first = refl

-- Literal arrays.

-- what stands in an array isn't walked: here a quotation that takes a value
pub array_not_walked : array_verdict ((l_quot (phrase (drop ∷ [])) ∷ []) ∷ []) [] (lit_arr 0 ∷ drop ∷ []) ≡ None
unfolding prim_numbered mark_eq
array_not_walked = refl

-- a quotation out of an array isn't known
pub element_called : array_verdict ((l_quot (phrase []) ∷ []) ∷ []) [] (number 0 ∷ lit_arr 0 ∷ nth ∷ call ∷ []) ≡ refuses 0 NotKnown 4
unfolding prim_numbered mark_eq
element_called = refl

-- and an array itself is no callable
pub array_called : array_verdict ([] ∷ []) [] (lit_arr 0 ∷ call ∷ []) ≡ refuses 0 NotKnown 2
unfolding prim_numbered mark_eq
array_called = refl

-- in an array an inline word may be named by a quotation and by itself, which leads nowhere
pub names_in_array : array_verdict ((l_quot (phrase (own 0 ∷ [])) ∷ l_word (own_number 0) ∷ []) ∷ []) (defined (takes 0 0) true false (lit_arr 0 ∷ drop ∷ []) ∷ []) ([]) ≡ None
unfolding prim_numbered mark_eq
names_in_array = refl

-- The numbers of literals: the items before them, counted with those of quotations.

-- literal number k of the top-level phrase of a program with no words of its own, and of the first word behind the shared ones
abbrev literal_mark : ℕ → List Item → Mark
literal_mark k is = lit_mark (record { word = own_number 0; around = []; index = k }) (phrase is)

-- the marks that a walk finds
abbrev marks_of : Walked AbstractStack → List Mark
marks_of (found (on b ms) n) = ms
marks_of (found dead n) = []
marks_of (refused r p) = []

-- [ 2 [ ] ] call [ ]: the second is item 2, in the phrase of item 0, and the third item 4
pub numbered : marks_of (walk_of [] 9 (quotation (number 2 ∷ quotation ([]) ∷ []) ∷ call ∷ quotation ([]) ∷ [])) ≡ literal_mark 4 [] ∷ literal_mark 2 [] ∷ any ∷ []
unfolding prim_numbered mark_eq
numbered = refl

-- of an expanded word the first item is item 0 of its own phrase
pub numbered_in_word : marks_of (walk_of (defined (takes 0 2) true false (quotation ([]) ∷ number 1 ∷ quotation ([]) ∷ []) ∷ []) 9 (number 1 ∷ own 0 ∷ [])) ≡ literal_mark 2 [] ∷ any ∷ literal_mark 0 [] ∷ any ∷ []
unfolding prim_numbered mark_eq
numbered_in_word = refl

-- 1 '[ _ [ ] ] call [ ]: a hole is an item before and after a mark is put for it
pub numbered_behind_fry : marks_of (walk_of [] 9 (number 1 ∷ fried 1 (hole 0 ∷ quotation ([]) ∷ []) ∷ call ∷ quotation ([]) ∷ [])) ≡ literal_mark 5 [] ∷ literal_mark 3 [] ∷ any ∷ []
unfolding prim_numbered mark_eq
numbered_behind_fry = refl

-- What primitives do with marks.

-- what a shuffle leaves of [ ] [ ] [ ], the top first
abbrev shuffled : Item → List Mark
shuffled i = marks_of (walk_of [] 9 (quotation ([]) ∷ quotation ([]) ∷ quotation ([]) ∷ i ∷ []))

-- these three, of which r is the top
abbrev p : Mark
p = literal_mark 0 []

abbrev q : Mark
q = literal_mark 1 []

abbrev r : Mark
r = literal_mark 2 []

-- shuffles that leave fewer values
pub marks_dropped : map shuffled (drop ∷ 2drop ∷ 3drop ∷ nip ∷ 2nip ∷ []) ≡ (q ∷ p ∷ []) ∷ (p ∷ []) ∷ [] ∷ (r ∷ p ∷ []) ∷ (r ∷ []) ∷ []
unfolding prim_numbered mark_eq
marks_dropped = refl

-- as many
pub marks_exchanged : map shuffled (swap ∷ swapd ∷ rot ∷ -rot ∷ []) ≡ (q ∷ r ∷ p ∷ []) ∷ (r ∷ p ∷ q ∷ []) ∷ (p ∷ r ∷ q ∷ []) ∷ (q ∷ p ∷ r ∷ []) ∷ []
unfolding prim_numbered mark_eq
marks_exchanged = refl

-- and more
pub marks_copied : map shuffled (dup ∷ dupd ∷ over ∷ pick ∷ []) ≡ (r ∷ r ∷ q ∷ p ∷ []) ∷ (r ∷ q ∷ q ∷ p ∷ []) ∷ (q ∷ r ∷ q ∷ p ∷ []) ∷ (p ∷ r ∷ q ∷ p ∷ []) ∷ []
unfolding prim_numbered mark_eq
marks_copied = refl

pub several_marks_copied : map shuffled (2dup ∷ 3dup ∷ 2over ∷ []) ≡ (r ∷ q ∷ r ∷ q ∷ p ∷ []) ∷ (r ∷ q ∷ p ∷ r ∷ q ∷ p ∷ []) ∷ (q ∷ p ∷ r ∷ q ∷ p ∷ []) ∷ []
unfolding prim_numbered mark_eq
several_marks_copied = refl

-- [ ] swap
pub one_to_swap : verdict_of [] (quotation ([]) ∷ swap ∷ []) ≡ refuses 0 (Underflow 2 1) 3
unfolding prim_numbered mark_eq
one_to_swap = refl

-- 7 2 /i 3 <
pub numbers_compared : marks_of (walk_of [] 9 (number 7 ∷ number 2 ∷ /i ∷ number 3 ∷ < ∷ [])) ≡ any ∷ []
unfolding prim_numbered mark_eq
numbers_compared = refl

-- 7 /i
pub one_to_divide : verdict_of [] (number 7 ∷ /i ∷ []) ≡ refuses 0 (Underflow 2 1) 2
unfolding prim_numbered mark_eq
one_to_divide = refl

-- t [ ] [ ] ? call: nothing is known of a value that is chosen
pub chosen_unknown : verdict_of [] (yes ∷ quotation ([]) ∷ quotation ([]) ∷ choose ∷ call ∷ []) ≡ refuses 0 NotKnown 7
unfolding prim_numbered mark_eq
chosen_unknown = refl

-- What a word leaves.

-- : name ( x -- y ) dup ;
pub one_too_many : verdict_of (defined (takes 1 1) false false (dup ∷ []) ∷ []) ([]) ≡ refuses 0 (Outputs 1 2) 2
unfolding prim_numbered mark_eq
one_too_many = refl

-- : name ( x -- y ) drop ;
pub one_too_few : verdict_of (defined (takes 1 1) false false (drop ∷ []) ∷ []) ([]) ≡ refuses 0 (Outputs 1 0) 2
unfolding prim_numbered mark_eq
one_too_few = refl

-- : name ( ..a q: ( ..a -- ..b ) -- ..b ) drop ; inline
pub other_row : verdict_of (defined (takes_quotation a b (from_to a b 0 0)) true false (drop ∷ []) ∷ []) ([]) ≡ refuses 0 (Outputs 0 0) 2
unfolding prim_numbered mark_eq
other_row = refl

-- : name ( -- * ) ;
pub can_return : verdict_of (defined (stops 0) false false ([]) ∷ []) ([]) ≡ refuses 0 MustReturn 2
unfolding prim_numbered mark_eq
can_return = refl

-- : name ( -- * ) 1 throw ;
pub never_returns : verdict_of (defined (stops 0) false false (number 1 ∷ throw ∷ []) ∷ []) ([]) ≡ None
unfolding prim_numbered mark_eq
never_returns = refl

-- : name ( -- x y ) 1 throw ;
pub never_returns_a_value : verdict_of (defined (takes 0 2) false false (number 1 ∷ throw ∷ []) ∷ []) ([]) ≡ None
unfolding prim_numbered mark_eq
never_returns_a_value = refl

-- 1 2: the top-level phrase may leave values
pub phrase_leaves : verdict_of [] (number 1 ∷ number 2 ∷ []) ≡ None
unfolding prim_numbered mark_eq
phrase_leaves = refl

-- an expanded word is not checked where it is defined
pub expanded_not_walked : verdict_of (defined (takes 0 0) true false (plus ∷ []) ∷ []) ([]) ≡ None
unfolding prim_numbered mark_eq
expanded_not_walked = refl

-- but at each use, at the place in its phrase
pub expanded_at_use : verdict_of (defined (takes 0 0) true false (plus ∷ []) ∷ []) (number 1 ∷ own 0 ∷ []) ≡ refuses 1 (Underflow 2 1) 10
unfolding prim_numbered mark_eq
expanded_at_use = refl

-- an earlier top-level phrase of a session
pub past_accepted : verdict_of (word_of (codes "scratchpad") (codes "top-level") (past (placed 1 (phrase (plus ∷ [])))) (takes 0 0) false false ∷ []) ([]) ≡ None
unfolding prim_numbered mark_eq
past_accepted = refl

-- Effects of callables.

abbrev height : ℕ → ℕ → Option Height
height i o = Some (record { ins = i; outs = Some o })

-- an effect that never returns
abbrev stopping : ℕ → Option Height
stopping i = Some (record { ins = i; outs = None })

-- the effect of a callable in a program with no words of its own
abbrev effect_of : Callable → Option Height
effect_of c = callable_height (program_of [] [] []) c

-- a literal
abbrev literal : List Item → Callable
literal is = of_phrase (phrase is)

abbrev one : Value
one = plain (int (pos 1))

-- [ + dup ]
pub of_plus_dup : effect_of (literal (plus ∷ dup ∷ [])) ≡ height 2 2
unfolding prim_numbered mark_eq
of_plus_dup = refl

-- [ ]
pub of_nothing : effect_of (literal ([])) ≡ height 0 0
unfolding prim_numbered mark_eq
of_nothing = refl

-- [ [ ] [ drop ] if ] has none: its branches differ
pub of_if : least_height (program_of [] [] []) 5 0 (phrase (quotation ([]) ∷ quotation (drop ∷ []) ∷ if ∷ [])) ≡ None
unfolding prim_numbered mark_eq
of_if = refl

-- [ [ 1 ] [ 2 ] if ]
pub of_choice : effect_of (literal (quotation (number 1 ∷ []) ∷ quotation (number 2 ∷ []) ∷ if ∷ [])) ≡ height 1 1
unfolding prim_numbered mark_eq
of_choice = refl

-- [ call( x -- x ) ]
pub of_tested : effect_of (literal (tested-call 1 1 ∷ [])) ≡ height 2 1
unfolding prim_numbered mark_eq
of_tested = refl

-- [ execute ] has none
pub of_execute : least_height (program_of [] [] []) 5 0 (phrase (execute ∷ [])) ≡ None
unfolding prim_numbered mark_eq
of_execute = refl

-- [ throw ] never returns
pub of_throw : effect_of (literal (throw ∷ [])) ≡ stopping 1
unfolding prim_numbered mark_eq
of_throw = refl

-- [ [ 1 + ] times ]
pub of_times : effect_of (literal (quotation (number 1 ∷ plus ∷ []) ∷ times ∷ [])) ≡ height 2 1
unfolding prim_numbered mark_eq
of_times = refl

-- [ a + ], where a run put 1 for a
pub of_captured : effect_of (literal (held one ∷ plus ∷ [])) ≡ height 1 1
unfolding prim_numbered mark_eq
of_captured = refl

-- [ a call ] likewise has none: nothing is known of what was put
pub of_called_capture : least_height (program_of [] [] []) 5 0 (phrase (known any ∷ call ∷ [])) ≡ None
unfolding prim_numbered mark_eq
of_called_capture = refl

-- [ + ] from two unknown values
pub two_taken : found_height 2 (walked_alone (program_of [] [] []) 2 (phrase (plus ∷ []))) ≡ height 2 1
unfolding prim_numbered mark_eq
two_taken = refl

-- and from one
pub one_missing : found_height 1 (walked_alone (program_of [] [] []) 1 (phrase (plus ∷ []))) ≡ None
unfolding prim_numbered mark_eq
one_missing = refl

-- [ throw ] from two
pub none_returned : found_height 2 (walked_alone (program_of [] [] []) 2 (phrase (throw ∷ []))) ≡ stopping 2
unfolding prim_numbered mark_eq
none_returned = refl

-- 1 [ + ] curry
pub of_curried : effect_of (cur one (literal (plus ∷ []))) ≡ height 1 1
unfolding prim_numbered mark_eq
of_curried = refl

-- 1 [ ] curry
pub of_curried_none : effect_of (cur one (literal [])) ≡ height 0 1
unfolding prim_numbered mark_eq
of_curried_none = refl

-- [ dup ] [ + ] compose
pub of_composed : effect_of (both (literal (dup ∷ [])) (literal (plus ∷ []))) ≡ height 1 1
unfolding prim_numbered mark_eq
of_composed = refl

-- [ drop ] [ + ] compose
pub of_composed_below : effect_of (both (literal (drop ∷ [])) (literal (plus ∷ []))) ≡ height 3 1
unfolding prim_numbered mark_eq
of_composed_below = refl

-- curry takes an input away
pub curry_takes_one : curried_height (height 2 1) ≡ height 1 1
curry_takes_one = refl

-- or leaves one more
pub curry_leaves_one : curried_height (height 0 1) ≡ height 0 2
curry_leaves_one = refl

-- of a callable that never returns
pub curry_never : curried_height (stopping 0) ≡ stopping 0
curry_never = refl

-- at the limit
pub curry_at_limit : curried_height (height 0 999999) ≡ height 0 1000000
curry_at_limit = refl

-- and past it
pub curry_past_limit : curried_height (height 0 1000000) ≡ None
curry_past_limit = refl

-- the second takes of what the first leaves
pub compose_within : composed_height (height 1 3) (height 2 2) ≡ height 1 3
compose_within = refl

-- or also from below
pub compose_below : composed_height (height 1 1) (height 3 0) ≡ height 3 0
compose_below = refl

-- the first never returns
pub compose_first_never : composed_height (stopping 1) (height 3 0) ≡ stopping 1
compose_first_never = refl

-- the second never returns
pub compose_second_never : composed_height (height 1 2) (stopping 1) ≡ stopping 1
compose_second_never = refl

-- one has no effect
pub compose_without : composed_height (height 1 2) None ≡ None
compose_without = refl

-- also where the first never returns
pub compose_never_without : composed_height (stopping 1) None ≡ None
compose_never_without = refl

-- at the limit
pub compose_at_limit : composed_height (height 0 1) (height 0 999999) ≡ height 0 1000000
compose_at_limit = refl

-- and past it
pub compose_past_limit : composed_height (height 0 1) (height 0 1000000) ≡ None
compose_past_limit = refl

-- inputs, too
pub compose_inputs_past_limit : composed_height (height 1000000 0) (height 1 0) ≡ None
compose_inputs_past_limit = refl

-- the same numbers
pub fits_itself : fits (record { ins = 1; outs = Some 1 }) (record { ins = 1; outs = Some 1 }) ≡ true
fits_itself = refl

-- with one value more on both sides
pub fits_more : fits (record { ins = 1; outs = Some 1 }) (record { ins = 2; outs = Some 2 }) ≡ true
fits_more = refl

-- too few inputs are declared
pub fits_fewer : fits (record { ins = 1; outs = Some 1 }) (record { ins = 0; outs = Some 0 }) ≡ false
fits_fewer = refl

-- another number of values
pub fits_other : fits (record { ins = 1; outs = Some 2 }) (record { ins = 1; outs = Some 1 }) ≡ false
fits_other = refl

-- what never returns
pub fits_never : fits (record { ins = 1; outs = None }) (record { ins = 1; outs = Some 5 }) ≡ true
fits_never = refl

-- but not with too few inputs
pub fits_never_input : fits (record { ins = 2; outs = None }) (record { ins = 1; outs = Some 5 }) ≡ false
fits_never_input = refl

-- where it is declared
pub never_fits_never : fits (record { ins = 0; outs = None }) (record { ins = 1; outs = None }) ≡ true
never_fits_never = refl

-- what can return
pub returns_fits_never : fits (record { ins = 0; outs = Some 0 }) (record { ins = 0; outs = None }) ≡ false
returns_fits_never = refl
