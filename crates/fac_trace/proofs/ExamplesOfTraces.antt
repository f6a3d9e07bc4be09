-- Examples of what is told of refused words: where each value comes from, and the way in.
use Rattle.std.proofs.Common.{◌≡◌, ℕ, zero, suc, ◌+◌, List, [], ◌∷◌, ◌++◌, length, Bool, true, false, Option, Some, None, refl}
use Rattle.std.specs.Prelude.{codes}
use Rattle.fac_base.specs.declared.place.Place.{Place}
use Rattle.fac_base.specs.Signatures.{Signature, signature, Inputs, no_inputs, value, quoted, leaves}
use Rattle.fac_lang.specs.declared.program.Program.{Program}
use Rattle.fac_lang.specs.declared.program.WordDef.{WordDef}
use Rattle.fac_lang.specs.declared.program.Sort.TheVariants.{Body as body}
use Rattle.fac_lang.specs.Phrases.{Phrase, end, then, Item, quot, bind, local, fry, hole, lit, wrd}
use Rattle.fac_lang.specs.PrimitiveWords.{x}
use Rattle.fac_lang.specs.Primitives.{prim_numbered}
use Rattle.fac_lang.specs.Meaning.{nowhere}
use Rattle.fac_lang.proofs.DemoPrelude.{word_of, shared_words, built_in_classes}
use Rattle.fac_lang.proofs.DemoWords.{phrase, number, quotation, fried, itself, t as yes, own, own_number, built_words, dup, swap, drop, curry, + as plus, *, <, <iota>, call, dip, if, execute, boa, bi, times, each, nip}
use Rattle.fac_abs.specs.Marks.{mark_eq}
use Rattle.fac_abs.specs.declared.rule.Rule.{Rule}
use Rattle.fac_abs.specs.declared.rule.Rule.TheVariants.{Underflow, NotKnown, NotAClass, Branches, Rows, RowDeclaration, Outputs}
use Rattle.fac_trace.specs.declared.origin.Origin.{Origin}
use Rattle.fac_trace.specs.declared.origin.Origin.TheVariants as origin
use Rattle.fac_trace.specs.declared.origin.Entry.{Entry}
use Rattle.fac_trace.specs.declared.origin.Entry.TheVariants as entry
use Rattle.fac_trace.specs.Origins.{Listed}
use Rattle.fac_trace.specs.Traced.{Fault}
use Rattle.fac_trace.specs.Traces.{trace_from}

-- The tokens of a phrase in order, so that each item has its place. A quotation stands at its opening bracket.
abbrev mutual
  tokens_in : Phrase → ℕ
  tokens_in end = 0
  tokens_in (then i p t) = tokens_of i + tokens_in t

  tokens_of : Item → ℕ
  tokens_of (quot t) = suc (suc (tokens_in t))
  tokens_of (fry t n) = suc (suc (tokens_in t))
  tokens_of (bind x) = 2
  tokens_of (lit (wrd w)) = 2
  tokens_of _ = 1

-- token k
abbrev token : ℕ → Place
token k = record { file = 1; token = k }

-- a phrase whose first token is k
abbrev mutual
  placed : ℕ → Phrase → Phrase
  placed k end = end
  placed k (then i p t) = then (placed_item k i) (token k) (placed (tokens_of i + k) t)

  placed_item : ℕ → Item → Item
  placed_item k (quot t) = quot (placed (suc k) t)
  placed_item k (fry t n) = fry (placed (suc k) t) n
  placed_item k i = i

-- `( x .. -- x .. )` with so many inputs and outputs
abbrev some_inputs : ℕ → Inputs
some_inputs zero = no_inputs
some_inputs (suc n) = value x (some_inputs n)

abbrev some_names : ℕ → List (List ℕ)
some_names zero = []
some_names (suc n) = x ∷ some_names n

abbrev takes : ℕ → ℕ → Signature
takes i o = signature None (some_inputs i) (leaves None (some_names o))

-- a definition with its name at token 2 and its phrase from token 10 on: its effect, whether it is inline, and its items
abbrev defined : Signature → Bool → List Item → WordDef
defined e inline is = record (word_of (codes "scratchpad") (codes "name") (body (placed 10 (phrase is))) e inline false) { place = token 2 }

-- the top-level phrase, from token 1 on
abbrev top_level : List Item → WordDef
top_level is = word_of (codes "scratchpad") (codes "top-level") (body (placed 1 (phrase is))) (takes 0 0) false false

-- a program with words of its own and a top-level phrase
abbrev program_of : List WordDef → List Item → Program
program_of words is = record { words = shared_words ++ words ++ top_level is ∷ []; arrays = []; classes = built_in_classes; top = own_number (length words) }

-- what is told of it
abbrev trace_of : List WordDef → List Item → Option (ℕ × Fault)
trace_of words is = trace_from (program_of words is) 0 (own_number 0) (words ++ top_level is ∷ [])

-- a stack on no row
abbrev stack : List Origin → Option Listed
stack os = Some (record { row = false; values = os })

-- word number k of its own breaks a rule at a token, with this stack before it, by this way
abbrev tells : ℕ → Rule → ℕ → List Origin → List Entry → Option (ℕ × Fault)
tells k rule n os way = Some (own_number k, record { rule = rule; place = token n; before = stack os; callable = None; way = way })

-- what the item at this token is, and the one value that it leaves
abbrev item : ℕ → Origin
item n = origin.Item (token n)

abbrev left : ℕ → Origin
left n = origin.Left 1 1 (token n)

-- 1 2 + +
pub sum_lacks : trace_of [] (number 1 ∷ number 2 ∷ plus ∷ plus ∷ []) ≡ tells 0 (Underflow 2 1) 4 (left 3 ∷ []) []
unfolding prim_numbered mark_eq
sum_lacks = refl

-- : name ( x x -- x ) call ;
pub input_called : trace_of (defined (takes 2 1) false (call ∷ []) ∷ []) [] ≡ tells 0 NotKnown 10 (origin.Input 2 ∷ origin.Input 1 ∷ []) []
unfolding prim_numbered mark_eq
input_called = refl

-- : name ( x -- x ) 0 < [ 1 ] [ 1 2 ] if ;
pub branches_differ : trace_of (defined (takes 1 1) false (number 0 ∷ < ∷ quotation (number 1 ∷ []) ∷ quotation (number 1 ∷ number 2 ∷ []) ∷ if ∷ []) ∷ []) [] ≡ tells 0 (Branches 1 2) 19 (item 15 ∷ item 12 ∷ left 11 ∷ []) []
unfolding prim_numbered mark_eq
branches_differ = refl

-- : name ( x -- x ) dup 2 * swap ;
pub swap_keeps_names : trace_of (defined (takes 1 1) false (dup ∷ number 2 ∷ * ∷ swap ∷ []) ∷ []) [] ≡ tells 0 (Outputs 1 2) 2 (origin.Input 1 ∷ left 12 ∷ []) []
unfolding prim_numbered mark_eq
swap_keeps_names = refl

-- 1 2 3 \ name execute, where name ( x x x -- x x ) is defined: of several values each has its number
pub several_left : trace_of (defined (takes 3 2) false (drop ∷ []) ∷ []) (number 1 ∷ number 2 ∷ number 3 ∷ itself (own 0) ∷ execute ∷ call ∷ []) ≡ tells 1 NotKnown 7 (origin.Left 2 2 (token 6) ∷ origin.Left 1 2 (token 6) ∷ []) []
unfolding prim_numbered mark_eq
several_left = refl

-- t [ 1 ] [ 2 ] if call: the two ways leave other values
pub ways_join : trace_of [] (yes ∷ quotation (number 1 ∷ []) ∷ quotation (number 2 ∷ []) ∷ if ∷ call ∷ []) ≡ tells 0 NotKnown 9 (left 8 ∷ []) []
unfolding prim_numbered mark_eq
ways_join = refl

-- 5 t [ ] [ ] if call: they leave the same one
pub ways_keep : trace_of [] (number 5 ∷ yes ∷ quotation [] ∷ quotation [] ∷ if ∷ call ∷ []) ≡ tells 0 NotKnown 8 (item 1 ∷ []) []
unfolding prim_numbered mark_eq
ways_keep = refl

-- 1 2 [ + + ] curry call: the value of `curry` is left by the item that runs the callable
pub curry_puts : trace_of [] (number 1 ∷ number 2 ∷ quotation (plus ∷ plus ∷ []) ∷ curry ∷ call ∷ []) ≡ tells 0 (Underflow 2 1) 5 (left 4 ∷ []) (entry.Callable (token 3) (token 8) ∷ [])
unfolding prim_numbered mark_eq
curry_puts = refl

-- 1 :> a [ a call ] call: the value of a local is named where it is used
pub local_called : trace_of [] (number 1 ∷ bind 0 ∷ quotation (local 0 ∷ call ∷ []) ∷ call ∷ []) ≡ tells 0 NotKnown 6 (origin.Named (token 5) ∷ []) (entry.Callable (token 4) (token 8) ∷ [])
unfolding prim_numbered mark_eq
local_called = refl

-- 1 '[ _ call ] call: so is that of a hole
pub hole_called : trace_of [] (number 1 ∷ fried 1 (hole 0 ∷ call ∷ []) ∷ call ∷ []) ≡ tells 0 NotKnown 4 (origin.Named (token 3) ∷ []) (entry.Callable (token 2) (token 6) ∷ [])
unfolding prim_numbered mark_eq
hole_called = refl

-- : name ( x -- x ) [ 1 + ] [ drop + ] bi ;
pub way_into_a_word :
    trace_of (defined (takes 1 1) false (quotation (number 1 ∷ plus ∷ []) ∷ quotation (drop ∷ plus ∷ []) ∷ bi ∷ []) ∷ []) [] ≡
    tells 0 (Underflow 2 1) 16 (left 12 ∷ []) (entry.Callable (token 14) nowhere ∷ entry.Text (built_words + 3) (token 18) ∷ [])
unfolding prim_numbered mark_eq
way_into_a_word = refl

-- 3 [ 1 ] times: the callable leaves a value more than its row has
pub callable_leaves_more :
    trace_of [] (number 3 ∷ quotation (number 1 ∷ []) ∷ times ∷ []) ≡
    Some (own_number 0, record { rule = Rows 2 0 1; place = token 5; before = stack (item 2 ∷ item 1 ∷ []); callable = stack (item 3 ∷ []); way = [] })
unfolding prim_numbered mark_eq
callable_leaves_more = refl

-- : name ( ..a -- ..a ) ; without `inline`: a rule that needs no walk has no stack
pub rule_without_walk :
    trace_of (defined (signature (Some (codes "..a")) no_inputs (leaves (Some (codes "..a")) [])) false [] ∷ []) [] ≡
    Some (own_number 0, record { rule = RowDeclaration; place = token 2; before = None; callable = None; way = [] })
unfolding prim_numbered mark_eq
rule_without_walk = refl

-- 10 <iota> [ ] each: what the callable is given
pub callable_is_given :
    trace_of [] (number 10 ∷ <iota> ∷ quotation [] ∷ each ∷ []) ≡
    Some (own_number 0, record { rule = Rows 2 0 1; place = token 5; before = stack (item 3 ∷ left 2 ∷ []); callable = stack (origin.Given 2 1 (token 5) ∷ []); way = [] })
unfolding prim_numbered mark_eq
callable_is_given = refl

-- : name ( ..a q: ( ..a -- ..b ) -- ..b ) call call ; inline: the input was run, and its row lies below
pub row_lies_below :
    trace_of (defined (signature (Some (codes "..a")) (quoted x (signature (Some (codes "..a")) no_inputs (leaves (Some (codes "..b")) [])) no_inputs) (leaves (Some (codes "..b")) [])) true (call ∷ call ∷ []) ∷ []) [] ≡
    Some (own_number 0, record { rule = Underflow 1 0; place = token 11; before = Some (record { row = true; values = [] }); callable = None; way = [] })
unfolding prim_numbered mark_eq
row_lies_below = refl

-- : name ( x -- x ) 1 2 [ nip ] dip call ; `dip` puts back what came from where it came from
pub dip_puts_back : trace_of (defined (takes 1 1) false (number 1 ∷ number 2 ∷ quotation (nip ∷ []) ∷ dip ∷ call ∷ []) ∷ []) [] ≡ tells 0 NotKnown 16 (item 11 ∷ item 10 ∷ []) []
unfolding prim_numbered mark_eq
dip_puts_back = refl

-- 1 \ name boa, where name is an ordinary word
pub no_class : trace_of (defined (takes 0 0) false [] ∷ []) (number 1 ∷ itself (own 0) ∷ boa ∷ []) ≡ tells 1 NotAClass 4 (item 2 ∷ item 1 ∷ []) []
unfolding prim_numbered mark_eq
no_class = refl

-- nothing is told of what is accepted
pub nothing_refused : trace_of (defined (takes 1 1) false (dup ∷ * ∷ []) ∷ []) (number 2 ∷ own 0 ∷ []) ≡ None
unfolding prim_numbered mark_eq
nothing_refused = refl
