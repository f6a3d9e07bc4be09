-- How a use of a row word binds its rows, and what they are inside the row word.
use Rattle.std.specs.Prelude.{ℕ, suc, ◌+◌, List, [], ◌∷◌, length, drop, Bool, true, false, ◌&&◌, not, nat_eq, nat_lt, Option, Some, None}
use Rattle.fac_lang.specs.Phrases.{Mark, any, par_mark}
use Rattle.fac_base.specs.Signatures.{Signature, signature, Inputs, no_inputs, value, quoted, Leaving, never, leaves}
use Rattle.fac_base.specs.Effects.{inputs_count}
use Rattle.fac_abs.specs.RowVariables.{Row, named_row, row_eq, leaving_row, effect_inputs, effect_leaving, outer_in, outer_out, input_effect}
use Rattle.fac_abs.specs.Marks.{AbstractStack, dead, on, base_eq, mark_eq, unknowns, popped, cover_marks, is_callable}
use Rattle.fac_abs.specs.declared.rule.Rule.{Rule}
use Rattle.fac_abs.specs.declared.rule.Rule.TheVariants.{Underflow, RecursiveInput, Rows}

-- the rows that are bound so far, the latest first
abbrev pub Binding : Type 0
Binding = List (Row × AbstractStack)

-- rows are bound to stacks of marks, or to stacks by their numbers
module _ {A : Type 0} where
  -- what a row is bound to
  abbrev pub bound_to : Row → List (Row × A) → Option A
  bound_to r [] = None
  bound_to r (b ∷ bs) = elim (row_eq r b.0) [ true ↦ Some b.1 | false ↦ bound_to r bs ]

  -- the outer input row, where there is one, is bound to what lies below the inputs
  abbrev pub row_binding : Option Row → A → List (Row × A)
  row_binding None below = []
  row_binding (Some r) below = (r, below) ∷ []

-- What a quotation input left, against its declared output: the rows as they are bound then, or a broken rule.
pub data Tied : Type 0 where
  tied : Binding → Tied
  untied : Rule → Tied

-- bound so where the test holds
abbrev pub tied_if : Bool → Binding → Rule → Tied
tied_if true bs r = tied bs
tied_if false bs r = untied r

-- Against a row that is bound: the same base, the same length with the outputs, and marks that cover those below the outputs. A row bound to a dead stack covers none.
abbrev pub tie_bound : ℕ → ℕ → AbstractStack → Option Row → List Mark → Binding → Tied
tie_bound k outs dead b ms bs = untied (Rows k outs (length ms))
tie_bound k outs (on c rs) b ms bs = tied_if (base_eq c b && (nat_eq (length ms) (length rs + outs) && cover_marks rs (drop outs ms))) bs (Rows k (length rs + outs) (length ms))

-- a free row becomes what is left below the outputs
abbrev pub tie_free : ℕ → ℕ → Row → Option Row → List Mark → Binding → Tied
tie_free k outs r b ms bs = tied_if (not (nat_lt (length ms) outs)) ((r, on b (drop outs ms)) ∷ bs) (Rows k outs (length ms))

-- against a row; a dead stack is what every bound row covers
abbrev pub tie_row : ℕ → ℕ → Row → Option AbstractStack → AbstractStack → Binding → Tied
tie_row k outs r None dead bs = tied ((r, dead) ∷ bs)
tie_row k outs r None (on b ms) bs = tie_free k outs r b ms bs
tie_row k outs r (Some A) dead bs = tied bs
tie_row k outs r (Some A) (on b ms) bs = tie_bound k outs A b ms bs

-- What input k left, which starts from this row, against its declared outputs. One that is declared never to return must be dead. One without rows is walked over no base and leaves its number of outputs. An effect with a row on one side alone can't be bound.
abbrev pub tie : ℕ → Option (List ℕ) → Leaving → AbstractStack → Binding → Tied
tie k y never dead bs = tied bs
tie k y never (on b ms) bs = untied (Rows k 0 (length ms))
tie k None (leaves None names) dead bs = tied bs
tie k None (leaves None names) (on b ms) bs = tied_if (base_eq b None && nat_eq (length ms) (length names)) bs (Rows k (length names) (length ms))
tie k None (leaves (Some x) names) A bs = untied (Rows k 0 0)
tie k (Some y) (leaves None names) A bs = untied (Rows k 0 0)
tie k (Some y) (leaves (Some x) names) A bs = tie_row k (length names) (named_row x) (bound_to (named_row x) bs) A bs

-- a stack, or a dead one where there is none
abbrev pub stack_or_dead : Option AbstractStack → AbstractStack
stack_or_dead None = dead
stack_or_dead (Some A) = A

-- the stack from which a quotation input is walked, without its named inputs; None is a row that nothing bound
abbrev pub start_row : Option (List ℕ) → Binding → Option AbstractStack
start_row None bs = Some (on None [])
start_row (Some x) bs = bound_to (named_row x) bs

-- whether the marks of the quotation inputs are callable
abbrev pub inputs_known : Inputs → List Mark → Bool
inputs_known no_inputs ms = true
inputs_known (value x is) [] = false
inputs_known (value x is) (m ∷ ms) = inputs_known is ms
inputs_known (quoted x e is) [] = false
inputs_known (quoted x e is) (m ∷ ms) = is_callable m && inputs_known is ms

-- the first quotation input of the own recursive call, from number k on, that isn't the word's own input of that place
abbrev pub other_input : ℕ → Inputs → List Mark → Option ℕ
other_input k no_inputs ms = None
other_input k (value x is) [] = None
other_input k (value x is) (m ∷ ms) = other_input (suc k) is ms
other_input k (quoted x e is) [] = None
other_input k (quoted x e is) (m ∷ ms) = elim (mark_eq m (par_mark k)) [ true ↦ other_input (suc k) is ms | false ↦ Some k ]

-- what an effect leaves on a row or on what is left of a stack
abbrev pub leaving_on : Leaving → Option Row → List Mark → AbstractStack
leaving_on never b ms = dead
leaving_on (leaves r names) b ms = on b (unknowns (length names) ms)

-- What calling an input inside its row word comes to.
pub data Called : Type 0 where
  call_breaks : Rule → Called
  call_leaves : AbstractStack → Called

-- leaves this stack where the test holds
abbrev pub called_if : Bool → AbstractStack → Rule → Called
called_if true A r = call_leaves A
called_if false A r = call_breaks r

-- Calling input k, which has this effect. With rows it needs its input row as base with exactly its inputs on it, and gives its output row. Without rows it takes its inputs on any base.
abbrev pub calls_input : ℕ → Signature → Option Row → List Mark → Called
calls_input k (signature (Some x) is l) b ms =
    called_if (base_eq b (Some (named_row x)) && nat_eq (length ms) (inputs_count is)) (leaving_on l (leaving_row l) []) (Rows k (inputs_count is) (length ms))
calls_input k (signature None is l) b ms =
    called_if (not (nat_lt (length ms) (inputs_count is))) (leaving_on l b (drop (inputs_count is) ms)) (Rows k (inputs_count is) (length ms))

-- calling input k of the row word with this effect
abbrev pub calls_own : ℕ → Option Signature → Option Row → List Mark → Called
calls_own k None b ms = call_breaks (Rows k 0 (length ms))
calls_own k (Some e) b ms = elim (input_effect k (effect_inputs e)) [ Some q ↦ calls_input k q b ms | None ↦ call_breaks (Rows k 0 (length ms)) ]

-- the own recursive call stands on the outer input row, with nothing below its inputs
abbrev pub own_rest_call : Signature → Option Row → List Mark → Called
own_rest_call e b rest = called_if (base_eq b (outer_in e) && nat_eq (length rest) 0) (leaving_on (effect_leaving e) (outer_out e) []) (Rows 0 0 (length rest))

-- the own recursive call on the marks of its inputs, the deepest first, and the rest
abbrev pub own_inputs_call : Signature → Option Row → List Mark → List Mark → Called
own_inputs_call e b taken rest = elim (other_input 1 (effect_inputs e) taken) [ Some k ↦ call_breaks (RecursiveInput k) | None ↦ own_rest_call e b rest ]

-- the own recursive call of the row word with this effect
abbrev pub own_call : Signature → Option Row → List Mark → Called
own_call e b ms = elim (popped (inputs_count (effect_inputs e)) [] ms) [ Some r ↦ own_inputs_call e b r.0 r.1 | None ↦ call_breaks (Underflow (inputs_count (effect_inputs e)) (length ms)) ]

-- what an outer row is bound to
abbrev pub row_bound : Option Row → Binding → Option AbstractStack
row_bound None bs = None
row_bound (Some r) bs = bound_to r bs

-- what a row word leaves, where its rows are bound so
abbrev pub row_result : Signature → Binding → AbstractStack
row_result e bs = elim (stack_or_dead (row_bound (outer_out e) bs)) [ dead ↦ dead | on b ms ↦ leaving_on (effect_leaving e) b ms ]

-- the marks of a row word's inputs, from input k on, put on others
abbrev pub inputs_marks : ℕ → Inputs → List Mark → List Mark
inputs_marks k no_inputs ms = ms
inputs_marks k (value x is) ms = inputs_marks (suc k) is (any ∷ ms)
inputs_marks k (quoted x e is) ms = inputs_marks (suc k) is (par_mark k ∷ ms)
