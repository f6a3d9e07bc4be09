-- How rows are bound and numbered, and what calls inside a row word come to, computed.
use Rattle.std.specs.Prelude.{◌≡◌, ℕ, List, [], ◌∷◌, codes, true, false, Some, None, refl}
use Rattle.fac_lang.specs.Phrases.{Mark, any, wrd_mark, par_mark}
use Rattle.fac_base.specs.Signatures.{Signature, signature, no_inputs, value, quoted, never, leaves}
use Rattle.fac_abs.specs.RowVariables.{Row, hidden, named_row}
use Rattle.fac_abs.specs.Marks.{mark_eq, AbstractStack, dead, on}
use Rattle.fac_abs.specs.declared.rule.Rule.TheVariants.{Underflow, RecursiveInput, Rows}
use Rattle.fac_rows.specs.RowBinding.{Binding, Tied, tied, untied, tie, start_row, inputs_known, call_breaks, call_leaves, calls_own, own_call, row_binding, row_result, inputs_marks}
use Rattle.fac_rows.specs.RowNumbers.{row_number}

-- the rows `..a`, `..b` and `..c`, and the name of a value
abbrev a : List ℕ
a = codes "..a"

abbrev b : List ℕ
b = codes "..b"

abbrev c : List ℕ
c = codes "..c"

abbrev x : List ℕ
x = codes "x"

-- on the row `..c` of the word that is checked
abbrev on_c : List Mark → AbstractStack
on_c ms = on (Some (named_row c)) ms

-- `..a` is bound to one value with a known mark, or to one of which nothing is known
abbrev known : Binding
known = (named_row a, on_c (wrd_mark 7 ∷ [])) ∷ []

abbrev unknown : Binding
unknown = (named_row a, on_c (any ∷ [])) ∷ []

-- Input 1 with the effect ( ..a -- ..a x ).
abbrev loops : AbstractStack → Binding → Tied
loops A bs = tie 1 (Some a) (leaves (Some a) (x ∷ [])) A bs

loop_keeps : loops (on_c (any ∷ wrd_mark 7 ∷ [])) known ≡ tied known
unfolding mark_eq
loop_keeps = refl

-- it leaves another number of values, or another mark
loop_leaves_more : loops (on_c (any ∷ any ∷ wrd_mark 7 ∷ [])) known ≡ untied (Rows 1 2 3)
loop_leaves_more = refl

loop_leaves_less : loops (on_c (any ∷ [])) known ≡ untied (Rows 1 2 1)
loop_leaves_less = refl

loop_changes_mark : loops (on_c (any ∷ any ∷ [])) known ≡ untied (Rows 1 2 2)
unfolding mark_eq
loop_changes_mark = refl

-- nothing known covers each mark
loop_covers : loops (on_c (any ∷ wrd_mark 7 ∷ [])) unknown ≡ tied unknown
unfolding mark_eq
loop_covers = refl

-- another base
loop_on_other_row : loops (on (Some (named_row b)) (any ∷ wrd_mark 7 ∷ [])) known ≡ untied (Rows 1 2 2)
loop_on_other_row = refl

loop_on_no_row : loops (on None (any ∷ wrd_mark 7 ∷ [])) known ≡ untied (Rows 1 2 2)
loop_on_no_row = refl

-- every row covers what never returns, and a row that never returns covers nothing else
loop_never_returns : loops dead known ≡ tied known
loop_never_returns = refl

loop_on_dead_row : loops (on_c (any ∷ any ∷ any ∷ [])) ((named_row a, dead) ∷ []) ≡ untied (Rows 1 1 3)
loop_on_dead_row = refl

-- Input 2 with the effect ( ..a -- ..b x ), where `..b` is free: it is bound to what stands below the output.
abbrev frees : AbstractStack → Tied
frees A = tie 2 (Some a) (leaves (Some b) (x ∷ [])) A known

free_row : frees (on_c (any ∷ wrd_mark 1 ∷ wrd_mark 2 ∷ [])) ≡ tied ((named_row b, on_c (wrd_mark 1 ∷ wrd_mark 2 ∷ [])) ∷ known)
free_row = refl

free_row_too_few : frees (on_c []) ≡ untied (Rows 2 1 0)
free_row_too_few = refl

free_row_dead : frees dead ≡ tied ((named_row b, dead) ∷ known)
free_row_dead = refl

-- Input 3 with the effect ( -- x ), which is walked over no base.
abbrev closes : AbstractStack → Tied
closes A = tie 3 None (leaves None (x ∷ [])) A known

closed_leaves_one : closes (on None (any ∷ [])) ≡ tied known
closed_leaves_one = refl

closed_leaves_more : closes (on None (any ∷ any ∷ [])) ≡ untied (Rows 3 1 2)
closed_leaves_more = refl

closed_leaves_none : closes (on None []) ≡ untied (Rows 3 1 0)
closed_leaves_none = refl

closed_never_returns : closes dead ≡ tied known
closed_never_returns = refl

-- an input that is declared never to return, and does
returns_though : tie 4 (Some a) never (on_c (any ∷ any ∷ [])) known ≡ untied (Rows 4 0 2)
returns_though = refl

never_returns : tie 4 (Some a) never dead known ≡ tied known
never_returns = refl

-- a row on one side alone
row_on_the_left : tie 5 (Some a) (leaves None (x ∷ [])) (on_c (any ∷ [])) known ≡ untied (Rows 5 0 0)
row_on_the_left = refl

row_on_the_right : tie 5 None (leaves (Some a) (x ∷ [])) dead known ≡ untied (Rows 5 0 0)
row_on_the_right = refl

-- from what an input is walked
starts_on_row : start_row (Some a) known ≡ Some (on_c (wrd_mark 7 ∷ []))
starts_on_row = refl

starts_on_no_row : start_row None known ≡ Some (on None [])
starts_on_no_row = refl

starts_nowhere : start_row (Some b) known ≡ None
starts_nowhere = refl

-- The effect ( ..a x q: ( ..a x -- ..b x ) -- ..b ), whose second input is a quotation.
abbrev chooses : Signature
chooses = signature (Some a) (value x (quoted x (signature (Some a) (value x no_inputs) (leaves (Some b) (x ∷ []))) no_inputs)) (leaves (Some b) [])

-- its inputs at its own walk
own_inputs : inputs_marks 1 (value x (quoted x chooses no_inputs)) [] ≡ par_mark 2 ∷ any ∷ []
own_inputs = refl

-- which inputs have to be callable: the second, and not the first
inputs_callable : inputs_known (value x (quoted x chooses no_inputs)) (any ∷ par_mark 2 ∷ []) ≡ true
inputs_callable = refl

inputs_not_callable : inputs_known (value x (quoted x chooses no_inputs)) (par_mark 2 ∷ any ∷ []) ≡ false
inputs_not_callable = refl

-- calls of the quotation inside the word: exactly its inputs, on its input row
called_right : calls_own 2 (Some chooses) (Some (named_row a)) (any ∷ []) ≡ call_leaves (on (Some (named_row b)) (any ∷ []))
called_right = refl

called_on_too_few : calls_own 2 (Some chooses) (Some (named_row a)) [] ≡ call_breaks (Rows 2 1 0)
called_on_too_few = refl

called_on_too_many : calls_own 2 (Some chooses) (Some (named_row a)) (any ∷ any ∷ []) ≡ call_breaks (Rows 2 1 2)
called_on_too_many = refl

called_on_other_row : calls_own 2 (Some chooses) (Some (named_row b)) (any ∷ []) ≡ call_breaks (Rows 2 1 1)
called_on_other_row = refl

-- an input that is no quotation, and no row word at all
called_value : calls_own 1 (Some chooses) (Some (named_row a)) (any ∷ []) ≡ call_breaks (Rows 1 0 1)
called_value = refl

called_nowhere : calls_own 1 None None (any ∷ any ∷ []) ≡ call_breaks (Rows 1 0 2)
called_nowhere = refl

-- a quotation without rows takes its inputs on any base, and one that never returns leaves nothing
called_without_rows : calls_own 1 (Some (signature None (quoted x (signature None (value x no_inputs) (leaves None (x ∷ x ∷ []))) no_inputs) (leaves None []))) (Some hidden) (any ∷ wrd_mark 3 ∷ []) ≡ call_leaves (on (Some hidden) (any ∷ any ∷ wrd_mark 3 ∷ []))
called_without_rows = refl

called_without_values : calls_own 1 (Some (signature None (quoted x (signature None (value x no_inputs) (leaves None [])) no_inputs) (leaves None []))) (Some hidden) [] ≡ call_breaks (Rows 1 1 0)
called_without_values = refl

called_for_ever : calls_own 1 (Some (signature None (quoted x (signature None no_inputs never) no_inputs) (leaves None []))) (Some hidden) (any ∷ []) ≡ call_leaves dead
called_for_ever = refl

-- The own recursive call of that word: the own quotation in its place, and nothing below on the outer input row.
recursion_right : own_call chooses (Some (named_row a)) (par_mark 2 ∷ any ∷ []) ≡ call_leaves (on (Some (named_row b)) [])
unfolding mark_eq
recursion_right = refl

recursion_on_too_few : own_call chooses (Some (named_row a)) (par_mark 2 ∷ []) ≡ call_breaks (Underflow 2 1)
recursion_on_too_few = refl

recursion_with_other_quotation : own_call chooses (Some (named_row a)) (wrd_mark 1 ∷ any ∷ []) ≡ call_breaks (RecursiveInput 2)
unfolding mark_eq
recursion_with_other_quotation = refl

recursion_with_other_input : own_call chooses (Some (named_row a)) (par_mark 1 ∷ any ∷ []) ≡ call_breaks (RecursiveInput 2)
unfolding mark_eq
recursion_with_other_input = refl

recursion_on_more : own_call chooses (Some (named_row a)) (par_mark 2 ∷ any ∷ any ∷ any ∷ any ∷ []) ≡ call_breaks (Rows 0 0 3)
unfolding mark_eq
recursion_on_more = refl

recursion_on_other_row : own_call chooses (Some (named_row b)) (par_mark 2 ∷ any ∷ []) ≡ call_breaks (Rows 0 0 0)
unfolding mark_eq
recursion_on_other_row = refl

-- without row variables it stands on the hidden row
recursion_on_hidden_row : own_call (signature None (value x no_inputs) (leaves None (x ∷ x ∷ []))) (Some hidden) (any ∷ []) ≡ call_leaves (on (Some hidden) (any ∷ any ∷ []))
recursion_on_hidden_row = refl

-- What a use leaves: its outputs on its outer output row.
use_leaves : row_result (signature (Some a) no_inputs (leaves (Some a) (x ∷ []))) known ≡ on_c (any ∷ wrd_mark 7 ∷ [])
use_leaves = refl

use_of_dead_row : row_result (signature (Some a) no_inputs (leaves (Some b) (x ∷ []))) ((named_row b, dead) ∷ known) ≡ dead
use_of_dead_row = refl

use_that_never_returns : row_result (signature (Some a) no_inputs never) known ≡ dead
use_that_never_returns = refl

use_of_hidden_row : row_result (signature None no_inputs (leaves None (x ∷ []))) (row_binding (Some hidden) (on_c (wrd_mark 5 ∷ []))) ≡ on_c (any ∷ wrd_mark 5 ∷ [])
use_of_hidden_row = refl

-- The numbers of the rows of ( ..a q: ( ..a -- ..c ) p: ( ..b -- ..c ) -- ..b ): each is that of its first side.
abbrev numbered : Row → ℕ
numbered r = row_number (signature (Some a) (quoted x (signature (Some a) no_inputs (leaves (Some c) [])) (quoted x (signature (Some b) no_inputs (leaves (Some c) [])) no_inputs)) (leaves (Some b) [])) r

number_of_hidden_row : numbered hidden ≡ 0
number_of_hidden_row = refl

number_of_input_row : numbered (named_row a) ≡ 1
number_of_input_row = refl

number_of_output_row : numbered (named_row b) ≡ 2
number_of_output_row = refl

number_of_inner_row : numbered (named_row c) ≡ 4
number_of_inner_row = refl
