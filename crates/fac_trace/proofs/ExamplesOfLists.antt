-- Examples of the lines in which a stack, and the way to a fault, are told.
use Rattle.std.proofs.Common.{◌≡◌, ℕ, ◌-◌, List, [], ◌∷◌, ◌++◌, true, false, Some, None, refl}
use Rattle.std.specs.Prelude.{codes, decimal, slice_get}
use Rattle.std.specs.Fmt.{digits}
use Rattle.fac_base.specs.declared.place.Place.{Place}
use Rattle.fac_lang.specs.Procedures.{or_else}
use Rattle.fac_abs.specs.declared.rule.Rule.TheVariants.{Underflow, Outputs, Rows}
use Rattle.fac_trace.specs.declared.origin.Origin.{Origin}
use Rattle.fac_trace.specs.declared.origin.Origin.TheVariants as origin
use Rattle.fac_trace.specs.declared.origin.Entry.TheVariants as entry
use Rattle.fac_trace.specs.Traced.{Fault}
use Rattle.fac_trace.specs.Lists.{Line, Spelled, values_lines, fault_lines}

-- a source of these tokens
abbrev tokens : List (List ℕ)
tokens = codes "1" ∷ codes "[" ∷ codes "\\" ∷ codes "sq" ∷ codes "+" ∷ codes "'[" ∷ codes "{" ∷ codes "a" ∷ codes "each" ∷ codes "[|" ∷ []

abbrev place : ℕ → Place
place n = record { file = 1; token = n }

abbrev spelled : Spelled
spelled =
    record {
      at = λ p. codes "token " ++ decimal p.token;
      token = λ p. or_else [] (slice_get tokens (p.token - 1));
      input = λ k. codes "input " ++ decimal k;
      given = λ p i k. codes "value " ++ decimal k;
      name = λ w. codes "bi";
      checked = codes "scratchpad:name";
    }

abbrev lines : List Origin → List Line
lines os = values_lines spelled (codes "Stack:") false os

pub each_origin :
    lines (origin.Left 1 1 (place 5) ∷ origin.Left 2 3 (place 5) ∷ origin.Item (place 1) ∷ origin.Item (place 2) ∷ origin.Item (place 3) ∷ origin.Item (place 6) ∷ origin.Item (place 7) ∷ origin.Named (place 8) ∷ []) ≡
    codes "Stack:" ∷ codes "    left by +, token 5" ∷ codes "    2 of 3 left by +, token 5" ∷ codes "    1, token 1" ∷ codes "    the quotation at token 2" ∷ codes "    the word sq, token 3" ∷ codes "    the fry at token 6" ∷ codes "    the array at token 7" ∷ codes "    the value of a, token 8" ∷ []
unfolding digits
each_origin = refl

pub inputs_and_given :
    lines (origin.Input 2 ∷ origin.Given 2 1 (place 9) ∷ origin.Item (place 10) ∷ []) ≡
    codes "Stack:" ∷ codes "    input 2, an input of scratchpad:name" ∷ codes "    value 1, given by each, token 9" ∷ codes "    the quotation at token 10" ∷ []
unfolding digits
inputs_and_given = refl

pub nothing_there : lines [] ≡ codes "Stack: nothing." ∷ []
unfolding digits
nothing_there = refl

pub nothing_above : values_lines spelled (codes "Stack:") true [] ≡ codes "Stack: nothing above the row." ∷ []
unfolding digits
nothing_above = refl

abbrev one : Origin
one = origin.Item (place 1)

pub more_than_eight :
    values_lines spelled (codes "Stack:") true (one ∷ one ∷ one ∷ one ∷ one ∷ one ∷ one ∷ one ∷ one ∷ one ∷ []) ≡
    codes "Stack:" ∷ codes "    1, token 1" ∷ codes "    1, token 1" ∷ codes "    1, token 1" ∷ codes "    1, token 1" ∷ codes "    1, token 1" ∷ codes "    1, token 1" ∷ codes "    1, token 1" ∷ codes "    1, token 1" ∷ codes "    and 2 more" ∷ codes "    the row" ∷ []
unfolding digits
more_than_eight = refl

-- [ + ] run by the text of another word
abbrev inside : Fault
inside = record { rule = Underflow 2 1; place = place 5; before = Some (record { row = false; values = one ∷ [] }); callable = None; way = entry.Callable (place 2) (place 9) ∷ entry.Text 7 (place 8) ∷ [] }

pub way_behind_stack :
    fault_lines spelled inside ≡
    codes "On the stack before it, from the top:" ∷ codes "    1, token 1" ∷ codes "in the quotation at token 2, run by each, token 9" ∷ codes "in the text of bi, used at token 8" ∷ []
unfolding digits
way_behind_stack = refl

abbrev too_many : Fault
too_many = record { rule = Outputs 0 1; place = place 1; before = Some (record { row = false; values = one ∷ [] }); callable = None; way = [] }

pub stack_at_end : fault_lines spelled too_many ≡ codes "On the stack at its end, from the top:" ∷ codes "    1, token 1" ∷ []
unfolding digits
stack_at_end = refl

abbrev other_row : Fault
other_row = record { rule = Rows 2 0 1; place = place 9; before = Some (record { row = false; values = [] }); callable = Some (record { row = false; values = one ∷ [] }); way = [] }

pub callable_behind : fault_lines spelled other_row ≡ codes "On the stack before it, from the top: nothing." ∷ codes "Behind the callable, from the top:" ∷ codes "    1, token 1" ∷ []
unfolding digits
callable_behind = refl
