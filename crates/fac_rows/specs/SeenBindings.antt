-- Rows that are bound to stacks by their numbers, and calls inside a row word, as contracts see them.
use Rattle.std.specs.Prelude.{ℕ, List, [], ◌∷◌, Option, Some, None, ◌≡◌}
use Rattle.fac_lang.specs.Phrases.{Mark}
use Rattle.fac_base.specs.Signatures.{Signature}
use Rattle.fac_base.specs.Effects.{inputs_count}
use Rattle.fac_abs.specs.RowVariables.{Row, effect_inputs, effect_leaving, row_name}
use Rattle.fac_abs.specs.Marks.{dead, on, unknowns, popped}
use Rattle.fac_abs.specs.MarkTrees.{Naming}
use Rattle.fac_abs.specs.SeenMarks.{MarksSeen, stack_of, base_seen, reached_seen, IsStack, IsReached}
use Rattle.fac_abs.specs.declared.reached.Reached.{Reached}
use Rattle.fac_abs.specs.declared.reached.Reached.TheVariants.{Dead, On}
use Rattle.fac_abs.specs.declared.rule.Rule.{Rule}
use Rattle.fac_rows.specs.declared.called.Called.{Called}
use Rattle.fac_rows.specs.declared.called.Called.TheVariants.{Breaks, Leaves}
use Rattle.fac_rows.specs.declared.taken.TakenInputs.{TakenInputs}
use Rattle.fac_rows.specs.RowBinding.{Binding, tied, untied, tie, start_row, Called as CallOf, call_breaks, call_leaves}

module _ (N : Naming) (M : MarksSeen) where
  -- what rows are bound to, as stacks of marks
  abbrev pub binding_seen : List (Row × Reached) → Binding
  binding_seen [] = []
  binding_seen (b ∷ bs) = (b.0, reached_seen N M b.1) ∷ binding_seen bs

  -- what a call inside a row word comes to
  abbrev pub called_seen : Called → CallOf
  called_seen (Breaks r) = call_breaks r
  called_seen (Leaves A) = call_leaves (reached_seen N M A)

-- the stacks to which rows are bound are there
abbrev pub IsBinding : MarksSeen → List (Row × Reached) → Type 0
IsBinding M [] = Unit {0}
IsBinding M (b ∷ bs) = IsReached M b.1 × IsBinding M bs

-- the stack that a call leaves is there
abbrev pub IsCalled : MarksSeen → Called → Type 0
IsCalled M (Breaks r) = Unit {0}
IsCalled M (Leaves A) = IsReached M A

-- the rule that a call breaks, where it does
abbrev pub rule_of_call : CallOf → Option Rule
rule_of_call c = elim c [ call_breaks r ↦ Some r | call_leaves A ↦ None ]

-- so many values are taken off a stack: the marks of those taken, the deepest on top, and the rest
abbrev pub IsTaken : MarksSeen → MarksSeen → ℕ → ℕ → Option TakenInputs → Type 0
IsTaken M L n s None = (N : Naming) → popped n [] (stack_of N M s) ≡ None
IsTaken M L n s (Some t) = IsStack L t.inputs × IsStack L t.rest × ((N : Naming) → popped n [] (stack_of N M s) ≡ Some (stack_of N L t.inputs, stack_of N L t.rest))

-- from what a quotation input with this effect is walked, its named inputs unknown values on its row; nothing where its row isn't bound
abbrev pub IsStart : MarksSeen → MarksSeen → List (Row × Reached) → Signature → Option Reached → Type 0
IsStart M L bs e None = (N : Naming) → start_row (row_name e) (binding_seen N M bs) ≡ None
IsStart M L bs e (Some Dead) = (N : Naming) → start_row (row_name e) (binding_seen N M bs) ≡ Some dead
IsStart M L bs e (Some (On b s)) =
    IsStack L s × ((N : Naming) → (ms : List Mark) × (start_row (row_name e) (binding_seen N M bs) ≡ Some (on (base_seen N b) ms)) × (stack_of N L s ≡ unknowns (inputs_count (effect_inputs e)) ms))

-- what a quotation input with this effect left is tied to the rows that are bound, or breaks a rule and they stay bound as they were
abbrev pub IsTie : MarksSeen → ℕ → Signature → Reached → List (Row × Reached) → List (Row × Reached) → Option Rule → Type 0
IsTie M k e A bs cs None = IsBinding M cs × ((N : Naming) → tie k (row_name e) (effect_leaving e) (reached_seen N M A) (binding_seen N M bs) ≡ tied (binding_seen N M cs))
IsTie M k e A bs cs (Some r) = (cs ≡ bs) × ((N : Naming) → tie k (row_name e) (effect_leaving e) (reached_seen N M A) (binding_seen N M bs) ≡ untied r)
