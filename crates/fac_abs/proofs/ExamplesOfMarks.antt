-- Small tables of marks and stacks.
use Rattle.std.proofs.Common.{◌≡◌, ℕ, suc, max, List, [], ◌∷◌, true, false, Some, None, map, slice_get, refl, ap}
use Rattle.fac_lang.specs.Phrases.{Phrase, end, then, known, Literal, Mark, any, lit_mark, cur_mark, com_mark, wrd_mark, par_mark}
use Rattle.fac_abs.specs.declared.stack_nodes.StackNode.{StackNode}
use Rattle.fac_abs.specs.declared.mark_node.MarkNode.TheVariants.{Any, Lit, Cur, Com}
use Rattle.fac_abs.specs.InTurn.{under, moved}
use Rattle.fac_abs.specs.inner.Stacks.{zeros, joined_numbers, cover_numbers, stacks_of}
use Rattle.fac_abs.specs.RowVariables.{hidden, named_row}
use Rattle.fac_abs.specs.Marks.{dead, on, piled, mark_depth, phrase_marks, deepest, mark_eq, curried_mark, composed_mark, cover_marks, joined, covered}
use Rattle.fac_abs.specs.MarkTrees.{Naming, trees}
use Rattle.fac_abs.specs.inner.Interning.{deepest_of}
use Rattle.fac_abs.specs.SeenMarks.{MarksSeen, mark_of, cells_of, frame_of, numbers_of, stack_of, is_mark, is_frame, is_stack}

rows_apart : (j k : ℕ) → named_row (j ∷ []) ≡ named_row (k ∷ []) → j ≡ k
rows_apart j k e = cc

-- a phrase of known marks
abbrev knowns : List Mark → Phrase
knowns [] = end
knowns (m ∷ ms) = then (known m) (record { file = 0; token = 0 }) (knowns ms)

knowns_apart : (ms ns : List Mark) → knowns ms ≡ knowns ns → ms ≡ ns
knowns_apart [] [] e = refl
knowns_apart [] (n ∷ ns) e = absurd (cc)
knowns_apart (m ∷ ms) [] e = absurd (cc)
knowns_apart (m ∷ ms) (n ∷ ns) e =
    let first : m ≡ n = cc in
    let rest : knowns ms ≡ knowns ns = cc in
    rw (first, knowns_apart ms ns rest) refl

knowns_marked : (ms : List Mark) → phrase_marks (knowns ms) ≡ deepest ms
knowns_marked [] = refl
knowns_marked (m ∷ ms) = ap (max (suc (mark_depth m))) (knowns_marked ms)

-- template k is literal k of word 0, whose phrase is what its cells know; row k is named by one character
abbrev sample : Naming
sample = record {
  literal = λ k. record { word = 0; around = []; index = k };
  apart = λ j k e. ap (λ (l : Literal). l.index) e;
  phrase = λ k ms. knowns ms;
  cells_apart = λ k. knowns_apart;
  marked = λ k. knowns_marked;
  row = λ k. named_row (k ∷ []);
  rows_apart = rows_apart;
}

abbrev five : Mark
five = lit_mark (record { word = 0; around = []; index = 5 }) end

-- nothing known, a literal, what `curry` makes of these two, what `compose` makes of that twice, and a literal with two cells; and four stack nodes
abbrev stack_nodes : List StackNode
stack_nodes = record { mark = 1; below = 0; height = 1 } ∷ record { mark = 3; below = 1; height = 2 } ∷ record { mark = 2; below = 1; height = 2 } ∷ record { mark = 0; below = 3; height = 3 } ∷ []

-- the frame of one cell, and that of one more
abbrev frame_nodes : List StackNode
frame_nodes = record { mark = 1; below = 0; height = 1 } ∷ record { mark = 2; below = 1; height = 2 } ∷ []

abbrev table : MarksSeen
table = record { templates = 6; nodes = Any ∷ Lit 5 0 ∷ Cur 0 1 ∷ Com 2 2 ∷ Lit 4 2 ∷ []; frames = stacks_of frame_nodes; stacks = stacks_of stack_nodes }

stacks_share_what_lies_below : stacks_of stack_nodes ≡ [] ∷ (1 ∷ []) ∷ (3 ∷ 1 ∷ []) ∷ (2 ∷ 1 ∷ []) ∷ (0 ∷ 2 ∷ 1 ∷ []) ∷ []
stacks_share_what_lies_below = refl

first_is_any : mark_of sample table 0 ≡ any
unfolding mark_of
first_is_any = refl

parts_are_trees : mark_of sample table 3 ≡ com_mark (cur_mark any five) (cur_mark any five)
unfolding mark_of
parts_are_trees = refl

no_mark_is_any : mark_of sample table 5 ≡ any
unfolding mark_of
no_mark_is_any = refl

-- the last cell comes first
cells_are_put : mark_of sample table 4 ≡ lit_mark (record { word = 0; around = []; index = 4 }) (knowns (cur_mark any five ∷ five ∷ []))
unfolding mark_of
cells_are_put = refl

frame_last_first : frame_of sample table 2 ≡ cur_mark any five ∷ five ∷ []
unfolding frame_of cells_of mark_of
frame_last_first = refl

frame_is_there : is_frame table 2 ≡ true
unfolding is_frame cells_of
frame_is_there = refl

frame_is_not_there : is_frame table 3 ≡ false
unfolding is_frame cells_of
frame_is_not_there = refl

depths_by_parts : map mark_depth (trees sample table.frames table.nodes) ≡ 0 ∷ 0 ∷ 1 ∷ 2 ∷ 2 ∷ []
depths_by_parts = refl

deepest_cell : deepest_of (0 ∷ 0 ∷ 1 ∷ []) (2 ∷ 1 ∷ []) ≡ 2
deepest_cell = refl

no_cells_no_depth : deepest_of (0 ∷ 0 ∷ 1 ∷ []) [] ≡ 0
no_cells_no_depth = refl

-- cell 0 is the first
first_cell : slice_get (piled (frame_of sample table 2) []) 0 ≡ Some five
unfolding frame_of cells_of mark_of
first_cell = refl

top_first : stack_of sample table 4 ≡ any ∷ cur_mark any five ∷ five ∷ []
unfolding stack_of numbers_of mark_of
top_first = refl

no_stack_is_empty : stack_of sample table 5 ≡ []
unfolding stack_of numbers_of mark_of
no_stack_is_empty = refl

is_there : is_mark table 3 ≡ true
unfolding is_mark
is_there = refl

is_not_there : is_mark table 5 ≡ false
unfolding is_mark
is_not_there = refl

stack_is_there : is_stack table 4 ≡ true
unfolding is_stack numbers_of
stack_is_there = refl

stack_is_not_there : is_stack table 5 ≡ false
unfolding is_stack numbers_of
stack_is_not_there = refl

-- equal marks are kept
numbers_joined : joined_numbers (3 ∷ 2 ∷ 1 ∷ []) (3 ∷ 1 ∷ 1 ∷ []) ≡ 3 ∷ 0 ∷ 1 ∷ []
numbers_joined = refl

-- 0 covers all, and each number itself
numbers_covered : cover_numbers (0 ∷ 2 ∷ []) (3 ∷ 2 ∷ []) ≡ true
numbers_covered = refl

numbers_not_covered : cover_numbers (0 ∷ 2 ∷ []) (3 ∷ 1 ∷ []) ≡ false
numbers_not_covered = refl

-- an unknown mark covers all, and each mark itself
marks_covered : cover_marks (any ∷ five ∷ []) (wrd_mark 3 ∷ five ∷ []) ≡ true
unfolding mark_eq
marks_covered = refl

-- a known mark covers no other
another_not_covered : cover_marks (any ∷ five ∷ []) (five ∷ wrd_mark 3 ∷ []) ≡ false
unfolding mark_eq
another_not_covered = refl

-- nor an unknown one
unknown_not_covered : cover_marks (five ∷ []) (any ∷ []) ≡ false
unfolding mark_eq
unknown_not_covered = refl

unknown_values : zeros 2 (7 ∷ []) ≡ 0 ∷ 0 ∷ 7 ∷ []
unknown_values = refl

what_lies_under : under {A = ℕ} 2 (7 ∷ 8 ∷ 9 ∷ []) ≡ Some (9 ∷ [])
what_lies_under = refl

nothing_lies_under : under {A = ℕ} 2 (7 ∷ []) ≡ None
nothing_lies_under = refl

-- the third from the top comes to the top
rotated : moved {A = ℕ} 9 3 (1 ∷ 2 ∷ 0 ∷ []) (3 ∷ 2 ∷ 1 ∷ 0 ∷ []) ≡ Some (1 ∷ 3 ∷ 2 ∷ 0 ∷ [])
rotated = refl

-- likewise where a value is put back twice, or none is
put_back_twice : moved {A = ℕ} 9 2 (0 ∷ 1 ∷ 0 ∷ []) (2 ∷ 1 ∷ 0 ∷ []) ≡ Some (1 ∷ 2 ∷ 1 ∷ 0 ∷ [])
put_back_twice = refl

none_put_back : moved {A = ℕ} 9 2 [] (2 ∷ 1 ∷ 0 ∷ []) ≡ Some (0 ∷ [])
none_put_back = refl

no_such_place : moved {A = ℕ} 9 1 (1 ∷ 0 ∷ []) (2 ∷ 1 ∷ []) ≡ Some (2 ∷ 9 ∷ 1 ∷ [])
no_such_place = refl

too_few : moved {A = ℕ} 9 2 (0 ∷ 1 ∷ 0 ∷ []) (1 ∷ []) ≡ None
too_few = refl

-- what `curry` makes of no callable is unknown
not_curried : curried_mark five (wrd_mark 3) ≡ any
not_curried = refl

composed_in_order : composed_mark five (par_mark 1) ≡ com_mark five (par_mark 1)
composed_in_order = refl

-- a dead stack joins to the other
dead_joined : joined dead (on None (five ∷ [])) ≡ Some (on None (five ∷ []))
dead_joined = refl

joined_to_dead : joined (on (Some hidden) []) dead ≡ Some (on (Some hidden) [])
joined_to_dead = refl

-- a mark that both have stays, and another becomes unknown
two_joined : joined (on None (five ∷ wrd_mark 3 ∷ [])) (on None (five ∷ wrd_mark 4 ∷ [])) ≡ Some (on None (five ∷ any ∷ []))
unfolding mark_eq
two_joined = refl

-- stacks on other bases, or of other heights, have no join
other_bases_not_joined : joined (on None []) (on (Some hidden) []) ≡ None
other_bases_not_joined = refl

other_heights_not_joined : joined (on None (any ∷ [])) (on None []) ≡ None
other_heights_not_joined = refl

-- every stack covers a dead one, which covers no other
dead_covered : covered (on (Some hidden) (five ∷ [])) dead ≡ true
dead_covered = refl

dead_covers_none : covered dead (on None []) ≡ false
dead_covers_none = refl

-- a stack covers none on another base or of another height
other_base_not_covered : covered (on None []) (on (Some hidden) []) ≡ false
other_base_not_covered = refl

other_height_not_covered : covered (on None (any ∷ any ∷ [])) (on None (any ∷ [])) ≡ false
other_height_not_covered = refl
