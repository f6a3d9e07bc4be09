-- What calls promise of marks and stacks.
use Rattle.std.specs.Prelude.{ℕ, List, [], ◌∷◌, true, false, nat_eq, Option, Some, None, length, slice_get, ◌≡◌, ◌<◌}
use Rattle.fac_lang.specs.Phrases.{Mark, any, lit_mark, cur_mark, com_mark, wrd_mark, par_mark}
use Rattle.fac_abs.specs.declared.mark_node.MarkNode.{MarkNode}
use Rattle.fac_abs.specs.declared.mark_node.MarkNode.TheVariants.{Any, Lit, Cur, Com, Wrd, Par}
use Rattle.fac_abs.specs.declared.reached.Reached.{Reached}
use Rattle.fac_abs.specs.Marks.{AbstractStack, join_marks, piled}
use Rattle.fac_abs.specs.MarkTrees.{Naming}
use Rattle.fac_abs.specs.SeenMarks.{MarksSeen, mark_of, frame_of, stack_of, IsMark, IsFrame, IsStack, IsReached, reached_seen}

-- a number stands for this mark
pub record IsMarkOf (M : MarksSeen) (m : ℕ) (mark : Naming → Mark) : Type 0 where
  pub valid : IsMark M m
  pub is : (N : Naming) → mark_of N M m ≡ mark N

-- a number stands for this stack
pub record IsStackOf (M : MarksSeen) (s : ℕ) (marks : Naming → List Mark) : Type 0 where
  pub valid : IsStack M s
  pub is : (N : Naming) → stack_of N M s ≡ marks N

-- a number stands for this frame, the last cell first
pub record IsFrameOf (M : MarksSeen) (f : ℕ) (marks : Naming → List Mark) : Type 0 where
  pub valid : IsFrame M f
  pub is : (N : Naming) → frame_of N M f ≡ marks N

-- the mark in the cell with this number, where there is one; cell 0 is the first
abbrev pub HasCellWhere : MarksSeen → ℕ → ℕ → Option ℕ → Type 0
HasCellWhere M f k None = (N : Naming) → slice_get (piled (frame_of N M f) []) k ≡ None
HasCellWhere M f k (Some m) = IsMark M m × ((N : Naming) → slice_get (piled (frame_of N M f) []) k ≡ Some (mark_of N M m))

-- a number stands for a stack where there is one
abbrev pub IsStackWhere : MarksSeen → Option ℕ → (Naming → Option (List Mark)) → Type 0
IsStackWhere M None marks = (N : Naming) → marks N ≡ None
IsStackWhere M (Some s) marks = IsStack M s × ((N : Naming) → marks N ≡ Some (stack_of N M s))

-- a mark is the literal of this template with this frame
pub record IsLiteral (M : MarksSeen) (m q f : ℕ) : Type 0 where
  pub within : q < M.templates
  pub frame : IsFrame M f
  pub is : (N : Naming) → mark_of N M m ≡ lit_mark (N.literal q) (N.phrase q (frame_of N M f))

-- a mark is made of two others with lower numbers
pub record IsMadeOf (M : MarksSeen) (m a b : ℕ) (make : Mark → Mark → Mark) : Type 0 where
  pub first : IsMark M a
  pub second : IsMark M b
  pub first_lower : a < m
  pub second_lower : b < m
  pub is : (N : Naming) → mark_of N M m ≡ make (mark_of N M a) (mark_of N M b)

-- a mark is what its node says
abbrev pub IsNodeOf : MarksSeen → ℕ → MarkNode → Type 0
IsNodeOf M m Any = (N : Naming) → mark_of N M m ≡ any
IsNodeOf M m (Lit q f) = IsLiteral M m q f
IsNodeOf M m (Cur a b) = IsMadeOf M m a b cur_mark
IsNodeOf M m (Com a b) = IsMadeOf M m a b com_mark
IsNodeOf M m (Wrd w) = (N : Naming) → mark_of N M m ≡ wrd_mark w
IsNodeOf M m (Par k) = (N : Naming) → mark_of N M m ≡ par_mark k

-- a stack has this top mark on that stack
pub record HasTop (M : MarksSeen) (s mark below : ℕ) : Type 0 where
  pub top : IsMark M mark
  pub rest : IsStack M below
  pub is : (N : Naming) → stack_of N M s ≡ mark_of N M mark ∷ stack_of N M below

-- a stack is empty, or has a top mark on another stack
abbrev pub HasTopWhere : MarksSeen → ℕ → Option (ℕ × ℕ) → Type 0
HasTopWhere M s None = (N : Naming) → stack_of N M s ≡ []
HasTopWhere M s (Some (mark, below)) = HasTop M s mark below

-- a walk comes to this stack, where there is one
abbrev pub IsReachedWhere : MarksSeen → Option Reached → (Naming → Option AbstractStack) → Type 0
IsReachedWhere M None stack = (N : Naming) → stack N ≡ None
IsReachedWhere M (Some A) stack = IsReached M A × ((N : Naming) → stack N ≡ Some (reached_seen N M A))

-- two stacks of one height are joined by the stack with this number
pub record IsJoined (M L : MarksSeen) (a b s : ℕ) : Type 0 where
  pub valid : IsStack L s
  pub heights : (N : Naming) → nat_eq (length (stack_of N M a)) (length (stack_of N M b)) ≡ true
  pub is : (N : Naming) → stack_of N L s ≡ join_marks (stack_of N M a) (stack_of N M b)

-- two stacks are joined where they are of one height
abbrev pub IsJoinedWhere : MarksSeen → MarksSeen → ℕ → ℕ → Option ℕ → Type 0
IsJoinedWhere M L a b None = (N : Naming) → nat_eq (length (stack_of N M a)) (length (stack_of N M b)) ≡ false
IsJoinedWhere M L a b (Some s) = IsJoined M L a b s
