-- Marks and stacks of marks, as contracts see them.
use Rattle.std.specs.Prelude.{ℕ, List, [], ◌∷◌, Bool, true, ◌&&◌, nat_lt, get_or, length, map, Option, Some, None, ◌≡◌}
use Rattle.fac_lang.specs.Phrases.{Mark, any}
use Rattle.fac_abs.specs.declared.mark_node.MarkNode.{MarkNode}
use Rattle.fac_abs.specs.declared.reached.Reached.{Reached}
use Rattle.fac_abs.specs.declared.reached.Reached.TheVariants.{Dead, On}
use Rattle.fac_abs.specs.RowVariables.{Row}
use Rattle.fac_abs.specs.Marks.{AbstractStack, dead, on}
use Rattle.fac_abs.specs.MarkTrees.{Naming, trees}

-- How many templates there are, of which each literal is one; nodes, of which each stands for the mark with its number; frames with the last cell first, and stacks with the top first, of which each stands for that with its number.
pub record MarksSeen : Type 0 where
  pub templates : ℕ
  pub nodes : List MarkNode
  pub frames : List (List ℕ)
  pub stacks : List (List ℕ)

-- the mark with this number, `any` where there is none
unfoldable pub mark_of : Naming → MarksSeen → ℕ → Mark
mark_of N M m = get_or (trees N M.frames M.nodes) m any

-- the numbers of the marks of the stack with this number
unfoldable pub numbers_of : MarksSeen → ℕ → List ℕ
numbers_of M s = get_or M.stacks s []

-- the stack with this number, empty where there is none
unfoldable pub stack_of : Naming → MarksSeen → ℕ → List Mark
stack_of N M s = map (mark_of N M) (numbers_of M s)

-- the numbers of the marks in the cells of the frame with this number, that of the last cell first
unfoldable pub cells_of : MarksSeen → ℕ → List ℕ
cells_of M f = get_or M.frames f []

-- the frame with this number, the last cell first; it has no cells where there is none
unfoldable pub frame_of : Naming → MarksSeen → ℕ → List Mark
frame_of N M f = map (mark_of N M) (cells_of M f)

-- the base with this number, where there is one
abbrev pub base_seen : Naming → Option ℕ → Option Row
base_seen N None = None
base_seen N (Some r) = Some (N.row r)

-- the stack that a walk comes to
abbrev pub reached_seen : Naming → MarksSeen → Reached → AbstractStack
reached_seen N M Dead = dead
reached_seen N M (On b s) = on (base_seen N b) (stack_of N M s)

-- whether these are numbers below n
abbrev pub are_below : ℕ → List ℕ → Bool
are_below n [] = true
are_below n (m ∷ ms) = nat_lt m n && are_below n ms

-- whether there is a mark with this number
unfoldable pub is_mark : MarksSeen → ℕ → Bool
is_mark M m = nat_lt m (length M.nodes)

-- whether there is a stack with this number, and all its marks are there
unfoldable pub is_stack : MarksSeen → ℕ → Bool
is_stack M s = nat_lt s (length M.stacks) && are_below (length M.nodes) (numbers_of M s)

-- whether there is a frame with this number, and all its marks are there
unfoldable pub is_frame : MarksSeen → ℕ → Bool
is_frame M f = nat_lt f (length M.frames) && are_below (length M.nodes) (cells_of M f)

abbrev pub IsMark : MarksSeen → ℕ → Type 0
IsMark M m = is_mark M m ≡ true

abbrev pub IsStack : MarksSeen → ℕ → Type 0
IsStack M s = is_stack M s ≡ true

abbrev pub IsFrame : MarksSeen → ℕ → Type 0
IsFrame M f = is_frame M f ≡ true

-- the stack that a walk comes to is there
abbrev pub IsReached : MarksSeen → Reached → Type 0
IsReached M Dead = Unit {0}
IsReached M (On b s) = IsStack M s

-- all marks, frames and stacks stay what they are, and there are as many templates
pub record Grows (M L : MarksSeen) : Type 0 where
  pub templates : L.templates ≡ M.templates
  pub marks : (m : ℕ) → IsMark M m → IsMark L m
  pub frames : (f : ℕ) → IsFrame M f → IsFrame L f
  pub stacks : (s : ℕ) → IsStack M s → IsStack L s
  pub same_mark : (N : Naming) (m : ℕ) → IsMark M m → mark_of N L m ≡ mark_of N M m
  pub same_frame : (N : Naming) (f : ℕ) → IsFrame M f → frame_of N L f ≡ frame_of N M f
  pub same_stack : (N : Naming) (s : ℕ) → IsStack M s → stack_of N L s ≡ stack_of N M s

-- two numbers of one mark are one number
abbrev pub NumbersAreMarks : MarksSeen → Type 0
NumbersAreMarks M = (N : Naming) (m n : ℕ) → IsMark M m → IsMark M n → mark_of N M m ≡ mark_of N M n → m ≡ n
