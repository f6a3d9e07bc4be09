-- Stacks of numbers, each by its own number.
use Rattle.std.specs.Prelude.{ℕ, List, [], ◌∷◌, get_or, length, map, ◌≡◌, ◌<◌, zero, suc, Bool, true, false, ◌&&◌, ◌||◌, cond, nat_eq}
use Rattle.fac_abs.specs.declared.stack_nodes.StackNode.{StackNode}
use Rattle.fac_abs.specs.InTurn.{in_turn, FitsInTurn}

-- n times the number 0 on others
abbrev pub zeros : ℕ → List ℕ → List ℕ
zeros zero xs = xs
zeros (suc n) xs = zeros n (0 ∷ xs)

-- a number that two agree on, else 0
abbrev pub joined_number : ℕ → ℕ → ℕ
joined_number x y = cond (nat_eq x y) x 0

-- likewise for each of two lists of one length
abbrev pub joined_numbers : List ℕ → List ℕ → List ℕ
joined_numbers [] ys = []
joined_numbers (x ∷ xs) [] = []
joined_numbers (x ∷ xs) (y ∷ ys) = joined_number x y ∷ joined_numbers xs ys

-- whether numbers cover others: each is 0 or equal
abbrev pub cover_numbers : List ℕ → List ℕ → Bool
cover_numbers [] ys = true
cover_numbers (x ∷ xs) [] = false
cover_numbers (x ∷ xs) (y ∷ ys) = (nat_eq x 0 || nat_eq x y) && cover_numbers xs ys

-- a stack node puts its mark on a stack that was made before
abbrev pub stack_made : List (List ℕ) → StackNode → List ℕ
stack_made stacks node = node.mark ∷ get_or stacks node.below []

-- the stacks that stack nodes make, after the empty one
abbrev pub stacks_of : List StackNode → List (List ℕ)
stacks_of stack_nodes = in_turn stack_made stack_nodes ([] ∷ [])

-- how high the stack of a stack node is said to be
abbrev pub said_height : StackNode → ℕ
said_height c = c.height

-- each stack node tells its stack's height
abbrev pub TellHeights : List StackNode → Type 0
TellHeights stack_nodes = 0 ∷ map said_height stack_nodes ≡ map length (stacks_of stack_nodes)

-- a stack node lies on a stack with a lower number
abbrev pub LiesOnEarlier : ℕ → StackNode → Type 0
LiesOnEarlier k c = c.below < k

-- each stack node does, where the first makes stack 1
abbrev pub LieOnEarlier : List StackNode → Type 0
LieOnEarlier stack_nodes = FitsInTurn LiesOnEarlier 1 stack_nodes
