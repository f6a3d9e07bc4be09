-- What calls promise of stacks of numbers.
use Rattle.std.specs.Prelude.{ℕ, List, [], ◌∷◌, Option, Some, None, get_or, length, true, false, nat_eq, ◌≡◌, ◌<◌, ◌≤◌}
use Rattle.fac_abs.specs.inner.Stacks.{joined_numbers}

-- all stacks stay what they are, and others may be there too
pub record Keeps (before after : List (List ℕ)) : Type 0 where
  pub longer : length before ≤ length after
  pub same : (k : ℕ) → k < length before → get_or after k [] ≡ get_or before k []

-- a number stands for a stack with these marks
pub record IsStackWith (stacks : List (List ℕ)) (s : ℕ) (marks : List ℕ) : Type 0 where
  pub within : s < length stacks
  pub marks_are : get_or stacks s [] ≡ marks

-- a stack is empty, or has a top mark on another stack
abbrev pub Uncovers : List (List ℕ) → ℕ → Option (ℕ × ℕ) → Type 0
Uncovers stacks s None = get_or stacks s [] ≡ []
Uncovers stacks s (Some (mark, below)) = (below < length stacks) × (get_or stacks s [] ≡ mark ∷ get_or stacks below [])

-- a number stands for the stack that is there, where there is one
abbrev pub IsWhere : List (List ℕ) → Option ℕ → Option (List ℕ) → Type 0
IsWhere stacks None marks = marks ≡ None
IsWhere stacks (Some s) marks = (s < length stacks) × (marks ≡ Some (get_or stacks s []))

-- two lists of one length are joined by the stack with this number, where they are of one
abbrev pub Joins : List (List ℕ) → Option ℕ → List ℕ → List ℕ → Type 0
Joins stacks None xs ys = nat_eq (length xs) (length ys) ≡ false
Joins stacks (Some s) xs ys = (nat_eq (length xs) (length ys) ≡ true) × IsStackWith stacks s (joined_numbers xs ys)

-- On the way from stacks to others: a number stands for a stack, and what is reached from it is what is wanted.
pub record Going (before now : List (List ℕ)) (stack : ℕ) (reached wanted : List ℕ) : Type 0 where
  pub keeps : Keeps before now
  pub within : stack < length now
  pub same : reached ≡ wanted
