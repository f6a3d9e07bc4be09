-- Directed graphs. A graph is a list that has, for each node by its number, the nodes to which an edge goes from it: its successors.
use Rattle.std.specs.Prelude.{◌≡◌, ◌↔◌, ℕ, zero, suc, List, [], ◌∷◌, length, Bool, true, false, ◌||◌, nat_eq, Option, Some, None, slice_get}
use Rattle.std.specs.List.{list_any}

-- whether a number is in a list
abbrev pub one_of : ℕ → List ℕ → Bool
one_of x [] = false
one_of x (y ∷ ys) = nat_eq x y || one_of x ys

-- a number is in a list
abbrev pub IsOneOf : ℕ → List ℕ → Type 0
IsOneOf x xs = one_of x xs ≡ true

-- the list, or none
abbrev pub list_or_none : Option (List ℕ) → List ℕ
list_or_none (Some xs) = xs
list_or_none None = []

-- the successors of a node; a number that isn't a node's has none
abbrev pub successors : List (List ℕ) → ℕ → List ℕ
successors edges u = list_or_none (slice_get edges u)

-- A path of at least one edge leads from node u to another.
pub data LeadsTo (edges : List (List ℕ)) (u : ℕ) : ℕ → Type 0 where
  by_edge : {v : ℕ} → IsOneOf v (successors edges u) → LeadsTo edges u v
  and_edge : {w : ℕ} (v : ℕ) → LeadsTo edges u v → IsOneOf w (successors edges v) → LeadsTo edges u w

-- for each node, whether it leads back to itself
pub record AreLeadingBack (edges : List (List ℕ)) (flags : List Bool) : Type 0 where
  pub same_length : length flags ≡ length edges
  pub each : (u : ℕ) (b : Bool) → slice_get flags u ≡ Some b → (b ≡ true) ↔ LeadsTo edges u u

-- whether a path of at least one edge and at most n of them leads from node u to node v
abbrev pub leads_within : ℕ → List (List ℕ) → ℕ → ℕ → Bool
leads_within zero edges u v = false
leads_within (suc n) edges u v = list_any (λ w. nat_eq v w || leads_within n edges w v) (successors edges u)
