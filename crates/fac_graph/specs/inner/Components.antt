-- The components of nodes that lead to one another, as a search along a path finds them.
use Rattle.std.specs.Prelude.{◌≡◌, ◌<◌, ◌≤◌, ◌++◌, ◌+◌, ◌-◌, ◌⊎◌, ◌↔◌, ℕ, suc, List, [], ◌∷◌, length, drop, take, set, Bool, true, false, nat_lt, ◌&&◌, ◌||◌, Option, Some, None, slice_get}
use Rattle.fac_graph.specs.Paths.{one_of, IsOneOf, successors, LeadsTo}
use Rattle.fac_graph.specs.declared.components.VisitState.{VisitState}
use Rattle.fac_graph.specs.declared.components.VisitState.TheVariants.{Unseen, Open, Done}
use Rattle.fac_graph.specs.declared.components.Component.{Component}
use Rattle.fac_graph.specs.declared.components.Search.{Search}

-- whether all of these numbers are below n
abbrev pub are_below : ℕ → List ℕ → Bool
are_below n [] = true
are_below n (u ∷ us) = nat_lt u n && are_below n us

-- a set of nodes that has all successors of its nodes
abbrev pub IsClosed : List (List ℕ) → (ℕ → Bool) → Type 0
IsClosed edges inside = (u v : ℕ) → inside u ≡ true → IsOneOf v (successors edges u) → inside v ≡ true

-- node u is node v, or leads to it
abbrev pub Reaches : List (List ℕ) → ℕ → ℕ → Type 0
Reaches edges u v = (v ≡ u) ⊎ LeadsTo edges u v

-- this is whether a node leads back to itself
abbrev pub Decides : List (List ℕ) → ℕ → Bool → Type 0
Decides edges u b = (b ≡ true) ↔ LeadsTo edges u u

-- whether a node was met; a number that isn't a node's counts as one that was
abbrev pub is_seen : Option VisitState → Bool
is_seen (Some Unseen) = false
is_seen _ = true

-- whether a node is done; a number that isn't a node's counts as one that is
abbrev pub is_done : Option VisitState → Bool
is_done None = true
is_done (Some (Done b)) = true
is_done _ = false

abbrev pub standing_or_done : Option VisitState → VisitState
standing_or_done None = Done false
standing_or_done (Some s) = s

abbrev pub done_at : List VisitState → ℕ → Bool
done_at standings v = is_done (slice_get standings v)

-- Node v is done, or is on the path from this place on, or is pending from this number on.
abbrev pub IsSettled : List VisitState → List ℕ → ℕ → ℕ → ℕ → Type 0
IsSettled standings pending first number v = (done_at standings v ≡ true) ⊎ (((q : ℕ) × (slice_get standings v ≡ Some (Open q)) × (first ≤ q)) ⊎ IsOneOf v (drop number pending))

-- No component begins behind place q up to place p.
abbrev pub NoneBetween : List Component → ℕ → ℕ → Type 0
NoneBetween components q p = (i : ℕ) (c : Component) → slice_get components i ≡ Some c → c.first ≤ p → c.first ≤ q

-- A node of the path with an edge to the pending node of this number. It is in the last component that began with no more nodes pending.
pub record Source (edges : List (List ℕ)) (path : List ℕ) (components : List Component) (k v : ℕ) : Type 0 where
  pub at : ℕ
  pub node : ℕ
  pub is : slice_get path at ≡ Some node
  pub edge : IsOneOf v (successors edges node)
  pub behind : (i : ℕ) (c : Component) → slice_get components i ≡ Some c → c.pending ≤ k → c.first ≤ at
  pub before : (i : ℕ) (c : Component) → slice_get components i ≡ Some c → k < c.pending → at < c.first

-- What a search knows. The path has the open nodes, each at its place. The successors of nodes that are done are done, and of these it is known
-- whether they lead back to themselves. The successors of a node of the path are settled, seen from its component and from each one before it. A
-- node of the path reaches all behind it, and those before it in its component. Each pending node has its source. The components begin one
-- behind the other, the first where the path begins.
pub record Explores (edges : List (List ℕ)) (standings : List VisitState) (path : List ℕ) (components : List Component) (pending : List ℕ) : Type 0 where
  pub counted : length standings ≡ length edges
  pub open_is : (v q : ℕ) → slice_get standings v ≡ Some (Open q) → slice_get path q ≡ Some v
  pub path_is : (q v : ℕ) → slice_get path q ≡ Some v → slice_get standings v ≡ Some (Open q)
  pub finished : IsClosed edges (done_at standings)
  pub decided : (v : ℕ) (b : Bool) → slice_get standings v ≡ Some (Done b) → Decides edges v b
  pub settled : (i p u v : ℕ) (c : Component) → slice_get components i ≡ Some c → slice_get path p ≡ Some u → c.first ≤ p → IsOneOf v (successors edges u) → IsSettled standings pending c.first c.pending v
  pub reaches : (p q u v : ℕ) → slice_get path p ≡ Some u → slice_get path q ≡ Some v → NoneBetween components q p → Reaches edges u v
  pub sources : (k v : ℕ) → slice_get pending k ≡ Some v → Source edges path components k v
  pub ordered : (i j : ℕ) (c d : Component) → i < j → slice_get components i ≡ Some c → slice_get components j ≡ Some d → (c.first < d.first) × (c.pending ≤ d.pending)
  pub inside : (i : ℕ) (c : Component) → slice_get components i ≡ Some c → (c.first < length path) × (c.pending ≤ length pending)
  pub begins : (c : Component) → slice_get components 0 ≡ Some c → c.first ≡ 0
  pub ends : components ≡ [] → path ≡ []

abbrev pub IsExplored : List (List ℕ) → Search → Type 0
IsExplored edges s = Explores edges s.standings.items s.path.items s.components.items s.pending.items

-- A node stands at the end of the path, as a component of its own, and its successors are pending.
pub record Opens (edges : List (List ℕ)) (node : ℕ) (before after : Search) : Type 0 where
  pub standings_are : after.standings.items ≡ set before.standings.items node (Open (length before.path.items))
  pub path_is : after.path.items ≡ before.path.items ++ node ∷ []
  pub components_are : after.components.items ≡ before.components.items ++ record { first = length before.path.items; pending = length before.pending.items } ∷ []
  pub pending_is : after.pending.items ≡ before.pending.items ++ successors edges node

-- the last component
abbrev pub last_of : List Component → Option Component
last_of components = slice_get components (length components - 1)

-- whether a component, if there is one, begins behind a place
abbrev pub behind_place : ℕ → Option Component → Bool
behind_place q None = false
behind_place q (Some c) = nat_lt q c.first

-- The components that begin behind a place are joined to the one that has it.
pub record Joins (place : ℕ) (before after : List Component) : Type 0 where
  pub joined : List Component
  pub whole : before ≡ after ++ joined
  pub behind : (i : ℕ) (c : Component) → slice_get joined i ≡ Some c → place < c.first
  pub kept : behind_place place (last_of after) ≡ false

-- whether a node has an edge to itself
abbrev pub own_edge : List (List ℕ) → Option ℕ → Bool
own_edge edges None = false
own_edge edges (Some u) = one_of u (successors edges u)

-- whether the nodes of the path from this place on, a component, lead back to themselves: there are several, or the one has an edge to itself
abbrev pub comes_back : List (List ℕ) → List ℕ → ℕ → Bool
comes_back edges path first = nat_lt 1 (length path - first) || own_edge edges (slice_get path first)

-- these nodes are done
abbrev pub all_done : Bool → List ℕ → List VisitState → List VisitState
all_done back [] standings = standings
all_done back (u ∷ us) standings = all_done back us (set standings u (Done back))

-- The last component, which begins at this place, is done.
pub record Closes (edges : List (List ℕ)) (first : ℕ) (before after : Search) : Type 0 where
  pub top : Component
  pub top_is : before.components.items ≡ after.components.items ++ top ∷ []
  pub path_is : after.path.items ≡ take first before.path.items
  pub standings_are : after.standings.items ≡ all_done (comes_back edges before.path.items first) (drop first before.path.items) before.standings.items
  pub pending_is : after.pending.items ≡ before.pending.items

-- how many steps are left at most: those that open a node with its successors, those that follow a pending node, and those that close a component
abbrev pub to_open : VisitState → List ℕ → ℕ
to_open Unseen vs = suc (length vs)
to_open _ vs = 0

abbrev pub all_to_open : List VisitState → List (List ℕ) → ℕ
all_to_open [] edges = 0
all_to_open (s ∷ standings) [] = 0
all_to_open (s ∷ standings) (vs ∷ edges) = to_open s vs + all_to_open standings edges

abbrev pub steps_left : List (List ℕ) → Search → ℕ
steps_left edges s = all_to_open s.standings.items edges + length s.pending.items + length s.components.items

-- nodes that were met stay so
abbrev pub KeepsSeen : List VisitState → List VisitState → Type 0
KeepsSeen before after = (v : ℕ) → is_seen (slice_get before v) ≡ true → is_seen (slice_get after v) ≡ true

-- a step of a search
pub record Steps (edges : List (List ℕ)) (before after : Search) : Type 0 where
  pub explored : IsExplored edges after
  pub fewer : steps_left edges after < steps_left edges before
  pub kept : KeepsSeen before.standings.items after.standings.items

-- A node is taken from the end of what is pending. No component began with so many pending.
pub record MayFollow (edges : List (List ℕ)) (s : Search) (node : ℕ) : Type 0 where
  pub explored : Explores edges s.standings.items s.path.items s.components.items (s.pending.items ++ node ∷ [])
  pub low : (i : ℕ) (c : Component) → slice_get s.components.items i ≡ Some c → c.pending ≤ length s.pending.items

-- It was followed, and no more steps are left.
pub record Follows (edges : List (List ℕ)) (before after : Search) : Type 0 where
  pub explored : IsExplored edges after
  pub fewer : steps_left edges after ≤ steps_left edges before
  pub kept : KeepsSeen before.standings.items after.standings.items

-- A search with no path: nothing is pending, and each node that was met is done.
pub record IsIdle (edges : List (List ℕ)) (s : Search) : Type 0 where
  pub explored : IsExplored edges s
  pub no_component : s.components.items ≡ []

-- whether all nodes are done
abbrev pub all_finished : List VisitState → Bool
all_finished [] = true
all_finished (s ∷ standings) = is_done (Some s) && all_finished standings

-- a search that is done with all nodes
pub record IsOver (edges : List (List ℕ)) (s : Search) : Type 0 where
  pub explored : IsExplored edges s
  pub finished : all_finished s.standings.items ≡ true

-- a search from a node, if it wasn't met before
pub record Visits (edges : List (List ℕ)) (node : ℕ) (before after : Search) : Type 0 where
  pub idle : IsIdle edges after
  pub kept : KeepsSeen before.standings.items after.standings.items
  pub seen : is_seen (slice_get after.standings.items node) ≡ true
