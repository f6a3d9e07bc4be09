-- What calls promise of the table of marks.
use Rattle.std.specs.Prelude.{ℕ, List, [], ◌∷◌, ◌++◌, get_or, map, length, true, suc, max, ◌≡◌, ◌<◌}
use Rattle.fac_abs.specs.declared.mark_node.MarkNode.{MarkNode}
use Rattle.fac_abs.specs.declared.mark_node.MarkNode.TheVariants.{Any, Lit, Cur, Com, Wrd, Par}
use Rattle.std.specs.Map.{keys_of}
use Rattle.fac_abs.specs.InTurn.{FitsInTurn}
use Rattle.fac_abs.specs.Marks.{mark_depth}
use Rattle.fac_abs.specs.MarkTrees.{Naming, trees}
use Rattle.fac_abs.specs.SeenMarks.{are_below}

-- The parts of a node have numbers below k. The template of a literal is one of so many, and its frame one of these, whose marks have such numbers too.
abbrev pub HasPartsBelow : ℕ → List (List ℕ) → ℕ → MarkNode → Type 0
HasPartsBelow templates frames k Any = Unit {0}
HasPartsBelow templates frames k (Lit q f) = (q < templates) × (f < length frames) × (are_below k (get_or frames f []) ≡ true)
HasPartsBelow templates frames k (Cur a b) = (a < k) × (b < k)
HasPartsBelow templates frames k (Com a b) = (a < k) × (b < k)
HasPartsBelow templates frames k (Wrd w) = Unit {0}
HasPartsBelow templates frames k (Par p) = Unit {0}

-- each node comes after its parts
abbrev pub IsOrdered : ℕ → List (List ℕ) → List MarkNode → Type 0
IsOrdered templates frames nodes = FitsInTurn (HasPartsBelow templates frames) 0 nodes

-- each depth is that of its mark, whatever the numbers name
abbrev pub TellDepths : List (List ℕ) → List MarkNode → List ℕ → Type 0
TellDepths frames nodes depths = (N : Naming) → depths ≡ map mark_depth (trees N frames nodes)

-- Nodes in the order in which they were first seen: the first knows nothing, and no two are alike.
pub record IsTable (nodes : List MarkNode) : Type 0 where
  pub some : 0 < length nodes
  pub first : get_or nodes 0 Any ≡ Any
  pub distinct : (i j : ℕ) → i < length nodes → j < length nodes → get_or nodes i Any ≡ get_or nodes j Any → i ≡ j

-- A node is the key with this number, or it was none and is the last now.
pub data Numbers (before after : List (MarkNode × ℕ)) (node : MarkNode) (depth number : ℕ) : Type 0 where
  there : number < length (keys_of before) → get_or (keys_of before) number Any ≡ node → after ≡ before → Numbers before after node depth number
  added : ((k : ℕ) → k < length (keys_of before) → get_or (keys_of before) k Any ≡ node → ⊥) → number ≡ length (keys_of before) → after ≡ before ++ (node, depth) ∷ [] → Numbers before after node depth number

-- 0 where there are no numbers, else one more than the greatest of their depths
abbrev pub deepest_of : List ℕ → List ℕ → ℕ
deepest_of depths [] = 0
deepest_of depths (m ∷ ms) = max (suc (get_or depths m 0)) (deepest_of depths ms)
