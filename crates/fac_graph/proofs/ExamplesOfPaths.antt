-- Paths of small graphs.
use Rattle.std.proofs.Common.{◌≡◌, ℕ, List, [], ◌∷◌, length, map, Bool, true, false, Some, None, refl}
use Rattle.std.specs.Prelude.{codes}
use Rattle.fac_lang.specs.declared.program.ClassDef.{ClassDef}
use Rattle.fac_lang.specs.declared.program.Shape.{Shape}
use Rattle.fac_lang.specs.declared.program.Shape.TheVariants.{Tuple as tuple_class, Union as union}
use Rattle.fac_lang.specs.Whole.{reaches}
use Rattle.fac_graph.specs.Paths.{LeadsTo, by_edge, and_edge, leads_within}
use Rattle.fac_graph.specs.Laws.{class_edges}

-- 0, 1 and 2 lead round, 3 leads to them, 4 has an edge to itself, and 5 one to a number that is no node's
abbrev graph : List (List ℕ)
graph = (1 ∷ []) ∷ (2 ∷ []) ∷ (0 ∷ []) ∷ (0 ∷ 4 ∷ []) ∷ (4 ∷ []) ∷ (6 ∷ []) ∷ []

-- for these nodes, whether each leads back to itself
abbrev leading_back : List (List ℕ) → List ℕ → List Bool
leading_back edges us = map (λ (u : ℕ). leads_within (length edges) edges u u) us

pub backs : leading_back graph (0 ∷ 1 ∷ 2 ∷ 3 ∷ 4 ∷ 5 ∷ 6 ∷ []) ≡ true ∷ true ∷ true ∷ false ∷ true ∷ false ∷ false ∷ []
backs = refl

-- a path has at least one edge, and no more than so many
pub two_edges : leads_within 2 graph 0 2 ≡ true
two_edges = refl

pub too_short : leads_within 1 graph 0 2 ≡ false
too_short = refl

pub round : LeadsTo graph 0 0
round = and_edge 2 (and_edge 1 (by_edge refl) refl) refl

-- a class with this shape
abbrev class_of : Shape → ClassDef
class_of shape = record { name = record { vocab = codes "scratchpad"; name = codes "c" }; shape = shape }

-- 0 has the parent 1, which has none; 2 has the members 0 and 3, and 3 the member 2
abbrev classes : List ClassDef
classes = class_of (tuple_class (Some 1) []) ∷ class_of (tuple_class None []) ∷ class_of (union (0 ∷ 3 ∷ [])) ∷ class_of (union (2 ∷ [])) ∷ []

pub edges_are : class_edges classes ≡ (1 ∷ []) ∷ [] ∷ (0 ∷ 3 ∷ []) ∷ (2 ∷ []) ∷ []
edges_are = refl

pub cycles_are : map (λ (c : ℕ). reaches (length classes) classes c c) (0 ∷ 1 ∷ 2 ∷ 3 ∷ []) ≡ leading_back (class_edges classes) (0 ∷ 1 ∷ 2 ∷ 3 ∷ [])
cycles_are = refl

pub cycles_found : leading_back (class_edges classes) (0 ∷ 1 ∷ 2 ∷ 3 ∷ []) ≡ false ∷ false ∷ true ∷ true ∷ []
cycles_found = refl
