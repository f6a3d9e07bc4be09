-- The marks that nodes stand for.
use Rattle.std.specs.Prelude.{ℕ, List, [], map, get_or, ◌≡◌}
use Rattle.fac_lang.specs.Phrases.{Phrase, Literal, Mark, any, lit_mark, cur_mark, com_mark, wrd_mark, par_mark}
use Rattle.fac_abs.specs.declared.mark_node.MarkNode.{MarkNode}
use Rattle.fac_abs.specs.declared.mark_node.MarkNode.TheVariants.{Any, Lit, Cur, Com, Wrd, Par}
use Rattle.fac_abs.specs.InTurn.{in_turn}
use Rattle.fac_abs.specs.RowVariables.{Row}
use Rattle.fac_abs.specs.Marks.{phrase_marks, deepest}

-- What numbers name: which literal that of a template does, what its phrase is with marks in its cells, and which row that of a base.
pub record Naming : Type 0 where
  pub literal : ℕ → Literal
  -- no two numbers name one literal
  pub apart : (j k : ℕ) → literal j ≡ literal k → j ≡ k
  -- the phrase with a mark in each cell, that of the last cell first
  pub phrase : ℕ → List Mark → Phrase
  -- other marks make another phrase
  pub cells_apart : (k : ℕ) (ms ns : List Mark) → phrase k ms ≡ phrase k ns → ms ≡ ns
  -- each of them stands in it, and no other mark does
  pub marked : (k : ℕ) (ms : List Mark) → phrase_marks (phrase k ms) ≡ deepest ms
  -- which row each number of a base names
  pub row : ℕ → Row
  -- no two numbers name one row
  pub rows_apart : (j k : ℕ) → row j ≡ row k → j ≡ k

-- The mark of a node, whose parts are among the marks before it. What lies in the cells of a literal is told by the list of its frame.
module _ (N : Naming) (frames : List (List ℕ)) where
  abbrev pub tree : List Mark → MarkNode → Mark
  tree made Any = any
  tree made (Lit q f) = lit_mark (N.literal q) (N.phrase q (map (λ (m : ℕ). get_or made m any) (get_or frames f [])))
  tree made (Cur a b) = cur_mark (get_or made a any) (get_or made b any)
  tree made (Com a b) = com_mark (get_or made a any) (get_or made b any)
  tree made (Wrd w) = wrd_mark w
  tree made (Par k) = par_mark k

  -- the marks of nodes
  abbrev pub trees : List MarkNode → List Mark
  trees nodes = in_turn tree nodes []
