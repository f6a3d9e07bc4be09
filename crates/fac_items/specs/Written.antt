-- Trees as they are written, with the places of their tokens.
use Rattle.std.specs.Prelude.{ℕ, List, Option, Bool}
use Rattle.fac_lang.specs.Phrases.{Plain}
use Rattle.fac_base.specs.Signatures.{Signature}
use Rattle.fac_base.specs.declared.height.Height.{Height}
use Rattle.fac_base.specs.declared.place.Place.{Place}
-- A name, as its token spells it (a local input without its `:`), and where that token stands.
pub use Rattle.fac_source.specs.declared.tok.Tok.{Tok}

mutual
  -- An item, or an element of an array. A place is that of its first token.
  pub data Node : Type 0 where
    n_lit : Plain → Place → Node
    n_array : Nodes → Place → Node
    n_quot : Nodes → Place → Node
    -- `\ n`
    n_ref : Tok → Place → Node
    -- a word or a local
    n_name : Tok → Place → Node
    -- `[| inputs | items ]`
    n_locals : List Tok → Nodes → Place → Node
    n_fry : Nodes → Place → Node
    n_call_effect : Height → Place → Node
    n_execute_effect : Height → Place → Node
    -- `:> n`, and whether it is a local input that repeats one of its list
    n_bind : Tok → Bool → Place → Node
    n_hole : Place → Node
    n_at : Place → Node
    n_next : Place → Node
    -- Made by readings alone: the word of a full name, and items whose locals end with them.
    n_full : List ℕ → List ℕ → Place → Node
    n_part : Nodes → Node

  pub data Nodes : Type 0 where
    nothing : Nodes
    more : Node → Nodes → Nodes

-- the effect of a definition: one that is written, or the slots of a class and its value
pub data Declared : Type 0 where
  given : Signature → Declared
  makes : Tok → Declared

pub data Form : Type 0 where
  f_in : Tok → Form
  f_use : Tok → Form
  f_using : List Tok → Form
  f_from : Tok → List Tok → Form
  f_qualified : Tok → Tok → Form
  f_private : Form
  f_public : Form
  f_defer : Tok → Form
  f_symbol : Tok → Form
  f_main : Tok → Form
  f_constant : Tok → Node → Form
  -- with the marks `inline` and `recursive`
  f_define : Tok → Declared → Nodes → Bool → Bool → Form
  -- `::` with its inputs
  f_locals : Tok → List Tok → Signature → Nodes → Bool → Bool → Form
  f_tuple : Tok → Option Tok → List Tok → Form
  f_union : Tok → List Tok → Form
  f_single : Tok → Form
  f_maker : Tok → Tok → Form
  f_generic : Tok → Signature → Form
  f_method : Tok → Tok → Nodes → Form
  -- items at the top level that follow one another
  f_items : Nodes → Form
