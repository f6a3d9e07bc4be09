-- Items put in a phrase for what the cells of its frame hold, and how a phrase of a closed program stands for such a phrase.
use Rattle.std.specs.Prelude.{◌≡◌, ℕ, List, [], ◌∷◌, ◌++◌, length, true, false, Option, Some, None, slice_get}
use Rattle.fac_lang.specs.Phrases.{Literal, Phrase, end, then, Item, lit, lit_arr, quot, word, bind, local, fry, hole, call_effect, execute_effect, next_method, made, next_after, held, known}
use Rattle.fac_lang.specs.Substitution.{put_local, put_holes}
use Rattle.fac_base.specs.declared.place.Place.{Place}
use Rattle.fac_lang.specs.declared.phrase.Template.{Template}
use Rattle.fac_lang.specs.declared.program.Program.{Program}
use Rattle.fac_locals.specs.declared.cell.Cell.{Cell}
use Rattle.fac_locals.specs.declared.cell.Cell.TheVariants.{Local, Hole}
use Rattle.fac_locals.specs.Cells.{binds_cell, cell_number, inner_cells, inner_phrase}
use Rattle.fac_locals.specs.Literals.{Quoted, behind, literal_numbered}

-- the item that was put for a cell, or another where there is none
abbrev pub item_or : Item → Option Item → Item
item_or i None = i
item_or i (Some j) = j

abbrev pub item_in : List Item → Item → Option ℕ → Item
item_in is i None = i
item_in is i (Some k) = item_or i (slice_get is k)

-- the item that asks for a cell
abbrev pub cell_item : Cell → Item
cell_item (Local x) = local x
cell_item (Hole k) = hole k

-- What is put for each cell: behind an item a local that it binds stays what it is, and in a fry all holes do.
abbrev pub put_behind : (Cell → Item) → Item → Cell → Item
put_behind put i c = elim (binds_cell c i) [ true ↦ cell_item c | false ↦ put c ]

abbrev pub put_in_fry : (Cell → Item) → Cell → Item
put_in_fry put (Local x) = put (Local x)
put_in_fry put (Hole k) = hole k

-- A phrase with an item put for each cell that it asks for.
abbrev mutual
  pub filled_by : (Cell → Item) → Phrase → Phrase
  filled_by put end = end
  filled_by put (then i p t) = then (filled_item put i) p (filled_by (put_behind put i) t)

  pub filled_item : (Cell → Item) → Item → Item
  filled_item put (lit p) = lit p
  filled_item put (lit_arr a) = lit_arr a
  filled_item put (quot t) = quot (filled_by put t)
  filled_item put (word w) = word w
  filled_item put (bind x) = bind x
  filled_item put (local x) = put (Local x)
  filled_item put (fry t n) = fry (filled_by (put_in_fry put) t) n
  filled_item put (hole k) = put (Hole k)
  filled_item put (call_effect h) = call_effect h
  filled_item put (execute_effect h) = execute_effect h
  filled_item put next_method = next_method
  filled_item put (made k) = made k
  filled_item put (next_after m) = next_after m
  filled_item put (held v) = held v
  filled_item put (known m) = known m

-- what a frame puts for a cell: its item, where there is one
abbrev pub item_for : List Cell → List Item → Cell → Item
item_for cells is c = item_in is (cell_item c) (cell_number cells c)

-- a phrase under these cells, with these items put for what they hold
abbrev pub filled : List Cell → List Item → Phrase → Phrase
filled cells is t = filled_by (item_for cells is) t

-- an item that is put for a local or a hole: a value in a run, a mark in the checker's walk
abbrev pub IsPut : Item → Type 0
IsPut (held v) = Unit {0}
IsPut (known m) = Unit {0}
IsPut _ = ⊥

abbrev pub ArePut : List Item → Type 0
ArePut [] = Unit {0}
ArePut (i ∷ is) = IsPut i × ArePut is

-- the items of these cells of a frame, where all of them are there
abbrev pub items_at : List ℕ → List Item → Option (List Item)
items_at [] frame = Some []
items_at (k ∷ ks) frame = elim (slice_get frame k) [ None ↦ None | Some i ↦ elim (items_at ks frame) [ None ↦ None | Some is ↦ Some (i ∷ is) ] ]

module _ (P : Program) where
  -- the phrase of a template of the program with these items in its cells
  abbrev pub template_phrase : ℕ → List Item → Phrase
  template_phrase k is = let l : Quoted = literal_numbered P k in filled (inner_cells l.cells l.item) is (inner_phrase l.item)

  -- the item of a closed program for an item that a frame changes nothing of
  abbrev pub IsPlain : Item → Type 0
  IsPlain (lit p) = Unit {0}
  IsPlain (lit_arr a) = Unit {0}
  IsPlain (word w) = Unit {0}
  IsPlain (call_effect h) = Unit {0}
  IsPlain (execute_effect h) = Unit {0}
  IsPlain next_method = Unit {0}
  IsPlain (next_after m) = Unit {0}
  IsPlain _ = ⊥

  module _ (templates : List Template) where
    -- An item of a closed program under a frame, for the item that stands here in the phrase that runs. What a quotation or a fry is made of are the items of
    -- the cells that its template captures, and for a fry behind them those that it takes.
    pub data OpensItem (frame : List Item) (at : Literal) : Item → Item → Type 0 where
      o_plain : (i : Item) → IsPlain i → OpensItem frame at i i
      o_local : (k : ℕ) (i : Item) → slice_get frame k ≡ Some i → IsPut i → OpensItem frame at (local k) i
      o_quotation : (k : ℕ) (t : Template) (is : List Item) → slice_get templates k ≡ Some t → t.holes ≡ 0 → (literal_numbered P k).at ≡ at → items_at t.captures frame ≡ Some is → OpensItem frame at (made k) (quot (template_phrase k is))
      o_fry :
          (k : ℕ) (t : Template) (is : List Item) (b : Phrase) → slice_get templates k ≡ Some t → (literal_numbered P k).at ≡ at → items_at t.captures frame ≡ Some is →
          ((js : List Item) → ArePut js → length js ≡ t.holes → put_holes js b ≡ template_phrase k (is ++ js)) → OpensItem frame at (made k) (fry b t.holes)

    -- A phrase of a closed program under a frame, for a phrase whose first item stands here. Behind a local that is bound it does so whatever is put for it.
    pub data Opens : List Item → Literal → Phrase → Phrase → Type 0 where
      o_end : {frame : List Item} {at : Literal} → Opens frame at end end
      o_item : {frame : List Item} {at : Literal} {j i : Item} {p : Place} {c t : Phrase} → OpensItem frame at j i → Opens frame (behind at i) c t → Opens frame at (then j p c) (then i p t)
      o_bind :
          {frame : List Item} {at : Literal} {x : ℕ} {p : Place} {c t : Phrase} →
          ((v : Item) → IsPut v → Opens (frame ++ v ∷ []) (behind at (bind x)) c (put_local x v t)) → Opens frame at (then (bind (length frame)) p c) (then (bind x) p t)
