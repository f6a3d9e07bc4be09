-- `::`, `[|`, `@`, `cond`, `C:` and `CONSTANT:` as rewritings of trees.
use Rattle.std.specs.Prelude.{ℕ, List, [], ◌∷◌, ◌++◌, Option, Some, None, Bool, true, false, ◌&&◌, not, codes, if◌then◌else◌}
use Rattle.fac_lang.specs.Whole.{plain_effect}
use Rattle.fac_base.specs.declared.place.Place.{Place}
use Rattle.fac_source.specs.Toks.{is_among, texts_of}
use Rattle.fac_items.specs.Written.{Tok, Node, n_array, n_quot, n_name, n_locals, n_fry, n_bind, n_hole, n_at, n_full, n_part, Nodes, nothing, more, given, makes, Form, f_constant, f_define, f_locals, f_maker, f_items}

abbrev pub joined : Nodes → Nodes → Nodes
joined nothing ms = ms
joined (more n ns) ms = more n (joined ns ms)

-- the locals in scope behind a node, the innermost first
abbrev pub bound : Node → List (List ℕ) → List (List ℕ)
bound (n_bind t twice p) locals = t.text ∷ locals
bound _ locals = locals

-- `:> b :> a` before items, for the inputs a b; `earlier` are the inputs before these
abbrev pub bindings : List Tok → List (List ℕ) → Nodes → Nodes
bindings [] earlier ns = ns
bindings (t ∷ ts) earlier ns = bindings ts (t.text ∷ earlier) (more (n_bind t (is_among t.text earlier) t.place) ns)

abbrev pub with_inputs : List Tok → Nodes → Nodes
with_inputs ts ns = bindings ts [] ns

-- whether the elements of an array are those of `{ { [ T ] [ B ] } .. [ D ] }`
abbrev pub are_pairs : Nodes → Bool
are_pairs nothing = true
are_pairs (more (n_quot d p) nothing) = true
are_pairs (more (n_array (more (n_quot t p) (more (n_quot b q) nothing)) r) es) = are_pairs es
are_pairs _ = false

-- The place of `cond` where items begin with it. `is_cond` tells the names that the search takes to the word `cond`.
abbrev pub cond_first : (List ℕ → Bool) → List (List ℕ) → Nodes → Option Place
cond_first is_cond locals (more (n_name t p) ns) = (if not (is_among t.text locals) && is_cond t.text then Some p else None)
cond_first is_cond locals _ = None

abbrev pub behind_first : Nodes → Nodes
behind_first nothing = nothing
behind_first (more n ns) = ns

-- items with their readings, where these locals are in scope
abbrev mutual
  pub read_items : (List ℕ → Bool) → List (List ℕ) → Nodes → Nodes
  read_items is_cond locals nothing = nothing
  read_items is_cond locals (more n ns) = before is_cond locals n (read_items is_cond (bound n locals) ns)

  -- a node before items that are read already
  pub before : (List ℕ → Bool) → List (List ℕ) → Node → Nodes → Nodes
  before is_cond locals (n_array es q) rest =
      elim (if are_pairs es then cond_first is_cond locals rest else None) [
        | Some p ↦ joined (read_pairs is_cond locals p es) (behind_first rest)
        | None ↦ more (n_array (read_elements is_cond es) q) rest
      ]
  before is_cond locals (n_quot ns p) rest = more (n_quot (read_items is_cond locals ns) p) rest
  before is_cond locals (n_locals ts ns p) rest = more (n_quot (bindings ts [] (read_items is_cond (texts_of ts ++ locals) ns)) p) rest
  before is_cond locals (n_fry ns p) rest = more (n_fry (read_items is_cond locals ns) p) rest
  before is_cond locals (n_at p) rest = more (n_hole p) (more (n_full (codes "kernel") (codes "call") p) rest)
  before is_cond locals n rest = more n rest

  -- the elements of an array, whose quotations see no locals of around
  pub read_elements : (List ℕ → Bool) → Nodes → Nodes
  read_elements is_cond nothing = nothing
  read_elements is_cond (more e es) = more (read_element is_cond e) (read_elements is_cond es)

  pub read_element : (List ℕ → Bool) → Node → Node
  read_element is_cond (n_array es p) = n_array (read_elements is_cond es) p
  read_element is_cond (n_quot ns p) = n_quot (read_items is_cond [] ns) p
  read_element is_cond e = e

  -- the pairs before a `cond` at a place
  pub read_pairs : (List ℕ → Bool) → List (List ℕ) → Place → Nodes → Nodes
  read_pairs is_cond locals p nothing = more (n_full (codes "combinators.private") (codes "(no-cond)") p) nothing
  read_pairs is_cond locals p (more (n_array (more t (more b ms)) q) es) =
      before is_cond locals t (more (n_full (codes "kernel") (codes "call") p) (
      before is_cond locals b (more (n_quot (read_pairs is_cond locals p es) p) (more (n_full (codes "kernel") (codes "if") p) nothing))))
  read_pairs is_cond locals p (more (n_quot ns q) es) = more (n_part (read_items is_cond locals ns)) nothing
  read_pairs is_cond locals p _ = nothing

-- a form by itself
abbrev pub read_form : Form → Form
read_form (f_locals n inputs e ns inline recursive) = f_define n (given e) (with_inputs inputs ns) inline recursive
read_form (f_constant n literal) = f_define n (given (plain_effect [] (codes "value" ∷ []))) (more literal nothing) false false
read_form (f_maker n c) = f_define n (makes c) (more (n_name c n.place) (more (n_full (codes "kernel") (codes "boa") n.place) nothing)) false false
read_form form = form

-- items before forms: those that follow are with them
abbrev pub with_items : Nodes → List Form → List Form
with_items ns (f_items ms ∷ forms) = f_items (joined ns ms) ∷ forms
with_items ns forms = f_items ns ∷ forms

-- the forms of a file, in which no two lists of items stand directly behind one another
abbrev pub read_forms : List Form → List Form
read_forms [] = []
read_forms (f_items ns ∷ forms) = with_items ns (read_forms forms)
read_forms (form ∷ forms) = read_form form ∷ read_forms forms
