-- The names behind arrays that `cond` could read, found from the last element on.
use Rattle.std.specs.Prelude.{ℕ, List, [], ◌∷◌, map, Option, Some, None, Bool, if◌then◌else◌}
use Rattle.std.specs.Option.{option_map}
use Rattle.fac_source.specs.declared.tree.Bracket.{Bracket}
use Rattle.fac_source.specs.declared.tree.Bracket.TheVariants.{Quotation, Array, Fry}
use Rattle.fac_source.specs.declared.tree.Element.{Element}
use Rattle.fac_source.specs.declared.tree.Element.TheVariants as element
use Rattle.fac_items.specs.declared.behind.Level.{Level as LevelRead}
use Rattle.fac_items.specs.declared.cases.Cases.{Cases}
use Rattle.fac_items.specs.declared.cases.Cases.TheVariants.{Nothing}
use Rattle.fac_items.specs.declared.cases.Child.{Child}
use Rattle.fac_items.specs.declared.cases.Child.TheVariants as child
use Rattle.fac_items.specs.declared.spelled.NameAt.{NameAt}
use Rattle.fac_items.specs.Written.{Tok, Node, n_name}
use Rattle.fac_items.specs.FromElements.{node}
use Rattle.fac_items.specs.inner.CaseLists.{are_cases, array_child, with_child}

abbrev pub name_tok : NameAt → Tok
name_tok n = record { text = n.text.now; place = n.place }

-- what is known of elements: what they are in an array, and the name with which they begin
pub record Level : Type 0 where
  pub cases : Cases
  pub first : Option Tok

-- elements as far as they were read, with those of what is around, and the names behind the arrays among them
pub record Scanned : Type 0 where
  pub here : Level
  pub around : List Level
  pub names : List (Option Tok)

abbrev pub level_seen : LevelRead → Level
level_seen l = record { cases = l.cases; first = option_map name_tok l.first }

abbrev pub names_seen : List (Option NameAt) → List (Option Tok)
names_seen os = map (option_map name_tok) os

abbrev pub none_yet : Level
none_yet = record { cases = Nothing; first = None }

-- one element more before others
abbrev pub with_element : Child → Option Tok → Level → Level
with_element c first l = record { cases = with_child c l.cases; first = first }

abbrev pub leaf_name : Node → Option Tok
leaf_name (n_name t p) = Some (record { text = t.text; place = p })
leaf_name n = None

abbrev pub child_of : Bracket → Cases → Child
child_of Quotation cs = child.Quotation
child_of Fry cs = child.Other
child_of Array cs = array_child cs

-- the name behind an array of these elements, where it is `cond`
abbrev pub cond_name : (List ℕ → Bool) → Option Tok → Option Tok
cond_name is_cond None = None
cond_name is_cond (Some t) = (if is_cond t.text then Some t else None)

abbrev pub name_behind : (List ℕ → Bool) → Cases → Option Tok → Option Tok
name_behind is_cond cs first = (if are_cases cs then cond_name is_cond first else None)

abbrev pub names_with : (List ℕ → Bool) → Bracket → Cases → Option Tok → List (Option Tok) → List (Option Tok)
names_with is_cond Quotation cs first os = os
names_with is_cond Fry cs first os = os
names_with is_cond Array cs first os = name_behind is_cond cs first ∷ os

abbrev pub inner_level : List Level → Level
inner_level [] = none_yet
inner_level (l ∷ ls) = l

abbrev pub outer_levels : List Level → List Level
outer_levels [] = []
outer_levels (l ∷ ls) = ls

-- a bracket that opens is one element of what is around it
abbrev pub opened_before : Child → Scanned → Scanned
opened_before c s = record s { here = with_element c None (inner_level s.around); around = outer_levels s.around }

-- one that opens, with the name behind it where it is an array
abbrev pub bracket_before : (List ℕ → Bool) → Bracket → Scanned → Scanned
bracket_before is_cond b s = opened_before (child_of b s.here.cases) (record s { names = names_with is_cond b s.here.cases (inner_level s.around).first s.names })

-- one that closes, before which elements begin anew
abbrev pub closed_before : Scanned → Scanned
closed_before s = record s { here = none_yet; around = s.here ∷ s.around }

abbrev pub scanned : (List ℕ → Bool) → Element → Scanned → Scanned
scanned is_cond (element.Item t) s = record s { here = with_element child.Other (leaf_name (node t)) s.here }
scanned is_cond (element.Opens b p) s = bracket_before is_cond b s
scanned is_cond (element.OpensLocals p names bar) s = opened_before child.Other s
scanned is_cond (element.Closes b p) s = closed_before s

abbrev pub all_scanned : (List ℕ → Bool) → List Element → Scanned → Scanned
all_scanned is_cond [] s = s
all_scanned is_cond (e ∷ es) s = scanned is_cond e (all_scanned is_cond es s)

abbrev pub none_scanned : Scanned
none_scanned = record { here = none_yet; around = []; names = [] }
