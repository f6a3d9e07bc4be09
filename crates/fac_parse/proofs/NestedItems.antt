-- That the items and the literal of a form are those that nest well, and that they nest in one way.
use Rattle.std.proofs.Common.{◌≡◌, ℕ, Option, Some, None, List, [], ◌∷◌, ◌++◌, length, refl, sym, ap, ◌∙◌, subst, append_assoc, append-nil, arith}
use Rattle.fac_base.specs.declared.place.Place.{Place}
use Rattle.fac_source.specs.declared.tree.Term.{Term}
use Rattle.fac_source.specs.declared.tree.Term.TheVariants as term
use Rattle.fac_source.specs.declared.tree.Element.{Element}
use Rattle.fac_source.specs.declared.tree.Element.TheVariants as element
use Rattle.fac_source.specs.declared.tree.Bracket.{Bracket}
use Rattle.fac_source.specs.declared.tree.Bracket.TheVariants.{Quotation, Array, Fry}
use Rattle.fac_parse.specs.declared.context.Around.TheVariants as in_a
use Rattle.fac_parse.specs.declared.context.Context.{Context}
use Rattle.fac_parse.specs.Contexts.{behind, inside, items_in, most_levels, opened, opens_in}
use Rattle.fac_parse.specs.Trees.{AreItems, Encloses, IsElement, IsLiteral, IsLiteralBracket, IsLiteralTerm, Lead}
use Rattle.fac_parse.specs.Nesting.{Node, single, enclosed, with_inputs, Nodes, nothing, more, closing, nodes_elements, node_elements, levels_of, holes_of, AreWell, Nest, ItemsNest, OneNesting, IsLiteralNode, NestsAsLiteral, LiteralsNest}
use Rattle.fac_parse.proofs.NestingLemmas.{Under, UnderOne, larger_of_both, under_first, same_counts, opens_there, closes_there, leads, is_closing}
use Rattle.fac_parse.proofs.NestingReads.{Sound, Opened, inside_sound, bracket_closes, split}

-- Items.

abbrev pub LeadsOut : List Context → List Element → Type 0
LeadsOut from es = (to : Context) × Lead from es (to ∷ [])

abbrev pub Anywhere : List Context → Type 0
Anywhere cs = Unit {0}

lead_build : (c : Context) (cs : List Context) (e : Element) (es : List Element) (next : List Context) → Anywhere cs → IsElement e → behind (c ∷ cs) e ≡ Some next → LeadsOut next es → LeadsOut (c ∷ cs) (e ∷ es)
lead_build c cs e es next w i h g = (g.0, (i, next, h, g.1))

lead_first : (c : Context) (cs : List Context) (e : Element) (es : List Element) → LeadsOut (c ∷ cs) (e ∷ es) → IsElement e × (next : List Context) × (behind (c ∷ cs) e ≡ Some next) × LeadsOut next es
lead_first c cs e es g = (g.1.0, g.1.1, g.1.2, (g.0, g.1.3))

lead_open : (c d : Context) (cs : List Context) → LeadsOut (c ∷ d ∷ cs) [] → ⊥
lead_open c d cs g = let e : c ∷ d ∷ cs ≡ g.0 ∷ [] = g.1 in cc

outside_sound : (scope : Option ℕ) → Sound (items_in scope) []
outside_sound scope = record { elements = tt; holes_within = tt; none_in_arrays = tt }

well_of : (scope : Option ℕ) (xs : Nodes) → Under (items_in scope) 0 xs → AreWell scope xs
well_of scope xs u = record { spelled = u.spelled; few_levels = omega (arith, u.few); arrays = u.arrays; locals = u.scope; holes_in_fries = u.fit; no_hole_outside = u.taken }

under_of : (scope : Option ℕ) (xs : Nodes) → AreWell scope xs → Under (items_in scope) 0 xs
under_of scope xs w = record { spelled = w.spelled; few = omega (arith, w.few_levels); room = tt; arrays = w.arrays; scope = w.locals; fit = w.holes_in_fries; taken = w.no_hole_outside }

items_read : (scope : Option ℕ) (es : List Element) → AreItems scope es → Nest scope es
items_read scope es h =
    let r = split LeadsOut lead_first lead_open (length es) (items_in scope) [] es (omega arith) (outside_sound scope) (omega arith) h in
    record { nodes = r.nodes; written = r.ends; well = well_of scope r.nodes r.under }

items_written : (scope : Option ℕ) (es : List Element) → Nest scope es → AreItems scope es
items_written scope es n =
    let l = leads LeadsOut Anywhere (λ (c : Context) (cs : List Context). tt) lead_build (items_in scope) [] n.nodes tt (under_of scope n.nodes n.well) in
    subst (AreItems scope) (append-nil (nodes_elements n.nodes) ∙ sym n.written) (l.go [] (l.context, refl))

pub items_nest : ItemsNest
items_nest scope es = (items_read scope es, items_written scope es)

-- Literals.

abbrev pub Enclosing : List Context → Type 0
Enclosing [] = ⊥
Enclosing (c ∷ cs) = Unit {0}

encloses_build : (c : Context) (cs : List Context) (e : Element) (es : List Element) (next : List Context) → Enclosing cs → IsElement e → behind (c ∷ cs) e ≡ Some next → Encloses next es → Encloses (c ∷ cs) (e ∷ es)
encloses_build c [] e es next w i h g = absurd w
encloses_build c (d ∷ cs) e es next w i h g = (i, next, h, g)

encloses_first : (c : Context) (cs : List Context) (e : Element) (es : List Element) → Encloses (c ∷ cs) (e ∷ es) → IsElement e × (next : List Context) × (behind (c ∷ cs) e ≡ Some next) × Encloses next es
encloses_first c [] e es g = absurd g
encloses_first c (d ∷ cs) e es g = g

encloses_open : (c d : Context) (cs : List Context) → Encloses (c ∷ d ∷ cs) [] → ⊥
encloses_open c d cs g = g

nothing_behind : (c : Context) (es : List Element) → Encloses (c ∷ []) es → es ≡ []
nothing_behind c [] g = refl
nothing_behind c (e ∷ es) g = absurd g

well_alone : (x : Node) → UnderOne (items_in None) 0 x → AreWell None (more x nothing)
well_alone x u = record {
  spelled = (u.spelled, tt);
  few_levels = let low = larger_of_both (levels_of x) 0 0 most_levels u.few (omega arith) in omega (arith, low);
  arrays = (u.arrays, tt);
  locals = (u.scope, tt);
  holes_in_fries = (u.fit, tt);
  no_hole_outside = let none : holes_of x ≡ 0 = u.taken in omega (arith, none);
}

abbrev outside : Context
outside = items_in None

opened_outside : (bracket : Bracket) → Opened outside [] bracket (inside bracket outside ∷ outside ∷ [])
opened_outside bracket = record { outer = outside; counts = same_counts in_a.Items outside refl refl; is = refl; low = omega arith; room = λ (opens : Place) (xs : Nodes) (closes : Place). tt; sound = outside_sound None; sound_inside = inside_sound bracket outside [] (outside_sound None) }

literal_bracket : (bracket : Bracket) (opens : Place) (xs : Nodes) (closes : Place) → IsLiteralBracket bracket → IsLiteralNode (enclosed bracket opens xs closes)
literal_bracket Quotation opens xs closes h = tt
literal_bracket Array opens xs closes h = tt
literal_bracket Fry opens xs closes h = absurd h

bracket_read : (bracket : Bracket) (opens : Place) (es : List Element) → IsLiteralBracket bracket → Encloses (inside bracket outside ∷ outside ∷ []) es → NestsAsLiteral (element.Opens bracket opens ∷ es)
unfolding opened_outside
bracket_read bracket opens es is h =
    let r = split Encloses encloses_first encloses_open (length es) (inside bracket outside) (outside ∷ []) es (omega arith) (inside_sound bracket outside [] (outside_sound None)) (omega arith) h in
    let k = r.ends in
    let closes = bracket_closes outside [] bracket (inside bracket outside ∷ outside ∷ []) (opened_outside bracket) opens r.nodes r.context k.bracket k.place k.next (outside_sound None) r.under r.behind_them k.is_element k.is in
    let none : k.rest ≡ [] = nothing_behind closes.stands.context k.rest (subst (λ (cs : List Context). Encloses cs k.rest) closes.stands.is k.goes) in
    let written : es ≡ nodes_elements r.nodes ++ element.Closes (closing bracket) k.place ∷ [] = k.written ∙ ap (λ (rest : List Element). nodes_elements r.nodes ++ element.Closes k.bracket k.place ∷ rest) none ∙ ap (λ (b : Bracket). nodes_elements r.nodes ++ element.Closes b k.place ∷ []) closes.is_closing in
    record { node = enclosed bracket opens r.nodes k.place; written = ap (λ (all : List Element). element.Opens bracket opens ∷ all) written; literal = literal_bracket bracket opens r.nodes k.place is; well = well_alone (enclosed bracket opens r.nodes k.place) closes.stands.under }

term_read : (t : Term) → IsLiteralTerm t → NestsAsLiteral (element.Item t ∷ [])
term_read (term.Name token) h = absurd h
term_read (term.EffectCall callee sign tokens height) h = absurd h
term_read (term.NextMethod place) h = absurd h
term_read (term.Bind sign name) h = absurd h
term_read (term.Hole place) h = absurd h
term_read (term.CalledHole place) h = absurd h
term_read (term.Wrapped sign name) h = record { node = single (term.Wrapped sign name); written = refl; literal = tt; well = record { spelled = (h, tt); few_levels = omega arith; arrays = (tt, tt); locals = (tt, tt); holes_in_fries = (tt, tt); no_hole_outside = refl } }
term_read (term.Literal token l) h = record { node = single (term.Literal token l); written = refl; literal = tt; well = record { spelled = (h, tt); few_levels = omega arith; arrays = (tt, tt); locals = (tt, tt); holes_in_fries = (tt, tt); no_hole_outside = refl } }

literal_read : (es : List Element) → IsLiteral es → NestsAsLiteral es
literal_read [] h = absurd h
literal_read (element.Item t ∷ []) h = term_read t h
literal_read (element.Item t ∷ e ∷ es) h = absurd h
literal_read (element.Opens bracket place ∷ es) h = bracket_read bracket place es h.0 h.1
literal_read (element.OpensLocals opens names bar ∷ es) h = absurd h
literal_read (element.Closes bracket place ∷ es) h = absurd h

outside_only : (bracket : Bracket) (outer : Context) → opened bracket (opens_in bracket (outside ∷ [])) ≡ Some (inside bracket outer ∷ outer ∷ []) → outer ≡ outside
outside_only Quotation outer e = let same : inside Quotation outside ∷ outside ∷ [] ≡ inside Quotation outer ∷ outer ∷ [] = cc in cc
outside_only Array outer e = let same : inside Array outside ∷ outside ∷ [] ≡ inside Array outer ∷ outer ∷ [] = cc in cc
outside_only Fry outer e = let same : inside Fry outside ∷ outside ∷ [] ≡ inside Fry outer ∷ outer ∷ [] = cc in cc

bracket_written : (bracket : Bracket) (opens : Place) (xs : Nodes) (closes : Place) → UnderOne outside 0 (enclosed bracket opens xs closes) → Encloses (inside bracket outside ∷ outside ∷ []) (nodes_elements xs ++ element.Closes (closing bracket) closes ∷ [])
bracket_written bracket opens xs closes u =
    let o = opens_there outside [] bracket opens xs closes u in
    let within : (c : Context) (cs : List Context) → Enclosing (c ∷ cs) = λ (c : Context) (cs : List Context). tt in
    let inner = leads Encloses Enclosing within encloses_build (inside bracket o.outer) (o.outer ∷ []) xs tt o.under in
    let p = closes_there outside o.outer [] bracket opens xs closes inner.context o.counts inner.behind_them in
    let last : Element = element.Closes (closing bracket) closes in
    let all = inner.go (last ∷ []) (is_closing Encloses Enclosing within encloses_build bracket closes, p.context ∷ [], p.is, tt) in
    subst (λ (c : Context). Encloses (inside bracket c ∷ c ∷ []) (nodes_elements xs ++ last ∷ [])) (outside_only bracket o.outer o.is) all

node_written : (x : Node) → IsLiteralNode x → UnderOne outside 0 x → IsLiteral (node_elements x)
node_written (single (term.Name token)) h u = absurd h
node_written (single (term.EffectCall callee sign tokens height)) h u = absurd h
node_written (single (term.NextMethod place)) h u = absurd h
node_written (single (term.Bind sign name)) h u = absurd h
node_written (single (term.Hole place)) h u = absurd h
node_written (single (term.CalledHole place)) h u = absurd h
node_written (single (term.Wrapped sign name)) h u = u.spelled
node_written (single (term.Literal token l)) h u = u.spelled
node_written (enclosed Quotation opens xs closes) h u = (tt, bracket_written Quotation opens xs closes u)
node_written (enclosed Array opens xs closes) h u = (tt, bracket_written Array opens xs closes u)
node_written (enclosed Fry opens xs closes) h u = absurd h
node_written (with_inputs opens names bar xs closes) h u = absurd h

literal_written : (es : List Element) → NestsAsLiteral es → IsLiteral es
literal_written es n = subst IsLiteral (sym n.written) (node_written n.node n.literal (under_first outside 0 n.node nothing (under_of None (more n.node nothing) n.well)))

pub literals_nest : LiteralsNest
literals_nest es = (literal_read es, literal_written es)

-- One way.

-- nothing is left, or what closes
abbrev pub Stops : List Element → Type 0
Stops [] = Unit {0}
Stops (element.Closes bracket place ∷ es) = Unit {0}
Stops _ = ⊥

stops_before : (x : Node) (es : List Element) → Stops (node_elements x ++ es) → ⊥
stops_before (single t) es h = h
stops_before (enclosed bracket opens xs closes) es h = h
stops_before (with_inputs opens names bar xs closes) es h = h

record Same {A : Type 0} (x y : A) (r s : List Element) : Type 0 where
  pub is : x ≡ y
  pub left : r ≡ s

pair_left : (xs ys : Nodes) (p q : Element) (r s : List Element) → (nodes_elements xs ++ p ∷ []) ++ r ≡ (nodes_elements ys ++ q ∷ []) ++ s → nodes_elements xs ++ p ∷ r ≡ nodes_elements ys ++ q ∷ s
pair_left xs ys p q r s e = sym (append_assoc (nodes_elements xs) (p ∷ []) r) ∙ e ∙ append_assoc (nodes_elements ys) (q ∷ []) s

mutual
  same_nodes : (xs ys : Nodes) (r s : List Element) → Stops r → Stops s → nodes_elements xs ++ r ≡ nodes_elements ys ++ s → Same xs ys r s
  same_nodes nothing nothing r s f g e = record { is = refl; left = e }
  same_nodes nothing (more y ys) r s f g e = absurd (stops_before y (nodes_elements ys ++ s) (subst Stops (e ∙ append_assoc (node_elements y) (nodes_elements ys) s) f))
  same_nodes (more x xs) nothing r s f g e = absurd (stops_before x (nodes_elements xs ++ r) (subst Stops (sym e ∙ append_assoc (node_elements x) (nodes_elements xs) r) g))
  same_nodes (more x xs) (more y ys) r s f g e =
      let one = same_node x y (nodes_elements xs ++ r) (nodes_elements ys ++ s) (sym (append_assoc (node_elements x) (nodes_elements xs) r) ∙ e ∙ append_assoc (node_elements y) (nodes_elements ys) s) in
      let all = same_nodes xs ys r s f g one.left in
      record { is = rw (one.is, all.is) refl; left = all.left }

  same_node : (x y : Node) (r s : List Element) → node_elements x ++ r ≡ node_elements y ++ s → Same x y r s
  same_node (single t) (single u) r s e = record { is = cc; left = cc }
  same_node (single t) (enclosed bracket opens xs closes) r s e = absurd cc
  same_node (single t) (with_inputs opens names bar xs closes) r s e = absurd cc
  same_node (enclosed bracket opens xs closes) (single t) r s e = absurd cc
  same_node (enclosed bracket opens xs closes) (with_inputs at names bar ys ends) r s e = absurd cc
  same_node (with_inputs opens names bar xs closes) (single t) r s e = absurd cc
  same_node (with_inputs opens names bar xs closes) (enclosed bracket at ys ends) r s e = absurd cc
  same_node (enclosed a opens xs closes) (enclosed b at ys ends) r s e =
      let kind : a ≡ b = cc in
      let place : opens ≡ at = cc in
      let tails : (nodes_elements xs ++ element.Closes (closing a) closes ∷ []) ++ r ≡ (nodes_elements ys ++ element.Closes (closing b) ends ∷ []) ++ s = cc in
      let inner = same_nodes xs ys (element.Closes (closing a) closes ∷ r) (element.Closes (closing b) ends ∷ s) tt tt (pair_left xs ys (element.Closes (closing a) closes) (element.Closes (closing b) ends) r s tails) in
      let both = inner.left in
      let end : closes ≡ ends = cc in
      record { is = rw (kind, place, inner.is, end) refl; left = cc }
  same_node (with_inputs opens names bar xs closes) (with_inputs at others line ys ends) r s e =
      let place : opens ≡ at = cc in
      let inputs : names ≡ others = cc in
      let bars : bar ≡ line = cc in
      let tails : (nodes_elements xs ++ element.Closes Quotation closes ∷ []) ++ r ≡ (nodes_elements ys ++ element.Closes Quotation ends ∷ []) ++ s = cc in
      let inner = same_nodes xs ys (element.Closes Quotation closes ∷ r) (element.Closes Quotation ends ∷ s) tt tt (pair_left xs ys (element.Closes Quotation closes) (element.Closes Quotation ends) r s tails) in
      let both = inner.left in
      let end : closes ≡ ends = cc in
      record { is = rw (place, inputs, bars, inner.is, end) refl; left = cc }

pub one_nesting : OneNesting
one_nesting xs ys e = (same_nodes xs ys [] [] tt tt (append-nil (nodes_elements xs) ∙ e ∙ sym (append-nil (nodes_elements ys)))).is
