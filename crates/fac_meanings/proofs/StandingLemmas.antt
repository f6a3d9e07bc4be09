-- Items as they stand.
use Rattle.std.proofs.Common.{◌≡◌, ℕ, suc, List, [], ◌∷◌, ◌++◌, map, length, Bool, true, false, Option, Some, None, refl, ap, sym, ◌∙◌, append_assoc, append-nil, arith}
use Rattle.std.specs.Prelude.{drop}
use Rattle.fac_lang.specs.Phrases.{lit, wrd, word, bind, hole, call_effect, execute_effect, next_method}
use Rattle.fac_base.specs.declared.place.Place.{Place}
use Rattle.fac_lang.specs.declared.program.Lit.TheVariants as literal_is
use Rattle.fac_source.specs.declared.tree.Bracket.{Bracket}
use Rattle.fac_source.specs.declared.tree.Bracket.TheVariants.{Quotation, Array, Fry}
use Rattle.fac_source.specs.declared.tree.Callee.{Callee}
use Rattle.fac_source.specs.declared.tree.Callee.TheVariants.{Callable, Word}
use Rattle.fac_source.specs.declared.tree.Element.{Element}
use Rattle.fac_source.specs.declared.tree.Element.TheVariants as element
use Rattle.fac_source.specs.declared.tree.Term.{Term}
use Rattle.fac_source.specs.declared.tree.Term.TheVariants as term
use Rattle.fac_items.specs.Written.{Node, n_lit, n_array, n_quot, n_ref, n_name, n_locals, n_fry, n_call_effect, n_execute_effect, n_bind, n_hole, n_at, n_next, n_full, n_part, Nodes, nothing, more}
use Rattle.fac_items.specs.FromElements.{AreClosing, Rests, bracketed, nested, node, opened, rests, tested_call, tok}
use Rattle.fac_items.specs.Items.{literal}
use Rattle.fac_items.proofs.RawNodes.{AreRaw, AreRawElements, nested_raw}
use Rattle.fac_names.proofs.BracketLemmas.{items_closing}
use Rattle.fac_meanings.specs.Signs.{Sign, closes, filled, one, opens, place_in, tested_item, value, within}
use Rattle.fac_meanings.specs.Meanings.{Words, bindings_signs, cases, holes_behind, meanings, named_item, values}
use Rattle.fac_meanings.specs.Standing.{HasNoCases, HaveNoCases, ItemsStand, Level, behind_term, closing, end_by, end_signs, holes_beyond, holes_of, inside, inside_locals, item_signs, outermost, standing, term_signs, value_signs}

-- Nodes, with what stands behind each.

abbrev mutual
  nodes_end : Level → Nodes → Level
  nodes_end l nothing = l
  nodes_end l (more n ns) = nodes_end (behind_node n l) ns

  behind_node : Node → Level → Level
  behind_node (n_bind t twice p) l = record l { locals = t.text ∷ l.locals }
  behind_node (n_hole p) l = record l { holes = suc l.holes }
  behind_node (n_at p) l = record l { holes = suc l.holes }
  behind_node (n_quot ms p) l = closing (nodes_end (inside Quotation l) ms) l
  behind_node (n_fry ms p) l = closing (nodes_end (inside Fry l) ms) l
  behind_node (n_array es p) l = closing (nodes_end (inside Array l) es) l
  behind_node (n_locals ts ms p) l = closing (nodes_end (inside_locals ts l) ms) l
  behind_node n l = l

mutual
  end_bracket : (l : Level) (ns : Nodes) → (nodes_end l ns).bracket ≡ l.bracket
  end_bracket l nothing = refl
  end_bracket l (more n ns) = end_bracket (behind_node n l) ns ∙ node_bracket n l

  node_bracket : (n : Node) (l : Level) → (behind_node n l).bracket ≡ l.bracket
  node_bracket (n_lit x p) l = refl
  node_bracket (n_array es p) l = refl
  node_bracket (n_quot ms p) l = refl
  node_bracket (n_ref t p) l = refl
  node_bracket (n_name t p) l = refl
  node_bracket (n_locals ts ms p) l = refl
  node_bracket (n_fry ms p) l = refl
  node_bracket (n_call_effect h p) l = refl
  node_bracket (n_execute_effect h p) l = refl
  node_bracket (n_bind t twice p) l = refl
  node_bracket (n_hole p) l = refl
  node_bracket (n_at p) l = refl
  node_bracket (n_next p) l = refl
  node_bracket (n_full vocab name p) l = refl
  node_bracket (n_part ms) l = refl

-- What they mean.

abbrev item_node : Words → Level → Node → List Sign
item_node ws l (n_lit x p) = one (lit x) p ∷ []
item_node ws l (n_ref t p) = one (lit (wrd (ws.named t.text))) p ∷ []
item_node ws l (n_name t p) = one (named_item ws l.locals t.text) p ∷ []
item_node ws l (n_call_effect h p) = one (call_effect h) p ∷ []
item_node ws l (n_execute_effect h p) = one (execute_effect h) p ∷ []
item_node ws l (n_next p) = one next_method p ∷ []
item_node ws l (n_bind t twice p) = one (bind (length l.locals)) p ∷ []
item_node ws l (n_hole p) = one (hole l.holes) p ∷ []
item_node ws l (n_at p) = one (hole l.holes) p ∷ one (word ws.calling) p ∷ []
item_node ws l _ = []

abbrev value_node : Words → Node → List Sign
value_node ws (n_lit x p) = value (literal x) ∷ []
value_node ws (n_ref t p) = value (literal_is.Wref (ws.named t.text)) ∷ []
value_node ws (n_name t p) = value (literal_is.Wref (ws.named t.text)) ∷ []
value_node ws _ = []

abbrev leaf_signs : Words → Bracket → Level → Node → List Sign
leaf_signs ws Quotation l n = item_node ws l n
leaf_signs ws Fry l n = item_node ws l n
leaf_signs ws Array l n = value_node ws n

abbrev mutual
  nodes_signs : Words → Level → Nodes → List Sign
  nodes_signs ws l nothing = []
  nodes_signs ws l (more n ns) = node_signs ws l n ++ nodes_signs ws (behind_node n l) ns

  node_signs : Words → Level → Node → List Sign
  node_signs ws l (n_quot ms p) = opens Quotation (place_in l.bracket p) ∷ (nodes_signs ws (inside Quotation l) ms ++ end_signs (nodes_end (inside Quotation l) ms))
  node_signs ws l (n_fry ms p) = opens Fry (place_in l.bracket p) ∷ (nodes_signs ws (inside Fry l) ms ++ end_signs (nodes_end (inside Fry l) ms))
  node_signs ws l (n_array es p) = opens Array (place_in l.bracket p) ∷ (nodes_signs ws (inside Array l) es ++ end_signs (nodes_end (inside Array l) es))
  node_signs ws l (n_locals ts ms p) = opens Quotation (place_in l.bracket p) ∷ (bindings_signs (length l.locals) ts ++ (nodes_signs ws (inside_locals ts l) ms ++ end_signs (nodes_end (inside_locals ts l) ms)))
  node_signs ws l n = leaf_signs ws l.bracket l n

-- The items of elements.

item_term : (ws : Words) (l : Level) (t : Term) → item_node ws l (node t) ≡ item_signs ws l t
item_term ws l (term.Name t) = refl
item_term ws l (term.Wrapped sign name) = refl
item_term ws l (term.EffectCall callee sign tokens height) = tested callee
  where
    tested : (c : Callee) → item_node ws l (tested_call c height sign) ≡ one (tested_item c height) sign ∷ []
    tested Callable = refl
    tested Word = refl
item_term ws l (term.Literal t x) = refl
item_term ws l (term.NextMethod place) = refl
item_term ws l (term.Bind sign name) = refl
item_term ws l (term.Hole place) = refl
item_term ws l (term.CalledHole place) = refl

value_term : (ws : Words) (t : Term) → value_node ws (node t) ≡ value_signs ws t
value_term ws (term.Name t) = refl
value_term ws (term.Wrapped sign name) = refl
value_term ws (term.EffectCall callee sign tokens height) = tested callee
  where
    tested : (c : Callee) → value_node ws (tested_call c height sign) ≡ []
    tested Callable = refl
    tested Word = refl
value_term ws (term.Literal t x) = refl
value_term ws (term.NextMethod place) = refl
value_term ws (term.Bind sign name) = refl
value_term ws (term.Hole place) = refl
value_term ws (term.CalledHole place) = refl

leaf_term : (ws : Words) (b : Bracket) (l : Level) (t : Term) → leaf_signs ws b l (node t) ≡ term_signs ws b l t
leaf_term ws Quotation l t = item_term ws l t
leaf_term ws Fry l t = item_term ws l t
leaf_term ws Array l t = value_term ws t

node_leaf : (ws : Words) (l : Level) (t : Term) → node_signs ws l (node t) ≡ leaf_signs ws l.bracket l (node t)
node_leaf ws l (term.Name t) = refl
node_leaf ws l (term.Wrapped sign name) = refl
node_leaf ws l (term.EffectCall callee sign tokens height) = tested callee
  where
    tested : (c : Callee) → node_signs ws l (tested_call c height sign) ≡ leaf_signs ws l.bracket l (tested_call c height sign)
    tested Callable = refl
    tested Word = refl
node_leaf ws l (term.Literal t x) = refl
node_leaf ws l (term.NextMethod place) = refl
node_leaf ws l (term.Bind sign name) = refl
node_leaf ws l (term.Hole place) = refl
node_leaf ws l (term.CalledHole place) = refl

behind_is : (t : Term) (l : Level) → behind_node (node t) l ≡ behind_term t l
behind_is (term.Name t) l = refl
behind_is (term.Wrapped sign name) l = refl
behind_is (term.EffectCall callee sign tokens height) l = tested callee
  where
    tested : (c : Callee) → behind_node (tested_call c height sign) l ≡ l
    tested Callable = refl
    tested Word = refl
behind_is (term.Literal t x) l = refl
behind_is (term.NextMethod place) l = refl
behind_is (term.Bind sign name) l = refl
behind_is (term.Hole place) l = refl
behind_is (term.CalledHole place) l = refl

-- Elements by their nodes.

-- what is around, each behind the end of the bracket before it
abbrev around_signs : Words → Level → List Level → List Nodes → List Sign
around_signs ws l [] nss = []
around_signs ws l (o ∷ around) [] = []
around_signs ws l (o ∷ around) (ns ∷ nss) = end_signs l ++ (nodes_signs ws (closing l o) ns ++ around_signs ws (nodes_end (closing l o) ns) around nss)

-- so many levels are around, and what follows means this
record Spells (ws : Words) (l : Level) (around : List Level) (r : Rests) (signs : List Sign) : Type 0 where
  around_so : length r.around ≡ length around
  written : nodes_signs ws l r.here ++ around_signs ws (nodes_end l r.here) around r.around ≡ signs

five_grouped : (vs bs cs ds es : List Sign) → ((vs ++ (bs ++ cs)) ++ ds) ++ es ≡ vs ++ (bs ++ (cs ++ (ds ++ es)))
five_grouped vs bs cs ds es = simp append_assoc

opened_spells : (ws : Words) (l : Level) (around : List Level) (n : Node) (inner : Level) (front : List Sign) (here : Nodes) (nss : List Nodes) (all : List Sign) →
    node_signs ws l n ≡ front ++ (nodes_signs ws inner here ++ end_signs (nodes_end inner here)) → behind_node n l ≡ closing (nodes_end inner here) l → length nss ≡ suc (length around) →
    nodes_signs ws inner here ++ around_signs ws (nodes_end inner here) (l ∷ around) nss ≡ all → Spells ws l around (opened n nss) (front ++ all)
opened_spells ws l around n inner front here [] all is behind so rest = absurd (omega (arith, so))
opened_spells ws l around n inner front here (ns ∷ nss) all is behind so rest =
    let last = nodes_end inner here in
    record {
      around_so = omega (arith, so);
      written =
          ap (λ (m : Level). (node_signs ws l n ++ nodes_signs ws m ns) ++ around_signs ws (nodes_end m ns) around nss) behind
          ∙ ap (λ (xs : List Sign). (xs ++ nodes_signs ws (closing last l) ns) ++ around_signs ws (nodes_end (closing last l) ns) around nss) is
          ∙ five_grouped front (nodes_signs ws inner here) (end_signs last) (nodes_signs ws (closing last l) ns) (around_signs ws (nodes_end (closing last l) ns) around nss)
          ∙ ap (λ (xs : List Sign). front ++ xs) rest;
    }

bracket_signs : (ws : Words) (l : Level) (b : Bracket) (ms : Nodes) (p : Place) → node_signs ws l (bracketed b ms p) ≡ (opens b (place_in l.bracket p) ∷ []) ++ (nodes_signs ws (inside b l) ms ++ end_signs (nodes_end (inside b l) ms))
bracket_signs ws l Quotation ms p = refl
bracket_signs ws l Array ms p = refl
bracket_signs ws l Fry ms p = refl

bracket_behind : (l : Level) (b : Bracket) (ms : Nodes) (p : Place) → behind_node (bracketed b ms p) l ≡ closing (nodes_end (inside b l) ms) l
bracket_behind l Quotation ms p = refl
bracket_behind l Array ms p = refl
bracket_behind l Fry ms p = refl

spelled : (ws : Words) (bs : List Bracket) (l : Level) (around : List Level) (es : List Element) → length bs ≡ length around → AreClosing bs es → Spells ws l around (rests es) (standing ws l around es)
spelled ws bs l [] [] so h = record { around_so = refl; written = refl }
spelled ws bs l (o ∷ around) [] so h = (let none = ap length h in absurd (omega (arith, so, none)))
spelled ws bs l around (element.Item t ∷ es) so h =
    let rest = spelled ws bs (behind_term t l) around es so h.1 in
    let here = (rests es).here in
    let other = (rests es).around in
    record {
      around_so = rest.around_so;
      written =
          ap (λ (m : Level). (node_signs ws l (node t) ++ nodes_signs ws m here) ++ around_signs ws (nodes_end m here) around other) (behind_is t l)
          ∙ append_assoc (node_signs ws l (node t)) (nodes_signs ws (behind_term t l) here) (around_signs ws (nodes_end (behind_term t l) here) around other)
          ∙ ap (λ (xs : List Sign). xs ++ (nodes_signs ws (behind_term t l) here ++ around_signs ws (nodes_end (behind_term t l) here) around other)) (node_leaf ws l t ∙ leaf_term ws l.bracket l t)
          ∙ ap (λ (xs : List Sign). term_signs ws l.bracket l t ++ xs) rest.written;
    }
spelled ws bs l around (element.Opens b place ∷ es) so h =
    let rest = spelled ws (b ∷ bs) (inside b l) (l ∷ around) es (ap suc so) h.1 in
    opened_spells ws l around (bracketed b (rests es).here place) (inside b l) (opens b (place_in l.bracket place) ∷ []) (rests es).here (rests es).around (standing ws (inside b l) (l ∷ around) es)
    (bracket_signs ws l b (rests es).here place) (bracket_behind l b (rests es).here place) rest.around_so rest.written
spelled ws bs l around (element.OpensLocals place names bar ∷ es) so h =
    let ts = map tok names in
    let rest = spelled ws (Quotation ∷ bs) (inside_locals ts l) (l ∷ around) es (ap suc so) h.1 in
    opened_spells ws l around (n_locals ts (rests es).here place) (inside_locals ts l) (opens Quotation (place_in l.bracket place) ∷ bindings_signs (length l.locals) ts) (rests es).here (rests es).around (standing ws (inside_locals ts l) (l ∷ around) es)
    refl refl rest.around_so rest.written
spelled ws [] l around (element.Closes b place ∷ es) so h = absurd h.0
spelled ws (c ∷ bs) l [] (element.Closes b place ∷ es) so h = absurd (omega (arith, so))
spelled ws (c ∷ bs) l (o ∷ around) (element.Closes b place ∷ es) so h =
    let rest = spelled ws bs (closing l o) around es (omega (arith, so)) h.1 in
    record { around_so = ap suc rest.around_so; written = ap (λ (xs : List Sign). end_signs l ++ xs) rest.written }

-- Items that don't stand directly in an array.

abbrev NotArray : Bracket → Type 0
NotArray Array = ⊥
NotArray _ = Unit {0}

leaf_item : (ws : Words) (b : Bracket) (l : Level) (n : Node) → NotArray b → leaf_signs ws b l n ≡ item_node ws l n
leaf_item ws Quotation l n h = refl
leaf_item ws Fry l n h = refl
leaf_item ws Array l n h = absurd h

place_item : (b : Bracket) (p : Place) → NotArray b → Some p ≡ place_in b p
place_item Quotation p h = refl
place_item Fry p h = refl
place_item Array p h = absurd h

holes_item : (outer b : Bracket) (m n : ℕ) → NotArray outer → holes_beyond outer b m n ≡ holes_of b m n
holes_item Quotation b m n h = refl
holes_item Fry b m n h = refl
holes_item Array b m n h = absurd h

-- the holes behind a bracket of this kind
closing_holes : (b : Bracket) (l : Level) (ns : Nodes) (m : Level) → NotArray l.bracket → m.bracket ≡ b → (closing (nodes_end m ns) l).holes ≡ holes_of b (nodes_end m ns).holes l.holes
closing_holes b l ns m h is =
    let last = nodes_end m ns in
    holes_item l.bracket last.bracket last.holes l.holes h
    ∙ ap (λ (x : Bracket). holes_of x last.holes l.holes) (end_bracket m ns ∙ is)

end_is : (b : Bracket) (m : Level) (ns : Nodes) (holes : ℕ) → m.bracket ≡ b → holes ≡ (nodes_end m ns).holes → end_by b holes ≡ end_signs (nodes_end m ns)
end_is b m ns holes is e = ap (λ (x : Bracket). end_by x holes) (sym (end_bracket m ns ∙ is)) ∙ ap (end_by (nodes_end m ns).bracket) e

-- Nodes by their levels.

level_holes : (l : Level) (ns : Nodes) (fry : Bool) → NotArray l.bracket → AreRaw fry ns → (nodes_end l ns).holes ≡ holes_behind l.holes ns
level_holes l nothing fry a h = refl
level_holes l (more (n_lit x p) ns) fry a h = level_holes l ns fry a h.1
level_holes l (more (n_ref t p) ns) fry a h = level_holes l ns fry a h.1
level_holes l (more (n_name t p) ns) fry a h = level_holes l ns fry a h.1
level_holes l (more (n_call_effect e p) ns) fry a h = level_holes l ns fry a h.1
level_holes l (more (n_execute_effect e p) ns) fry a h = level_holes l ns fry a h.1
level_holes l (more (n_next p) ns) fry a h = level_holes l ns fry a h.1
level_holes l (more (n_bind t twice p) ns) fry a h = level_holes (record l { locals = t.text ∷ l.locals }) ns fry a h.1
level_holes l (more (n_hole p) ns) fry a h = level_holes (record l { holes = suc l.holes }) ns fry a h.1
level_holes l (more (n_at p) ns) fry a h = level_holes (record l { holes = suc l.holes }) ns fry a h.1
level_holes l (more (n_quot ms p) ns) fry a h =
    level_holes (behind_node (n_quot ms p) l) ns fry a h.1
    ∙ ap (λ (k : ℕ). holes_behind k ns) (closing_holes Quotation l ms (inside Quotation l) a refl ∙ level_holes (inside Quotation l) ms fry tt h.0)
level_holes l (more (n_locals ts ms p) ns) fry a h =
    level_holes (behind_node (n_locals ts ms p) l) ns fry a h.1
    ∙ ap (λ (k : ℕ). holes_behind k ns) (closing_holes Quotation l ms (inside_locals ts l) a refl ∙ level_holes (inside_locals ts l) ms fry tt h.0)
level_holes l (more (n_fry ms p) ns) fry a h = level_holes (behind_node (n_fry ms p) l) ns fry a h.1 ∙ ap (λ (k : ℕ). holes_behind k ns) (closing_holes Fry l ms (inside Fry l) a refl)
level_holes l (more (n_array es p) ns) fry a h = level_holes (behind_node (n_array es p) l) ns fry a h.1 ∙ ap (λ (k : ℕ). holes_behind k ns) (closing_holes Array l es (inside Array l) a refl)
level_holes l (more n ns) fry a h = absurd h.0

leaf_before : (ws : Words) (l : Level) (n : Node) (xs ys : List Sign) → NotArray l.bracket → xs ≡ ys → item_node ws l n ++ xs ≡ leaf_signs ws l.bracket l n ++ ys
leaf_before ws l n xs ys a e = ap (λ (zs : List Sign). item_node ws l n ++ zs) e ∙ ap (λ (zs : List Sign). zs ++ ys) (sym (leaf_item ws l.bracket l n a))

bracket_before : (b : Bracket) (o q : Option Place) (os bs es fs xs ys : List Sign) → o ≡ q → os ≡ bs → es ≡ fs → xs ≡ ys → (opens b o ∷ os ++ es) ++ xs ≡ (opens b q ∷ (bs ++ fs)) ++ ys
bracket_before b o q os bs es fs xs ys h i j k = cc

locals_before : (o q : Option Place) (ks os bs es fs xs ys : List Sign) → o ≡ q → os ≡ ks ++ bs → es ≡ fs → xs ≡ ys → (opens Quotation o ∷ os ++ es) ++ xs ≡ (opens Quotation q ∷ (ks ++ (bs ++ fs))) ++ ys
locals_before o q ks os bs es fs xs ys h i j k =
    bracket_before Quotation o q os (ks ++ bs) es fs xs ys h i j k
    ∙ ap (λ (zs : List Sign). (opens Quotation q ∷ zs) ++ ys) (append_assoc ks bs fs)

fry_grouped : (o : Option Place) (n : ℕ) (xs us : List Sign) → within Fry o (xs ++ filled n ∷ []) ++ us ≡ (opens Fry o ∷ xs ++ (filled n ∷ closes Fry ∷ [])) ++ us
fry_grouped o n xs us = ap (λ (zs : List Sign). (opens Fry o ∷ zs) ++ us) (append_assoc xs (filled n ∷ []) (closes Fry ∷ []))

abbrev array_level : Level
array_level = record { bracket = Array; locals = []; holes = 0 }

mutual
  nodes_plain : (ws : Words) (l : Level) (ns : Nodes) (fry : Bool) → NotArray l.bracket → AreRaw fry ns → HasNoCases ws.is_cond l.locals ns → meanings ws l.locals l.holes ns ≡ nodes_signs ws l ns
  nodes_plain ws l nothing fry a h f = refl
  nodes_plain ws l (more (n_lit x p) ns) fry a h f = leaf_before ws l (n_lit x p) (meanings ws l.locals l.holes ns) (nodes_signs ws l ns) a (nodes_plain ws l ns fry a h.1 f.1)
  nodes_plain ws l (more (n_ref t p) ns) fry a h f = leaf_before ws l (n_ref t p) (meanings ws l.locals l.holes ns) (nodes_signs ws l ns) a (nodes_plain ws l ns fry a h.1 f.1)
  nodes_plain ws l (more (n_name t p) ns) fry a h f = leaf_before ws l (n_name t p) (meanings ws l.locals l.holes ns) (nodes_signs ws l ns) a (nodes_plain ws l ns fry a h.1 f.1)
  nodes_plain ws l (more (n_call_effect e p) ns) fry a h f = leaf_before ws l (n_call_effect e p) (meanings ws l.locals l.holes ns) (nodes_signs ws l ns) a (nodes_plain ws l ns fry a h.1 f.1)
  nodes_plain ws l (more (n_execute_effect e p) ns) fry a h f = leaf_before ws l (n_execute_effect e p) (meanings ws l.locals l.holes ns) (nodes_signs ws l ns) a (nodes_plain ws l ns fry a h.1 f.1)
  nodes_plain ws l (more (n_next p) ns) fry a h f = leaf_before ws l (n_next p) (meanings ws l.locals l.holes ns) (nodes_signs ws l ns) a (nodes_plain ws l ns fry a h.1 f.1)
  nodes_plain ws l (more (n_bind t twice p) ns) fry a h f =
      let m : Level = record l { locals = t.text ∷ l.locals } in leaf_before ws l (n_bind t twice p) (meanings ws m.locals m.holes ns) (nodes_signs ws m ns) a (nodes_plain ws m ns fry a h.1 f.1)
  nodes_plain ws l (more (n_hole p) ns) fry a h f =
      let m : Level = record l { holes = suc l.holes } in leaf_before ws l (n_hole p) (meanings ws m.locals m.holes ns) (nodes_signs ws m ns) a (nodes_plain ws m ns fry a h.1 f.1)
  nodes_plain ws l (more (n_at p) ns) fry a h f =
      let m : Level = record l { holes = suc l.holes } in leaf_before ws l (n_at p) (meanings ws m.locals m.holes ns) (nodes_signs ws m ns) a (nodes_plain ws m ns fry a h.1 f.1)
  nodes_plain ws l (more (n_quot ms p) ns) fry a h f =
      let m = inside Quotation l in
      let closed = behind_node (n_quot ms p) l in
      bracket_before Quotation (Some p) (place_in l.bracket p) (meanings ws l.locals l.holes ms) (nodes_signs ws m ms) (closes Quotation ∷ []) (end_signs (nodes_end m ms)) (meanings ws l.locals (holes_behind l.holes ms) ns) (nodes_signs ws closed ns)
      (place_item l.bracket p a)
      (nodes_plain ws m ms fry tt h.0 f.0)
      (end_is Quotation m ms (nodes_end m ms).holes refl refl)
      (ap (λ (k : ℕ). meanings ws l.locals k ns) (sym (closing_holes Quotation l ms m a refl ∙ level_holes m ms fry tt h.0)) ∙ nodes_plain ws closed ns fry a h.1 f.1)
  nodes_plain ws l (more (n_locals ts ms p) ns) fry a h f =
      let m = inside_locals ts l in
      let closed = behind_node (n_locals ts ms p) l in
      let inputs = bindings_signs (length l.locals) ts in
      locals_before (Some p) (place_in l.bracket p) inputs (inputs ++ meanings ws m.locals m.holes ms) (nodes_signs ws m ms) (closes Quotation ∷ []) (end_signs (nodes_end m ms)) (meanings ws l.locals (holes_behind l.holes ms) ns) (nodes_signs ws closed ns)
      (place_item l.bracket p a)
      (ap (λ (xs : List Sign). inputs ++ xs) (nodes_plain ws m ms fry tt h.0 f.0))
      (end_is Quotation m ms (nodes_end m ms).holes refl refl)
      (ap (λ (k : ℕ). meanings ws l.locals k ns) (sym (closing_holes Quotation l ms m a refl ∙ level_holes m ms fry tt h.0)) ∙ nodes_plain ws closed ns fry a h.1 f.1)
  nodes_plain ws l (more (n_fry ms p) ns) fry a h f =
      let m = inside Fry l in
      let closed = behind_node (n_fry ms p) l in
      fry_grouped (Some p) (holes_behind 0 ms) (meanings ws l.locals 0 ms) (meanings ws l.locals l.holes ns)
      ∙ bracket_before Fry (Some p) (place_in l.bracket p) (meanings ws l.locals 0 ms) (nodes_signs ws m ms) (filled (holes_behind 0 ms) ∷ closes Fry ∷ []) (end_signs (nodes_end m ms)) (meanings ws l.locals l.holes ns) (nodes_signs ws closed ns)
      (place_item l.bracket p a)
      (nodes_plain ws m ms true tt h.0 f.0)
      (end_is Fry m ms (holes_behind 0 ms) refl (sym (level_holes m ms true tt h.0)))
      (ap (λ (k : ℕ). meanings ws l.locals k ns) (sym (closing_holes Fry l ms m a refl)) ∙ nodes_plain ws closed ns fry a h.1 f.1)
  nodes_plain ws l (more (n_array es q) ns) fry a h f =
      let closed = behind_node (n_array es q) l in
      let behind = meanings ws l.locals l.holes ns in
      ap (λ (o : Option Place). elim o [ Some p ↦ cases ws l.locals l.holes p es ++ drop 1 behind | None ↦ within Array (Some q) (values ws es) ++ behind ]) f.0.0
      ∙ bracket_before Array (Some q) (place_in l.bracket q) (values ws es) (nodes_signs ws array_level es) (closes Array ∷ []) (end_signs (nodes_end array_level es)) behind (nodes_signs ws closed ns)
      (place_item l.bracket q a)
      (values_plain ws es h.0 f.0.1)
      (end_is Array array_level es (nodes_end array_level es).holes refl refl)
      (ap (λ (k : ℕ). meanings ws l.locals k ns) (sym (closing_holes Array l es array_level a refl)) ∙ nodes_plain ws closed ns fry a h.1 f.1)
  nodes_plain ws l (more n ns) fry a h f = absurd h.0

  values_plain : (ws : Words) (ns : Nodes) → AreRawElements ns → HaveNoCases ws.is_cond ns → values ws ns ≡ nodes_signs ws array_level ns
  values_plain ws nothing h f = refl
  values_plain ws (more (n_lit x p) ns) h f = ap (λ (xs : List Sign). value (literal x) ∷ xs) (values_plain ws ns h.1 f.1)
  values_plain ws (more (n_ref t p) ns) h f = ap (λ (xs : List Sign). value (literal_is.Wref (ws.named t.text)) ∷ xs) (values_plain ws ns h.1 f.1)
  values_plain ws (more (n_name t p) ns) h f = ap (λ (xs : List Sign). value (literal_is.Wref (ws.named t.text)) ∷ xs) (values_plain ws ns h.1 f.1)
  values_plain ws (more (n_quot ms p) ns) h f =
      let m = inside Quotation array_level in
      bracket_before Quotation None None (meanings ws [] 0 ms) (nodes_signs ws m ms) (closes Quotation ∷ []) (end_signs (nodes_end m ms)) (values ws ns) (nodes_signs ws array_level ns)
      refl
      (nodes_plain ws m ms false tt h.0 f.0)
      (end_is Quotation m ms (nodes_end m ms).holes refl refl)
      (values_plain ws ns h.1 f.1)
  values_plain ws (more (n_array es q) ns) h f =
      bracket_before Array None None (values ws es) (nodes_signs ws array_level es) (closes Array ∷ []) (end_signs (nodes_end array_level es)) (values ws ns) (nodes_signs ws array_level ns)
      refl
      (values_plain ws es h.0 f.0)
      (end_is Array array_level es (nodes_end array_level es).holes refl refl)
      (values_plain ws ns h.1 f.1)
  values_plain ws (more n ns) h f = absurd h.0

pub items_stand : ItemsStand
items_stand ws locals inputs items fits free =
    let closing_items = items_closing locals items fits in
    nodes_plain ws (outermost inputs) (nested items) false tt (nested_raw items closing_items) free
    ∙ sym (append-nil (nodes_signs ws (outermost inputs) (nested items)))
    ∙ (spelled ws [] (outermost inputs) [] items refl closing_items).written
