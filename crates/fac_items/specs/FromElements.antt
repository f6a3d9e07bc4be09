-- Items as they stand in trees, which are flat, as nested nodes.
use Rattle.std.specs.Prelude.{◌≡◌, ℕ, ℤ, List, [], ◌∷◌, map, true, false}
use Rattle.fac_lang.specs.Phrases.{Plain, int, yes, no, str}
use Rattle.fac_lang.specs.Whole.{is_small}
use Rattle.fac_base.specs.declared.height.Height.{Height}
use Rattle.fac_base.specs.declared.place.Place.{Place}
use Rattle.fac_source.specs.declared.token.Token.{Token}
use Rattle.fac_source.specs.declared.tree.Bracket.{Bracket}
use Rattle.fac_source.specs.declared.tree.Bracket.TheVariants.{Quotation, Array, Fry}
use Rattle.fac_source.specs.declared.tree.Callee.{Callee}
use Rattle.fac_source.specs.declared.tree.Callee.TheVariants.{Callable, Word}
use Rattle.fac_source.specs.declared.tree.Element.{Element}
use Rattle.fac_source.specs.declared.tree.Element.TheVariants as element
use Rattle.fac_source.specs.declared.tree.Literal.{Literal}
use Rattle.fac_source.specs.declared.tree.Literal.TheVariants.{Integer, Text, True, False}
use Rattle.fac_source.specs.declared.tree.Term.{Term}
use Rattle.fac_source.specs.declared.tree.Term.TheVariants as term
use Rattle.fac_effect.specs.Spellings.{token_text}
use Rattle.fac_items.specs.Written.{Tok, Node, n_lit, n_array, n_ref, n_name, n_next, n_quot, n_fry, n_locals, n_call_effect, n_execute_effect, n_bind, n_hole, n_at, Nodes, nothing, more}

abbrev pub tok : Token → Tok
tok t = record { text = token_text t.kind; place = t.place }

-- `call( )` or `execute( )`
abbrev pub tested_call : Callee → Height → Place → Node
tested_call Callable h place = n_call_effect h place
tested_call Word h place = n_execute_effect h place

-- the value of a literal, by the content of its token
abbrev pub literal_value : List ℕ → Literal ℤ → Plain
literal_value text (Integer z) = int z
literal_value text Text = str text
literal_value text True = yes
literal_value text False = no

abbrev pub node : Term → Node
node (term.Name t) = n_name (tok t) t.place
node (term.Wrapped sign name) = n_ref (tok name) sign
node (term.EffectCall callee sign tokens height) = tested_call callee height sign
node (term.Literal t l) = n_lit (literal_value (token_text t.kind) l) t.place
node (term.NextMethod place) = n_next place
node (term.Bind sign name) = n_bind (tok name) false sign
node (term.Hole place) = n_hole place
node (term.CalledHole place) = n_at place

-- What elements come to: those up to the bracket that closes the quotation, fry or array in which they stand, and those of what is around it, from the inside out.
pub record Rests : Type 0 where
  pub here : Nodes
  pub around : List Nodes

-- a quotation, a fry or an array
abbrev pub bracketed : Bracket → Nodes → Place → Node
bracketed Quotation items place = n_quot items place
bracketed Fry items place = n_fry items place
bracketed Array elements place = n_array elements place

-- one of them before what is around it; one that nothing closes reaches to the end
abbrev pub opened : Node → List Nodes → Rests
opened n [] = record { here = more n nothing; around = [] }
opened n (ns ∷ nss) = record { here = more n ns; around = nss }

abbrev pub rests : List Element → Rests
rests [] = record { here = nothing; around = [] }
rests (element.Item t ∷ es) = let r = rests es in record r { here = more (node t) r.here }
rests (element.Opens bracket place ∷ es) = let r = rests es in opened (bracketed bracket r.here place) r.around
rests (element.OpensLocals place names bar ∷ es) = let r = rests es in opened (n_locals (map tok names) r.here place) r.around
rests (element.Closes bracket place ∷ es) = let r = rests es in record { here = nothing; around = r.here ∷ r.around }

-- the items of elements whose brackets match
abbrev pub nested : List Element → Nodes
nested es = (rests es).here

-- Where elements stand.

-- whether an item may stand in an array
abbrev pub IsElement : Term → Type 0
IsElement (term.Name t) = Unit {0}
IsElement (term.Wrapped sign name) = Unit {0}
IsElement (term.Literal t l) = Unit {0}
IsElement _ = ⊥

-- whether a fry is around, where these brackets are open, the innermost first; a hole in an array isn't that of a fry around the array
abbrev pub IsInFry : List Bracket → Type 0
IsInFry [] = ⊥
IsInFry (Quotation ∷ bs) = IsInFry bs
IsInFry (Fry ∷ bs) = Unit {0}
IsInFry (Array ∷ bs) = ⊥

-- Holes stand in a fry, and no effect that is tested has a number above 64.
abbrev pub IsItem : List Bracket → Term → Type 0
IsItem bs (term.EffectCall callee sign tokens height) = is_small height ≡ true
IsItem bs (term.Hole place) = IsInFry bs
IsItem bs (term.CalledHole place) = IsInFry bs
IsItem bs _ = Unit {0}

-- whether an element may stand where these brackets are open
abbrev pub MayStand : List Bracket → Element → Type 0
MayStand [] (element.Item t) = IsItem [] t
MayStand (Array ∷ bs) (element.Item t) = IsElement t
MayStand (Quotation ∷ bs) (element.Item t) = IsItem (Quotation ∷ bs) t
MayStand (Fry ∷ bs) (element.Item t) = IsItem (Fry ∷ bs) t
MayStand (Array ∷ bs) (element.Opens Fry place) = ⊥
MayStand (Array ∷ bs) (element.OpensLocals place names bar) = ⊥
MayStand [] (element.Closes bracket place) = ⊥
MayStand _ _ = Unit {0}

-- the brackets that are open behind an element
abbrev pub open_behind : List Bracket → Element → List Bracket
open_behind bs (element.Item t) = bs
open_behind bs (element.Opens bracket place) = bracket ∷ bs
open_behind bs (element.OpensLocals place names bar) = Quotation ∷ bs
open_behind [] (element.Closes bracket place) = []
open_behind (b ∷ bs) (element.Closes bracket place) = bs

-- elements that close these brackets and those that they open
abbrev pub AreClosing : List Bracket → List Element → Type 0
AreClosing bs [] = bs ≡ []
AreClosing bs (e ∷ es) = MayStand bs e × AreClosing (open_behind bs e) es
