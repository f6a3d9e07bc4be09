-- The nodes of elements, and what readings make of them.
use Rattle.std.proofs.Common.{◌≡◌, List, [], ◌∷◌, map, Bool, true, false, refl}
use Rattle.std.specs.Prelude.{ℕ, ℤ}
use Rattle.fac_lang.specs.Phrases.{Plain, int, yes, no, str}
use Rattle.fac_lang.specs.Whole.{is_small}
use Rattle.fac_base.specs.declared.height.Height.{Height}
use Rattle.fac_base.specs.declared.place.Place.{Place}
use Rattle.fac_source.specs.declared.token.Token.{Token}
use Rattle.fac_source.specs.declared.tree.Bracket.{Bracket}
use Rattle.fac_source.specs.declared.tree.Bracket.TheVariants.{Quotation, Array, Fry}
use Rattle.fac_source.specs.declared.tree.Callee.{Callee}
use Rattle.fac_source.specs.declared.tree.Callee.TheVariants.{Callable, Word}
use Rattle.fac_source.specs.declared.tree.Element.{Element}
use Rattle.fac_source.specs.declared.tree.Element.TheVariants as element
use Rattle.fac_source.specs.declared.tree.Literal.{Literal}
use Rattle.fac_source.specs.declared.tree.Literal.TheVariants.{Integer, Text, True, False}
use Rattle.fac_source.specs.declared.tree.Term.{Term}
use Rattle.fac_source.specs.declared.tree.Term.TheVariants as term
use Rattle.fac_effect.specs.Spellings.{token_text}
use Rattle.fac_source.specs.Toks.{is_among}
use Rattle.fac_items.specs.Written.{Tok, Node, n_lit, n_array, n_quot, n_ref, n_name, n_locals, n_fry, n_call_effect, n_execute_effect, n_bind, n_hole, n_at, n_next, Nodes, nothing, more}
use Rattle.fac_items.specs.Readings.{bindings}
use Rattle.fac_items.specs.FromElements.{AreClosing, IsElement as MayBeElement, IsInFry, IsItem, MayStand, bracketed, literal_value, nested, node, opened, rests, tested_call, tok}

abbrev pub IsPlainLiteral : Plain → Type 0
IsPlainLiteral (int z) = Unit {0}
IsPlainLiteral yes = Unit {0}
IsPlainLiteral no = Unit {0}
IsPlainLiteral (str bs) = Unit {0}
IsPlainLiteral _ = ⊥

-- Items of trees, and elements of arrays. Holes stand where a fry is around, and no effect that is tested has a number above 64.
abbrev mutual
  pub AreRaw : Bool → Nodes → Type 0
  AreRaw fry nothing = Unit {0}
  AreRaw fry (more n ns) = IsRaw fry n × AreRaw fry ns

  pub IsRaw : Bool → Node → Type 0
  IsRaw fry (n_lit l p) = IsPlainLiteral l
  IsRaw fry (n_ref t p) = Unit {0}
  IsRaw fry (n_name t p) = Unit {0}
  IsRaw fry (n_call_effect h p) = is_small h ≡ true
  IsRaw fry (n_execute_effect h p) = is_small h ≡ true
  IsRaw fry (n_next p) = Unit {0}
  IsRaw fry (n_bind t twice p) = Unit {0}
  IsRaw fry (n_hole p) = fry ≡ true
  IsRaw fry (n_at p) = fry ≡ true
  IsRaw fry (n_quot ns p) = AreRaw fry ns
  IsRaw fry (n_locals ts ns p) = AreRaw fry ns
  IsRaw fry (n_fry ns p) = AreRaw true ns
  IsRaw fry (n_array es p) = AreRawElements es
  IsRaw fry _ = ⊥

  pub AreRawElements : Nodes → Type 0
  AreRawElements nothing = Unit {0}
  AreRawElements (more n ns) = IsRawElement n × AreRawElements ns

  pub IsRawElement : Node → Type 0
  IsRawElement (n_lit l p) = IsPlainLiteral l
  IsRawElement (n_ref t p) = Unit {0}
  IsRawElement (n_name t p) = Unit {0}
  IsRawElement (n_quot ns p) = AreRaw false ns
  IsRawElement (n_array es p) = AreRawElements es
  IsRawElement _ = ⊥

-- Elements whose brackets match.

abbrev in_fry : List Bracket → Bool
in_fry [] = false
in_fry (Quotation ∷ bs) = in_fry bs
in_fry (Fry ∷ bs) = true
in_fry (Array ∷ bs) = false

-- nodes in the innermost of these brackets
abbrev AreIn : List Bracket → Nodes → Type 0
AreIn [] ns = AreRaw false ns
AreIn (Quotation ∷ bs) ns = AreRaw (in_fry bs) ns
AreIn (Fry ∷ bs) ns = AreRaw true ns
AreIn (Array ∷ bs) ns = AreRawElements ns

-- and behind each of them
abbrev AllIn : List Bracket → List Nodes → Type 0
AllIn bs [] = Unit {0}
AllIn [] (ns ∷ nss) = ⊥
AllIn (b ∷ bs) (ns ∷ nss) = AreIn bs ns × AllIn bs nss

is_in_fry : (bs : List Bracket) → IsInFry bs → in_fry bs ≡ true
is_in_fry [] h = absurd h
is_in_fry (Quotation ∷ bs) h = is_in_fry bs h
is_in_fry (Fry ∷ bs) h = refl
is_in_fry (Array ∷ bs) h = absurd h

call_raw : (fry : Bool) (callee : Callee) (h : Height) (p : Place) → is_small h ≡ true → IsRaw fry (tested_call callee h p)
call_raw fry Callable h p small = small
call_raw fry Word h p small = small

pub literal_plain : (text : List ℕ) (l : Literal ℤ) → IsPlainLiteral (literal_value text l)
literal_plain text (Integer z) = tt
literal_plain text Text = tt
literal_plain text True = tt
literal_plain text False = tt

term_raw : (bs : List Bracket) (fry : Bool) → (IsInFry bs → fry ≡ true) → (t : Term) → IsItem bs t → IsRaw fry (node t)
term_raw bs fry k (term.Name t) h = tt
term_raw bs fry k (term.Wrapped sign name) h = tt
term_raw bs fry k (term.EffectCall callee sign tokens height) h = call_raw fry callee height sign h
term_raw bs fry k (term.Literal t l) h = literal_plain (token_text t.kind) l
term_raw bs fry k (term.NextMethod place) h = tt
term_raw bs fry k (term.Bind sign name) h = tt
term_raw bs fry k (term.Hole place) h = k h
term_raw bs fry k (term.CalledHole place) h = k h

term_element : (t : Term) → MayBeElement t → IsRawElement (node t)
term_element (term.Name t) h = tt
term_element (term.Wrapped sign name) h = tt
term_element (term.EffectCall callee sign tokens height) h = absurd h
term_element (term.Literal t l) h = literal_plain (token_text t.kind) l
term_element (term.NextMethod place) h = absurd h
term_element (term.Bind sign name) h = absurd h
term_element (term.Hole place) h = absurd h
term_element (term.CalledHole place) h = absurd h

item_in : (bs : List Bracket) (t : Term) (ns : Nodes) → MayStand bs (element.Item t) → AreIn bs ns → AreIn bs (more (node t) ns)
item_in [] t ns h k = (term_raw [] false (λ x. absurd x) t h, k)
item_in (Quotation ∷ bs) t ns h k = (term_raw (Quotation ∷ bs) (in_fry bs) (λ x. is_in_fry bs x) t h, k)
item_in (Fry ∷ bs) t ns h k = (term_raw (Fry ∷ bs) true (λ x. refl) t h, k)
item_in (Array ∷ bs) t ns h k = (term_element t h, k)

none_in : (bs : List Bracket) → AreIn bs nothing
none_in [] = tt
none_in (Quotation ∷ bs) = tt
none_in (Fry ∷ bs) = tt
none_in (Array ∷ bs) = tt

quotation_in : (bs : List Bracket) (ms : Nodes) (p : Place) (ns : Nodes) → AreIn (Quotation ∷ bs) ms → AreIn bs ns → AreIn bs (more (n_quot ms p) ns)
quotation_in [] ms p ns h k = (h, k)
quotation_in (Quotation ∷ bs) ms p ns h k = (h, k)
quotation_in (Fry ∷ bs) ms p ns h k = (h, k)
quotation_in (Array ∷ bs) ms p ns h k = (h, k)

fry_in : (bs : List Bracket) (ms : Nodes) (p q : Place) (ns : Nodes) → MayStand bs (element.Opens Fry q) → AreRaw true ms → AreIn bs ns → AreIn bs (more (n_fry ms p) ns)
fry_in [] ms p q ns m h k = (h, k)
fry_in (Quotation ∷ bs) ms p q ns m h k = (h, k)
fry_in (Fry ∷ bs) ms p q ns m h k = (h, k)
fry_in (Array ∷ bs) ms p q ns m h k = absurd m

array_in : (bs : List Bracket) (ms : Nodes) (p : Place) (ns : Nodes) → AreRawElements ms → AreIn bs ns → AreIn bs (more (n_array ms p) ns)
array_in [] ms p ns h k = (h, k)
array_in (Quotation ∷ bs) ms p ns h k = (h, k)
array_in (Fry ∷ bs) ms p ns h k = (h, k)
array_in (Array ∷ bs) ms p ns h k = (h, k)

locals_in : (bs : List Bracket) (ts : List Tok) (names : List Token) (ms : Nodes) (p bar : Place) (ns : Nodes) → MayStand bs (element.OpensLocals p names bar) → AreIn (Quotation ∷ bs) ms → AreIn bs ns → AreIn bs (more (n_locals ts ms p) ns)
locals_in [] ts names ms p bar ns m h k = (h, k)
locals_in (Quotation ∷ bs) ts names ms p bar ns m h k = (h, k)
locals_in (Fry ∷ bs) ts names ms p bar ns m h k = (h, k)
locals_in (Array ∷ bs) ts names ms p bar ns m h k = absurd m

bracketed_in : (bs : List Bracket) (b : Bracket) (ms : Nodes) (p : Place) (ns : Nodes) → MayStand bs (element.Opens b p) → AreIn (b ∷ bs) ms → AreIn bs ns → AreIn bs (more (bracketed b ms p) ns)
bracketed_in bs Quotation ms p ns m h k = quotation_in bs ms p ns h k
bracketed_in bs Fry ms p ns m h k = fry_in bs ms p p ns m h k
bracketed_in bs Array ms p ns m h k = array_in bs ms p ns h k

opened_in : (bs : List Bracket) (b : Bracket) (n : Node) (nss : List Nodes) → ((ns : Nodes) → AreIn bs ns → AreIn bs (more n ns)) → AllIn (b ∷ bs) nss → AreIn bs (opened n nss).here × AllIn bs (opened n nss).around
opened_in bs b n [] f h = (f nothing (none_in bs), tt)
opened_in bs b n (ns ∷ nss) f h = (f ns h.0, h.1)

rests_in : (bs : List Bracket) (es : List Element) → AreClosing bs es → AreIn bs (rests es).here × AllIn bs (rests es).around
rests_in bs [] h = (none_in bs, tt)
rests_in bs (element.Item t ∷ es) h = let r = rests_in bs es h.1 in (item_in bs t (rests es).here h.0 r.0, r.1)
rests_in bs (element.Opens b p ∷ es) h =
    let r = rests_in (b ∷ bs) es h.1 in opened_in bs b (bracketed b (rests es).here p) (rests es).around (λ ns k. bracketed_in bs b (rests es).here p ns h.0 r.0 k) r.1
rests_in bs (element.OpensLocals p names bar ∷ es) h =
    let r = rests_in (Quotation ∷ bs) es h.1 in opened_in bs Quotation (n_locals (map tok names) (rests es).here p) (rests es).around (λ ns k. locals_in bs (map tok names) names (rests es).here p bar ns h.0 r.0 k) r.1
rests_in [] (element.Closes b p ∷ es) h = absurd h.0
rests_in (b ∷ bs) (element.Closes c p ∷ es) h = (none_in (b ∷ bs), rests_in bs es h.1)

pub nested_raw : (es : List Element) → AreClosing [] es → AreRaw false (nested es)
nested_raw es h = (rests_in [] es h).0

pub bindings_raw : (fry : Bool) (ts : List Tok) (earlier : List (List ℕ)) (ns : Nodes) → AreRaw fry ns → AreRaw fry (bindings ts earlier ns)
bindings_raw fry [] earlier ns h = h
bindings_raw fry (t ∷ ts) earlier ns h = bindings_raw fry ts (t.text ∷ earlier) (more (n_bind t (is_among t.text earlier) t.place) ns) (tt, h)

-- items without holes stand in a fry too
pub raw_more : (fry : Bool) (ns : Nodes) → AreRaw false ns → AreRaw fry ns
raw_more fry nothing h = tt
raw_more fry (more (n_lit l p) ns) h = (h.0, raw_more fry ns h.1)
raw_more fry (more (n_ref t p) ns) h = (tt, raw_more fry ns h.1)
raw_more fry (more (n_name t p) ns) h = (tt, raw_more fry ns h.1)
raw_more fry (more (n_call_effect e p) ns) h = (h.0, raw_more fry ns h.1)
raw_more fry (more (n_execute_effect e p) ns) h = (h.0, raw_more fry ns h.1)
raw_more fry (more (n_next p) ns) h = (tt, raw_more fry ns h.1)
raw_more fry (more (n_bind t twice p) ns) h = (tt, raw_more fry ns h.1)
raw_more fry (more (n_hole p) ns) h = absurd (cc)
raw_more fry (more (n_at p) ns) h = absurd (cc)
raw_more fry (more (n_quot ms p) ns) h = (raw_more fry ms h.0, raw_more fry ns h.1)
raw_more fry (more (n_locals ts ms p) ns) h = (raw_more fry ms h.0, raw_more fry ns h.1)
raw_more fry (more (n_fry ms p) ns) h = (h.0, raw_more fry ns h.1)
raw_more fry (more (n_array es p) ns) h = (h.0, raw_more fry ns h.1)
raw_more fry (more n ns) h = absurd h.0
