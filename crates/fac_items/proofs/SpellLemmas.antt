-- Elements are their nodes, one behind another.
use Rattle.std.proofs.Common.{◌≡◌, ℕ, suc, List, [], ◌∷◌, ◌++◌, length, map, Option, None, Bool, refl, ap, sym, ◌∙◌, arith, append_assoc, append-nil}
use Rattle.fac_base.specs.declared.height.Height.{Height}
use Rattle.fac_base.specs.declared.place.Place.{Place}
use Rattle.fac_source.specs.declared.tree.Bracket.{Bracket}
use Rattle.fac_source.specs.declared.tree.Bracket.TheVariants.{Quotation, Array, Fry}
use Rattle.fac_source.specs.declared.tree.Callee.{Callee}
use Rattle.fac_source.specs.declared.tree.Callee.TheVariants.{Callable, Word}
use Rattle.fac_source.specs.declared.tree.Element.{Element}
use Rattle.fac_source.specs.declared.tree.Element.TheVariants as element
use Rattle.fac_source.specs.declared.tree.Term.{Term}
use Rattle.fac_source.specs.declared.tree.Term.TheVariants as term
use Rattle.fac_items.specs.declared.cases.Child.{Child}
use Rattle.fac_items.specs.declared.cases.Child.TheVariants as child
use Rattle.fac_items.specs.Written.{Tok, Node, n_array, n_fry, n_locals, n_quot, Nodes, nothing, more}
use Rattle.fac_items.specs.FromElements.{AreClosing, Rests, bracketed, nested, node, opened, rests, tested_call, tok}
use Rattle.fac_items.specs.inner.Behind.{Level, Scanned, all_scanned, child_of, inner_level, leaf_name, name_behind, names_with, none_scanned, outer_levels, with_element}
use Rattle.fac_items.specs.inner.Bits.{Bit, all_bits, closes, leaf, names_within, opens, opens_array, opens_bit, opens_locals}
use Rattle.fac_items.proofs.CaseLemmas.{cases_in, child_node}

-- the name with which items begin
abbrev pub first_name : Nodes → Option Tok
first_name nothing = None
first_name (more n ns) = leaf_name n

-- the name behind an array of these elements, before these items
abbrev pub mark : (List ℕ → Bool) → Nodes → Nodes → Option Tok
mark c es ns = name_behind c (cases_in es) (first_name ns)

-- items, one behind another
abbrev pub spell : (List ℕ → Bool) → Nodes → List Bit
spell c nothing = []
spell c (more (n_quot ms p) ns) = opens Quotation p ∷ (spell c ms ++ closes ∷ spell c ns)
spell c (more (n_fry ms p) ns) = opens Fry p ∷ (spell c ms ++ closes ∷ spell c ns)
spell c (more (n_locals ts ms p) ns) = opens_locals ts p ∷ (spell c ms ++ closes ∷ spell c ns)
spell c (more (n_array ms p) ns) = opens_array (mark c ms ns) p ∷ (spell c ms ++ closes ∷ spell c ns)
spell c (more n ns) = leaf n ∷ spell c ns

-- What is found behind arrays.

abbrev level_of : Nodes → Level
level_of ns = record { cases = cases_in ns; first = first_name ns }

pub call_name : (callee : Callee) (h : Height) (p : Place) → None ≡ leaf_name (tested_call callee h p)
call_name Callable h p = refl
call_name Word h p = refl

call_child : (callee : Callee) (h : Height) (p : Place) → child_node (tested_call callee h p) ≡ child.Other
call_child Callable h p = refl
call_child Word h p = refl

term_child : (t : Term) → child_node (node t) ≡ child.Other
term_child (term.Name t) = refl
term_child (term.Wrapped sign name) = refl
term_child (term.EffectCall callee sign tokens height) = call_child callee height sign
term_child (term.Literal t l) = refl
term_child (term.NextMethod place) = refl
term_child (term.Bind sign name) = refl
term_child (term.Hole place) = refl
term_child (term.CalledHole place) = refl

bracket_child : (b : Bracket) (ms : Nodes) (p : Place) → child_of b (cases_in ms) ≡ child_node (bracketed b ms p)
bracket_child Quotation ms p = refl
bracket_child Fry ms p = refl
bracket_child Array ms p = refl

bracket_first : (b : Bracket) (ms : Nodes) (p : Place) → leaf_name (bracketed b ms p) ≡ None
bracket_first Quotation ms p = refl
bracket_first Fry ms p = refl
bracket_first Array ms p = refl

-- what is known of elements is what is known of their nodes
record IsScanned (s : Scanned) (r : Rests) : Type 0 where
  here : s.here ≡ level_of r.here
  around : s.around ≡ map level_of r.around

inner_is : (ls : List Level) (n : Node) (nss : List Nodes) → ls ≡ map level_of nss → leaf_name n ≡ None → with_element (child_node n) None (inner_level ls) ≡ level_of (opened n nss).here
inner_is ls n [] h none = ap (λ (x : List Level). with_element (child_node n) None (inner_level x)) h ∙ ap (λ (o : Option Tok). with_element (child_node n) o (level_of nothing)) (sym none)
inner_is ls n (ns ∷ nss) h none = ap (λ (x : List Level). with_element (child_node n) None (inner_level x)) h ∙ ap (λ (o : Option Tok). with_element (child_node n) o (level_of ns)) (sym none)

outer_is : (ls : List Level) (n : Node) (nss : List Nodes) → ls ≡ map level_of nss → outer_levels ls ≡ map level_of (opened n nss).around
outer_is ls n [] h = ap outer_levels h
outer_is ls n (ns ∷ nss) h = ap outer_levels h

elements_scanned : (c : List ℕ → Bool) (es : List Element) → IsScanned (all_scanned c es none_scanned) (rests es)
elements_scanned c [] = record { here = refl; around = refl }
elements_scanned c (element.Item t ∷ es) =
    let r = elements_scanned c es in
    record {
      here = ap (with_element child.Other (leaf_name (node t))) r.here ∙ ap (λ (x : Child). with_element x (leaf_name (node t)) (level_of (rests es).here)) (sym (term_child t));
      around = r.around;
    }
elements_scanned c (element.Opens b p ∷ es) =
    let r = elements_scanned c es in
    let s = all_scanned c es none_scanned in
    let n = bracketed b (rests es).here p in
    record {
      here =
          ap (λ (l : Level). with_element (child_of b l.cases) None (inner_level s.around)) r.here
          ∙ ap (λ (x : Child). with_element x None (inner_level s.around)) (bracket_child b (rests es).here p)
          ∙ inner_is s.around n (rests es).around r.around (bracket_first b (rests es).here p);
      around = outer_is s.around n (rests es).around r.around;
    }
elements_scanned c (element.OpensLocals p names bar ∷ es) =
    let r = elements_scanned c es in
    let s = all_scanned c es none_scanned in
    let n = n_locals (map tok names) (rests es).here p in
    record { here = inner_is s.around n (rests es).around r.around refl; around = outer_is s.around n (rests es).around r.around }
elements_scanned c (element.Closes b p ∷ es) =
    let r = elements_scanned c es in
    let s = all_scanned c es none_scanned in
    record { here = refl; around = ap (λ (l : Level). l ∷ s.around) r.here ∙ ap (λ (ls : List Level). level_of (rests es).here ∷ ls) r.around }

-- Elements whose brackets match have nothing around them.

opened_length : (n : Node) (nss : List Nodes) (level : ℕ) → length nss ≡ suc level → length (opened n nss).around ≡ level
opened_length n [] level h = absurd (omega (arith, h))
opened_length n (ns ∷ nss) level h = omega (arith, h)

around_length : (bs : List Bracket) (es : List Element) → AreClosing bs es → length (rests es).around ≡ length bs
around_length bs [] h = sym (ap length h)
around_length bs (element.Item t ∷ es) h = around_length bs es h.1
around_length bs (element.Opens b p ∷ es) h = opened_length (bracketed b (rests es).here p) (rests es).around (length bs) (around_length (b ∷ bs) es h.1)
around_length bs (element.OpensLocals p names bar ∷ es) h = opened_length (n_locals (map tok names) (rests es).here p) (rests es).around (length bs) (around_length (Quotation ∷ bs) es h.1)
around_length [] (element.Closes b p ∷ es) h = absurd h.0
around_length (b ∷ bs) (element.Closes c p ∷ es) h = let rest = around_length bs es h.1 in omega (arith, rest)

none_around : {A : Type 0} (xs : List A) → length xs ≡ 0 → xs ≡ []
none_around [] h = refl
none_around (x ∷ xs) h = absurd (omega (arith, h))

-- what stands around, each behind the bracket that ends the one before
abbrev spell_around : (List ℕ → Bool) → List Nodes → List Bit
spell_around c [] = []
spell_around c (ns ∷ nss) = closes ∷ (spell c ns ++ spell_around c nss)

abbrev spell_rests : (List ℕ → Bool) → Rests → List Bit
spell_rests c r = spell c r.here ++ spell_around c r.around

spell_call : (c : List ℕ → Bool) (callee : Callee) (h : Height) (p : Place) (ns : Nodes) → spell c (more (tested_call callee h p) ns) ≡ leaf (tested_call callee h p) ∷ spell c ns
spell_call c Callable h p ns = refl
spell_call c Word h p ns = refl

spell_term : (c : List ℕ → Bool) (t : Term) (ns : Nodes) → spell c (more (node t) ns) ≡ leaf (node t) ∷ spell c ns
spell_term c (term.Name t) ns = refl
spell_term c (term.Wrapped sign name) ns = refl
spell_term c (term.EffectCall callee sign tokens height) ns = spell_call c callee height sign ns
spell_term c (term.Literal t l) ns = refl
spell_term c (term.NextMethod place) ns = refl
spell_term c (term.Bind sign name) ns = refl
spell_term c (term.Hole place) ns = refl
spell_term c (term.CalledHole place) ns = refl

regrouped : (a b d : List Bit) → (a ++ closes ∷ b) ++ d ≡ a ++ (closes ∷ (b ++ d))
regrouped a b d = append_assoc a (closes ∷ b) d

-- the first bit of a bracket, where these items stand behind it
abbrev first_bit : (List ℕ → Bool) → Bracket → Place → Nodes → Nodes → Bit
first_bit c Quotation p ms ns = opens Quotation p
first_bit c Fry p ms ns = opens Fry p
first_bit c Array p ms ns = opens_array (mark c ms ns) p

spell_bracket : (c : List ℕ → Bool) (b : Bracket) (p : Place) (ms ns : Nodes) → spell c (more (bracketed b ms p) ns) ≡ first_bit c b p ms ns ∷ (spell c ms ++ closes ∷ spell c ns)
spell_bracket c Quotation p ms ns = refl
spell_bracket c Fry p ms ns = refl
spell_bracket c Array p ms ns = refl

within_is : (c : List ℕ → Bool) (b : Bracket) (l : Level) (o : Option Tok) (os : List (Option Tok)) → names_within b (names_with c b l.cases o os) ≡ os
within_is c Quotation l o os = refl
within_is c Fry l o os = refl
within_is c Array l o os = refl

bit_is : (c : List ℕ → Bool) (b : Bracket) (p : Place) (l : Level) (o : Option Tok) (os : List (Option Tok)) (ms ns : Nodes) → l ≡ level_of ms → o ≡ first_name ns → opens_bit b p (names_with c b l.cases o os) ≡ first_bit c b p ms ns
bit_is c Quotation p l o os ms ns h k = refl
bit_is c Fry p l o os ms ns h k = refl
bit_is c Array p l o os ms ns h k = ap (λ (x : Level). opens_array (name_behind c x.cases o) p) h ∙ ap (λ (x : Option Tok). opens_array (name_behind c (cases_in ms) x) p) k

spell_opened : (c : List ℕ → Bool) (b : Bracket) (p : Place) (s : Scanned) (ms : Nodes) (nss : List Nodes) (level : ℕ) → length nss ≡ suc level → s.here ≡ level_of ms → s.around ≡ map level_of nss →
    opens_bit b p (names_with c b s.here.cases (inner_level s.around).first s.names) ∷ (spell c ms ++ spell_around c nss) ≡ spell_rests c (opened (bracketed b ms p) nss)
spell_opened c b p s ms [] level h here around = absurd (omega (arith, h))
spell_opened c b p s ms (ns ∷ nss) level h here around =
    ap (λ (x : Bit). x ∷ (spell c ms ++ closes ∷ (spell c ns ++ spell_around c nss))) (bit_is c b p s.here (inner_level s.around).first s.names ms ns here (ap (λ (ls : List Level). (inner_level ls).first) around))
    ∙ sym (ap (λ (xs : List Bit). xs ++ spell_around c nss) (spell_bracket c b p ms ns) ∙ ap (λ (xs : List Bit). first_bit c b p ms ns ∷ xs) (regrouped (spell c ms) (spell c ns) (spell_around c nss)))

spell_locals : (c : List ℕ → Bool) (p : Place) (ts : List Tok) (ms : Nodes) (nss : List Nodes) (level : ℕ) → length nss ≡ suc level → opens_locals ts p ∷ (spell c ms ++ spell_around c nss) ≡ spell_rests c (opened (n_locals ts ms p) nss)
spell_locals c p ts ms [] level h = absurd (omega (arith, h))
spell_locals c p ts ms (ns ∷ nss) level h = sym (ap (λ (xs : List Bit). opens_locals ts p ∷ xs) (regrouped (spell c ms) (spell c ns) (spell_around c nss)))

rests_spelled : (c : List ℕ → Bool) (bs : List Bracket) (es : List Element) → AreClosing bs es → all_bits (all_scanned c es none_scanned).names es ≡ spell_rests c (rests es)
rests_spelled c bs [] h = refl
rests_spelled c bs (element.Item t ∷ es) h =
    ap (λ (xs : List Bit). leaf (node t) ∷ xs) (rests_spelled c bs es h.1)
    ∙ ap (λ (xs : List Bit). xs ++ spell_around c (rests es).around) (sym (spell_term c t (rests es).here))
rests_spelled c bs (element.Opens b p ∷ es) h =
    let s = all_scanned c es none_scanned in
    let k = elements_scanned c es in
    let os = names_with c b s.here.cases (inner_level s.around).first s.names in
    ap (λ (xs : List (Option Tok)). opens_bit b p os ∷ all_bits xs es) (within_is c b s.here (inner_level s.around).first s.names)
    ∙ ap (λ (xs : List Bit). opens_bit b p os ∷ xs) (rests_spelled c (b ∷ bs) es h.1)
    ∙ spell_opened c b p s (rests es).here (rests es).around (length bs) (around_length (b ∷ bs) es h.1) k.here k.around
rests_spelled c bs (element.OpensLocals p names bar ∷ es) h =
    ap (λ (xs : List Bit). opens_locals (map tok names) p ∷ xs) (rests_spelled c (Quotation ∷ bs) es h.1)
    ∙ spell_locals c p (map tok names) (rests es).here (rests es).around (length bs) (around_length (Quotation ∷ bs) es h.1)
rests_spelled c [] (element.Closes b p ∷ es) h = absurd h.0
rests_spelled c (b ∷ bs) (element.Closes d p ∷ es) h = ap (λ (xs : List Bit). closes ∷ xs) (rests_spelled c bs es h.1)

pub elements_spelled : (c : List ℕ → Bool) (es : List Element) → AreClosing [] es → all_bits (all_scanned c es none_scanned).names es ≡ spell c (nested es)
elements_spelled c es h =
    rests_spelled c [] es h
    ∙ ap (λ (nss : List Nodes). spell c (rests es).here ++ spell_around c nss) (none_around (rests es).around (around_length [] es h))
    ∙ append-nil (spell c (rests es).here)
