-- The phrase of items is written as the items are.
use Rattle.std.proofs.Common.{◌≡◌, ◌+◌, ◌<◌, ℕ, suc, List, [], ◌∷◌, ◌++◌, length, Bool, true, false, Option, Some, None, cond, refl, ap, sym, ◌∙◌, subst, append_assoc, append-nil, arith}
use Rattle.std.specs.Prelude.{nat_eq}
use Rattle.fac_lang.specs.Phrases.{lit, int, yes, no, str, wrd, word, call_effect, execute_effect, next_method}
use Rattle.fac_base.specs.declared.height.Height.{Height}
use Rattle.fac_base.specs.declared.place.Place.{Place}
use Rattle.fac_lang.specs.declared.program.Lit.{Lit}
use Rattle.fac_lang.specs.declared.program.Lit.TheVariants as literal_is
use Rattle.fac_source.specs.declared.tree.Bracket.{Bracket}
use Rattle.fac_source.specs.declared.tree.Bracket.TheVariants.{Quotation, Array, Fry}
use Rattle.fac_source.specs.declared.tree.Callee.{Callee}
use Rattle.fac_source.specs.declared.tree.Callee.TheVariants.{Callable, Word}
use Rattle.fac_source.specs.declared.tree.Element.{Element}
use Rattle.fac_source.specs.declared.tree.Element.TheVariants as element
use Rattle.fac_source.specs.declared.tree.Term.{Term}
use Rattle.fac_source.specs.declared.tree.Term.TheVariants as term
use Rattle.fac_parse.specs.declared.context.Context.{Context}
use Rattle.fac_parse.specs.declared.context.Around.{Around}
use Rattle.fac_parse.specs.declared.context.Around.TheVariants as stands_in
use Rattle.fac_parse.specs.Contexts.{closed, closed_in, items_in}
use Rattle.fac_parse.specs.Trees.{Lead}
use Rattle.fac_vocab.specs.Scopes.{Scope}
use Rattle.fac_items.specs.Written.{Node, n_lit, n_ref, n_name, n_call_effect, n_execute_effect, n_next, n_quot, n_array, Nodes, nothing, more}
use Rattle.fac_items.specs.FromElements.{Rests, bracketed, nested, node, opened as open_before, rests, tested_call}
use Rattle.fac_items.specs.Items.{elements_of, literal, phrase_of, word_of}
use Rattle.fac_known.specs.Laws.{Longer}
use Rattle.fac_meanings.specs.Signs.{Sign, AreOfWords, IsOfWords, PhrasesAreWrittenAsItems, array_signs, element_signs, elements_signs, innermost, phrase_signs, place_in, term_signs, tested_item, value, with_array_signs, with_arrays_signs, closes, one, opens, within}
use Rattle.fac_known.proofs.Growing.{and_then, elements_longer, phrase_longer, same}
use Rattle.fac_effect.specs.Spellings.{token_text}
use Rattle.fac_items.proofs.RawNodes.{IsPlainLiteral, literal_plain}
use Rattle.fac_names.proofs.BracketLemmas.{Stand, kind_of, seen_all, steps}

-- Nodes of words: literals, names, calls with a declared effect, next methods, quotations and arrays.
abbrev mutual
  AreWorded : Nodes → Type 0
  AreWorded nothing = Unit {0}
  AreWorded (more n ns) = IsWorded n × AreWorded ns

  IsWorded : Node → Type 0
  IsWorded (n_lit l p) = IsPlainLiteral l
  IsWorded (n_ref t p) = Unit {0}
  IsWorded (n_name t p) = Unit {0}
  IsWorded (n_call_effect h p) = Unit {0}
  IsWorded (n_execute_effect h p) = Unit {0}
  IsWorded (n_next p) = Unit {0}
  IsWorded (n_quot ns p) = AreWorded ns
  IsWorded (n_array ns p) = AreWorded ns
  IsWorded _ = ⊥

abbrev AllWorded : List Nodes → Type 0
AllWorded [] = Unit {0}
AllWorded (ns ∷ nss) = AreWorded ns × AllWorded nss

call_worded : (callee : Callee) (h : Height) (p : Place) → IsWorded (tested_call callee h p)
call_worded Callable h p = tt
call_worded Word h p = tt

term_worded : (t : Term) → IsOfWords (element.Item t) → IsWorded (node t)
term_worded (term.Name t) h = tt
term_worded (term.Wrapped sign name) h = tt
term_worded (term.EffectCall callee sign tokens height) h = call_worded callee height sign
term_worded (term.Literal t l) h = literal_plain (token_text t.kind) l
term_worded (term.NextMethod place) h = tt
term_worded (term.Bind sign name) h = absurd h
term_worded (term.Hole place) h = absurd h
term_worded (term.CalledHole place) h = absurd h

bracketed_worded : (b : Bracket) (p q : Place) (ns : Nodes) → IsOfWords (element.Opens b q) → AreWorded ns → IsWorded (bracketed b ns p)
bracketed_worded Quotation p q ns w h = h
bracketed_worded Array p q ns w h = h
bracketed_worded Fry p q ns w h = absurd w

opened_worded : (n : Node) (nss : List Nodes) → IsWorded n → AllWorded nss → AreWorded (open_before n nss).here × AllWorded (open_before n nss).around
opened_worded n [] h k = ((h, tt), tt)
opened_worded n (ms ∷ mss) h k = ((h, k.0), k.1)

rests_worded : (es : List Element) → AreOfWords es → AreWorded (rests es).here × AllWorded (rests es).around
rests_worded [] w = (tt, tt)
rests_worded (element.Item t ∷ es) w = let h = rests_worded es w.1 in ((term_worded t w.0, h.0), h.1)
rests_worded (element.Opens b p ∷ es) w = let h = rests_worded es w.1 in opened_worded (bracketed b (rests es).here p) (rests es).around (bracketed_worded b p p (rests es).here w.0 h.0) h.1
rests_worded (element.OpensLocals p names bar ∷ es) w = absurd w.0
rests_worded (element.Closes b p ∷ es) w = let h = rests_worded es w.1 in (tt, h)

-- Nodes as they are written.

abbrev mutual
  nodes_signs : Scope → Bracket → Nodes → List Sign
  nodes_signs s b nothing = []
  nodes_signs s b (more n ns) = node_signs s b n ++ nodes_signs s b ns

  node_signs : Scope → Bracket → Node → List Sign
  node_signs s b (n_quot ms p) = within Quotation (place_in b p) (nodes_signs s Quotation ms)
  node_signs s b (n_array ms p) = within Array (place_in b p) (nodes_signs s Array ms)
  node_signs s Quotation (n_lit l p) = one (lit l) p ∷ []
  node_signs s Quotation (n_ref t p) = one (lit (wrd (word_of s t))) p ∷ []
  node_signs s Quotation (n_name t p) = one (word (word_of s t)) p ∷ []
  node_signs s Quotation (n_call_effect h p) = one (call_effect h) p ∷ []
  node_signs s Quotation (n_execute_effect h p) = one (execute_effect h) p ∷ []
  node_signs s Quotation (n_next p) = one next_method p ∷ []
  node_signs s Array (n_lit l p) = value (literal l) ∷ []
  node_signs s Array (n_ref t p) = value (literal_is.Wref (word_of s t)) ∷ []
  node_signs s Array (n_name t p) = value (literal_is.Wref (word_of s t)) ∷ []
  node_signs s b _ = []

-- Arrays by their numbers.

arrays_both : (f : ℕ → List Sign) (k : ℕ) (xs ys : List (List Lit)) → with_arrays_signs f k (xs ++ ys) ≡ with_arrays_signs (with_arrays_signs f k xs) (length xs + k) ys
arrays_both f k [] ys = ap (λ (n : ℕ). with_arrays_signs f n ys) (let e : k ≡ 0 + k = omega arith in e)
arrays_both f k (x ∷ xs) ys =
    arrays_both (with_array_signs f k x) (suc k) xs ys
    ∙ ap (λ (n : ℕ). with_arrays_signs (with_arrays_signs (with_array_signs f k x) (suc k) xs) n ys) (let e : length xs + suc k ≡ suc (length xs) + k = omega arith in e)

is_other : (a b : ℕ) → a < b → nat_eq a b ≡ false
is_other a b lt = grind arith

is_same : (a b : ℕ) → a ≡ b → nat_eq a b ≡ true
is_same a b e = grind arith

-- later arrays change nothing in earlier ones
arrays_later : (f : ℕ → List Sign) (k a : ℕ) (xs : List (List Lit)) → a < k → with_arrays_signs f k xs a ≡ f a
arrays_later f k a [] lt = refl
arrays_later f k a (x ∷ xs) lt =
    arrays_later (with_array_signs f k x) (suc k) a xs (omega (arith, lt))
    ∙ ap (λ (b : Bool). cond b (elements_signs f x) (f a)) (is_other a k lt)

pub array_at : (xs : List (List Lit)) (ls : List Lit) (all : List (List Lit)) → Longer (xs ++ ls ∷ []) all → array_signs all (length xs) ≡ elements_signs (array_signs xs) ls
array_at xs ls all h =
    let k = length xs + 0 in
    let here : length xs ≡ k = omega arith in
    ap (λ (ys : List (List Lit)). array_signs ys (length xs)) (h.is ∙ append_assoc xs (ls ∷ []) h.rest)
    ∙ ap (λ (f : ℕ → List Sign). f (length xs)) (arrays_both (λ a. []) 0 xs (ls ∷ h.rest))
    ∙ arrays_later (with_array_signs (array_signs xs) k ls) (suc k) (length xs) h.rest (omega (arith, here))
    ∙ ap (λ (b : Bool). cond b (elements_signs (array_signs xs) ls) (array_signs xs (length xs))) (is_same (length xs) k here)

-- The phrase of nodes, and the elements, with any arrays behind theirs.

mutual
  phrase_written : (s : Scope) (ns : Nodes) (arrays : List (List Lit)) (holes : ℕ) (all : List (List Lit)) → AreWorded ns → Longer (phrase_of s [] ns arrays holes).arrays all → phrase_signs (array_signs all) (phrase_of s [] ns arrays holes).phrase ≡ nodes_signs s Quotation ns
  phrase_written s nothing arrays holes all plain h = refl
  phrase_written s (more (n_lit l p) ns) arrays holes all plain h = ap (λ (xs : List Sign). one (lit l) p ∷ xs) (phrase_written s ns arrays holes all plain.1 h)
  phrase_written s (more (n_ref t p) ns) arrays holes all plain h = ap (λ (xs : List Sign). one (lit (wrd (word_of s t))) p ∷ xs) (phrase_written s ns arrays holes all plain.1 h)
  phrase_written s (more (n_name t p) ns) arrays holes all plain h = ap (λ (xs : List Sign). one (word (word_of s t)) p ∷ xs) (phrase_written s ns arrays holes all plain.1 h)
  phrase_written s (more (n_call_effect e p) ns) arrays holes all plain h = ap (λ (xs : List Sign). one (call_effect e) p ∷ xs) (phrase_written s ns arrays holes all plain.1 h)
  phrase_written s (more (n_execute_effect e p) ns) arrays holes all plain h = ap (λ (xs : List Sign). one (execute_effect e) p ∷ xs) (phrase_written s ns arrays holes all plain.1 h)
  phrase_written s (more (n_next p) ns) arrays holes all plain h = ap (λ (xs : List Sign). one next_method p ∷ xs) (phrase_written s ns arrays holes all plain.1 h)
  phrase_written s (more (n_quot ms p) ns) arrays holes all plain h =
      let m = phrase_of s [] ms arrays holes in
      let r = phrase_of s [] ns m.arrays m.holes in
      ap (λ (xs : List Sign). within Quotation (Some p) xs ++ phrase_signs (array_signs all) r.phrase) (phrase_written s ms arrays holes all plain.0 (and_then (phrase_longer s [] ns m.arrays m.holes) h))
      ∙ ap (λ (xs : List Sign). within Quotation (Some p) (nodes_signs s Quotation ms) ++ xs) (phrase_written s ns m.arrays m.holes all plain.1 h)
  phrase_written s (more (n_array ms p) ns) arrays holes all plain h =
      let m = elements_of s ms arrays in
      let more_arrays = m.arrays ++ m.elements ∷ [] in
      let r = phrase_of s [] ns more_arrays holes in
      ap (λ (xs : List Sign). within Array (Some p) xs ++ phrase_signs (array_signs all) r.phrase) (array_at m.arrays m.elements all (and_then (phrase_longer s [] ns more_arrays holes) h) ∙ elements_written s ms arrays m.arrays plain.0 (same m.arrays))
      ∙ ap (λ (xs : List Sign). within Array (Some p) (nodes_signs s Array ms) ++ xs) (phrase_written s ns more_arrays holes all plain.1 h)
  phrase_written s (more n ns) arrays holes all plain h = absurd plain.0

  elements_written : (s : Scope) (ns : Nodes) (arrays : List (List Lit)) (all : List (List Lit)) → AreWorded ns → Longer (elements_of s ns arrays).arrays all → elements_signs (array_signs all) (elements_of s ns arrays).elements ≡ nodes_signs s Array ns
  elements_written s nothing arrays all plain h = refl
  elements_written s (more (n_lit (int z) p) ns) arrays all plain h = ap (λ (xs : List Sign). value (literal (int z)) ∷ xs) (elements_written s ns arrays all plain.1 h)
  elements_written s (more (n_lit yes p) ns) arrays all plain h = ap (λ (xs : List Sign). value (literal yes) ∷ xs) (elements_written s ns arrays all plain.1 h)
  elements_written s (more (n_lit no p) ns) arrays all plain h = ap (λ (xs : List Sign). value (literal no) ∷ xs) (elements_written s ns arrays all plain.1 h)
  elements_written s (more (n_lit (str cs) p) ns) arrays all plain h = ap (λ (xs : List Sign). value (literal (str cs)) ∷ xs) (elements_written s ns arrays all plain.1 h)
  elements_written s (more (n_lit l p) ns) arrays all plain h = absurd plain.0
  elements_written s (more (n_ref t p) ns) arrays all plain h = ap (λ (xs : List Sign). value (literal_is.Wref (word_of s t)) ∷ xs) (elements_written s ns arrays all plain.1 h)
  elements_written s (more (n_name t p) ns) arrays all plain h = ap (λ (xs : List Sign). value (literal_is.Wref (word_of s t)) ∷ xs) (elements_written s ns arrays all plain.1 h)
  elements_written s (more (n_call_effect e p) ns) arrays all plain h = elements_written s ns arrays all plain.1 h
  elements_written s (more (n_execute_effect e p) ns) arrays all plain h = elements_written s ns arrays all plain.1 h
  elements_written s (more (n_next p) ns) arrays all plain h = elements_written s ns arrays all plain.1 h
  elements_written s (more (n_quot ms p) ns) arrays all plain h =
      let m = phrase_of s [] ms arrays 0 in
      let r = elements_of s ns m.arrays in
      ap (λ (xs : List Sign). within Quotation None xs ++ elements_signs (array_signs all) r.elements) (phrase_written s ms arrays 0 all plain.0 (and_then (elements_longer s ns m.arrays) h))
      ∙ ap (λ (xs : List Sign). within Quotation None (nodes_signs s Quotation ms) ++ xs) (elements_written s ns m.arrays all plain.1 h)
  elements_written s (more (n_array ms p) ns) arrays all plain h =
      let m = elements_of s ms arrays in
      let more_arrays = m.arrays ++ m.elements ∷ [] in
      let r = elements_of s ns more_arrays in
      ap (λ (xs : List Sign). within Array None xs ++ elements_signs (array_signs all) r.elements) (array_at m.arrays m.elements all (and_then (elements_longer s ns more_arrays) h) ∙ elements_written s ms arrays m.arrays plain.0 (same m.arrays))
      ∙ ap (λ (xs : List Sign). within Array None (nodes_signs s Array ms) ++ xs) (elements_written s ns more_arrays all plain.1 h)
  elements_written s (more n ns) arrays all plain h = absurd plain.0

-- Elements by their nodes.

abbrev Matching : List Bracket → List Element → Type 0
Matching brackets [] = brackets ≡ []
Matching brackets (element.Item t ∷ es) = Matching brackets es
Matching brackets (element.Opens b place ∷ es) = Matching (b ∷ brackets) es
Matching brackets (element.OpensLocals place names bar ∷ es) = ⊥
Matching [] (element.Closes b place ∷ es) = ⊥
Matching (c ∷ brackets) (element.Closes b place ∷ es) = (c ≡ b) × Matching brackets es

-- what is around, each behind the bracket that ends the one before
abbrev around_signs : Scope → List Bracket → List Nodes → List Sign
around_signs s [] nss = []
around_signs s (b ∷ brackets) [] = []
around_signs s (b ∷ brackets) (ns ∷ nss) = closes b ∷ nodes_signs s (innermost brackets) ns ++ around_signs s brackets nss

abbrev all_signs : Scope → List Bracket → Rests → List Sign
all_signs s brackets r = nodes_signs s (innermost brackets) r.here ++ around_signs s brackets r.around

-- so many brackets are open, and what follows is written so
record Spells (s : Scope) (brackets : List Bracket) (r : Rests) (signs : List Sign) : Type 0 where
  around : length r.around ≡ length brackets
  written : all_signs s brackets r ≡ signs

-- no fry is open
abbrev AreOfItems : List Bracket → Type 0
AreOfItems [] = Unit {0}
AreOfItems (Fry ∷ bs) = ⊥
AreOfItems (b ∷ bs) = AreOfItems bs

abbrev IsNoFry : Bracket → Type 0
IsNoFry Fry = ⊥
IsNoFry _ = Unit {0}

innermost_no_fry : (bs : List Bracket) → AreOfItems bs → IsNoFry (innermost bs)
innermost_no_fry [] h = tt
innermost_no_fry (Quotation ∷ bs) h = tt
innermost_no_fry (Array ∷ bs) h = tt
innermost_no_fry (Fry ∷ bs) h = absurd h

call_alone : (s : Scope) (callee : Callee) (h : Height) (p : Place) → node_signs s Quotation (tested_call callee h p) ≡ one (tested_item callee h) p ∷ []
call_alone s Callable h p = refl
call_alone s Word h p = refl

call_in_array : (s : Scope) (callee : Callee) (h : Height) (p : Place) → node_signs s Array (tested_call callee h p) ≡ []
call_in_array s Callable h p = refl
call_in_array s Word h p = refl

term_alone : (s : Scope) (b : Bracket) (t : Term) → IsNoFry b → IsOfWords (element.Item t) → node_signs s b (node t) ≡ term_signs s b t
term_alone s Quotation (term.Name t) h w = refl
term_alone s Quotation (term.Wrapped sign name) h w = refl
term_alone s Quotation (term.EffectCall callee sign tokens height) h w = call_alone s callee height sign
term_alone s Quotation (term.Literal t l) h w = refl
term_alone s Quotation (term.NextMethod place) h w = refl
term_alone s Array (term.Name t) h w = refl
term_alone s Array (term.Wrapped sign name) h w = refl
term_alone s Array (term.EffectCall callee sign tokens height) h w = call_in_array s callee height sign
term_alone s Array (term.Literal t l) h w = refl
term_alone s Array (term.NextMethod place) h w = refl
term_alone s Quotation (term.Bind sign name) h w = absurd w
term_alone s Quotation (term.Hole place) h w = absurd w
term_alone s Quotation (term.CalledHole place) h w = absurd w
term_alone s Array (term.Bind sign name) h w = absurd w
term_alone s Array (term.Hole place) h w = absurd w
term_alone s Array (term.CalledHole place) h w = absurd w
term_alone s Fry t h w = absurd h

bracket_signs : (s : Scope) (around b : Bracket) (ms : Nodes) (p : Place) → IsNoFry b → node_signs s around (bracketed b ms p) ≡ within b (place_in around p) (nodes_signs s b ms)
bracket_signs s around Quotation ms p h = refl
bracket_signs s around Array ms p h = refl
bracket_signs s around Fry ms p h = absurd h

within_spells : (b : Bracket) (o : Option Place) (xs ys zs : List Sign) → (within b o xs ++ ys) ++ zs ≡ opens b o ∷ (xs ++ (closes b ∷ (ys ++ zs)))
within_spells b o xs ys zs = simp append_assoc

bracket_spells : (s : Scope) (brackets : List Bracket) (b : Bracket) (p : Place) (ms : Nodes) (nss : List Nodes) → IsNoFry b → length nss ≡ suc (length brackets) →
    Spells s brackets (open_before (bracketed b ms p) nss) (opens b (place_in (innermost brackets) p) ∷ nodes_signs s b ms ++ around_signs s (b ∷ brackets) nss)
bracket_spells s brackets b p ms [] f e = absurd (omega (arith, e))
bracket_spells s brackets b p ms (ns ∷ nss) f e =
    record {
      around = omega (arith, e);
      written =
          ap (λ (xs : List Sign). (xs ++ nodes_signs s (innermost brackets) ns) ++ around_signs s brackets nss) (bracket_signs s (innermost brackets) b ms p f)
          ∙ within_spells b (place_in (innermost brackets) p) (nodes_signs s b ms) (nodes_signs s (innermost brackets) ns) (around_signs s brackets nss);
    }

no_fry : (b : Bracket) (p : Place) → IsOfWords (element.Opens b p) → IsNoFry b
no_fry Quotation p w = tt
no_fry Array p w = tt
no_fry Fry p w = absurd w

more_items : (b : Bracket) (p : Place) (bs : List Bracket) → IsOfWords (element.Opens b p) → AreOfItems bs → AreOfItems (b ∷ bs)
more_items Quotation p bs w f = f
more_items Array p bs w f = f
more_items Fry p bs w f = absurd w

less_items : (b : Bracket) (bs : List Bracket) → AreOfItems (b ∷ bs) → AreOfItems bs
less_items Quotation bs f = f
less_items Array bs f = f
less_items Fry bs f = absurd f

elements_spell : (s : Scope) (brackets : List Bracket) (es : List Element) → AreOfItems brackets → AreOfWords es → Matching brackets es → Spells s brackets (rests es) (element_signs s brackets es)
elements_spell s [] [] f w h = record { around = refl; written = refl }
elements_spell s (b ∷ brackets) [] f w h = absurd (cc)
elements_spell s brackets (element.Item t ∷ es) f w h =
    let rest = elements_spell s brackets es f w.1 h in
    record {
      around = rest.around;
      written =
          ap (λ (xs : List Sign). (xs ++ nodes_signs s (innermost brackets) (rests es).here) ++ around_signs s brackets (rests es).around) (term_alone s (innermost brackets) t (innermost_no_fry brackets f) w.0)
          ∙ append_assoc (term_signs s (innermost brackets) t) (nodes_signs s (innermost brackets) (rests es).here) (around_signs s brackets (rests es).around)
          ∙ ap (λ (xs : List Sign). term_signs s (innermost brackets) t ++ xs) rest.written;
    }
elements_spell s brackets (element.Opens b place ∷ es) f w h =
    let rest = elements_spell s (b ∷ brackets) es (more_items b place brackets w.0 f) w.1 h in
    let made = bracket_spells s brackets b place (rests es).here (rests es).around (no_fry b place w.0) rest.around in
    record { around = made.around; written = made.written ∙ ap (λ (xs : List Sign). opens b (place_in (innermost brackets) place) ∷ xs) rest.written }
elements_spell s brackets (element.OpensLocals place names bar ∷ es) f w h = absurd w.0
elements_spell s [] (element.Closes b place ∷ es) f w h = absurd h
elements_spell s (c ∷ brackets) (element.Closes b place ∷ es) f w h =
    let rest = elements_spell s brackets es (less_items c brackets f) w.1 h.1 in
    record { around = ap suc rest.around; written = ap (λ (d : Bracket). closes d ∷ all_signs s brackets (rests es)) h.0 ∙ ap (λ (xs : List Sign). closes b ∷ xs) rest.written }

-- Brackets that match.

-- a bracket that closes is of the kind of the one that it closes, where that is no fry's
closed_alike : (a : Around) (b d : Bracket) (inner c : Context) (cs next : List Context) → inner.around ≡ a → kind_of inner.around ≡ d → IsNoFry d → closed_in a b inner c cs ≡ Some next → d ≡ b
closed_alike stands_in.Items Quotation d inner c cs next e k f h = sym k ∙ ap kind_of e
closed_alike (stands_in.Array n) Array d inner c cs next e k f h = sym k ∙ ap kind_of e
closed_alike stands_in.Fry Quotation d inner c cs next e k f h = absurd (subst IsNoFry (sym k ∙ ap kind_of e) f)
closed_alike stands_in.Items Fry d inner c cs next e k f h = absurd (cc)
closed_alike stands_in.Items Array d inner c cs next e k f h = absurd (cc)
closed_alike stands_in.Fry Fry d inner c cs next e k f h = absurd (cc)
closed_alike stands_in.Fry Array d inner c cs next e k f h = absurd (cc)
closed_alike (stands_in.Array n) Quotation d inner c cs next e k f h = absurd (cc)
closed_alike (stands_in.Array n) Fry d inner c cs next e k f h = absurd (cc)

first_no_fry : (b : Bracket) (bs : List Bracket) → AreOfItems (b ∷ bs) → IsNoFry b
first_no_fry Quotation bs f = tt
first_no_fry Array bs f = tt
first_no_fry Fry bs f = absurd f

closes_alike : (cs next : List Context) (d b : Bracket) (bs : List Bracket) → Stand (seen_all cs) (d ∷ bs) → IsNoFry d → closed cs b ≡ Some next → d ≡ b
closes_alike [] next d b bs s f h = absurd s
closes_alike (c ∷ []) next d b bs s f h = absurd (cc)
closes_alike (inner ∷ c ∷ cs) next d b bs s f h = closed_alike inner.around b d inner c cs next refl s.0 f h

leads_matching : (cs : List Context) (to : Context) (bs : List Bracket) (es : List Element) → Stand (seen_all cs) bs → AreOfItems bs → AreOfWords es → Lead cs es (to ∷ []) → Matching bs es
leads_matching cs to bs [] s f w h = let t = subst (λ (xs : List Context). Stand (seen_all xs) bs) h s in t.0
leads_matching cs to bs (element.Item t ∷ es) s f w h = let k = steps cs h.1 bs (element.Item t) h.0 s h.2 in leads_matching h.1 to bs es k.1 f w.1 h.3
leads_matching cs to bs (element.Opens b p ∷ es) s f w h = let k = steps cs h.1 bs (element.Opens b p) h.0 s h.2 in leads_matching h.1 to (b ∷ bs) es k.1 (more_items b p bs w.0 f) w.1 h.3
leads_matching cs to bs (element.OpensLocals p names bar ∷ es) s f w h = absurd w.0
leads_matching cs to [] (element.Closes b p ∷ es) s f w h = (let k = steps cs h.1 [] (element.Closes b p) h.0 s h.2 in absurd k.0)
leads_matching cs to (d ∷ bs) (element.Closes b p ∷ es) s f w h =
    let k = steps cs h.1 (d ∷ bs) (element.Closes b p) h.0 s h.2 in (closes_alike cs h.1 d b bs s (first_no_fry d bs f) h.2, leads_matching h.1 to bs es k.1 (less_items d bs f) w.1 h.3)

pub phrases_are_written : PhrasesAreWrittenAsItems
phrases_are_written s arrays items h w same_nodes =
    let spelled = elements_spell s [] items tt w (leads_matching (items_in None ∷ []) h.0 [] items (refl, refl, refl) tt w h.1) in
    let m = phrase_of s [] (nested items) arrays 0 in
    ap (λ (ns : Nodes). let q = phrase_of s [] ns arrays 0 in phrase_signs (array_signs q.arrays) q.phrase) same_nodes
    ∙ phrase_written s (nested items) arrays 0 m.arrays (rests_worded items w).0 (same m.arrays)
    ∙ sym (append-nil (nodes_signs s Quotation (nested items)))
    ∙ spelled.written
