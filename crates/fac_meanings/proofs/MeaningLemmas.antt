-- What items mean.
use Rattle.std.proofs.Common.{◌≡◌, ◌+◌, ℕ, zero, suc, List, [], ◌∷◌, ◌++◌, length, slice_get, Bool, true, false, Option, Some, None, refl, ap, sym, ◌∙◌, subst, append_assoc, append-nil, arith}
use Rattle.std.specs.Prelude.{drop, codes, if◌then◌else◌}
use Rattle.fac_base.specs.Signatures.{Signature}
use Rattle.fac_base.specs.declared.place.Place.{Place}
use Rattle.fac_lang.specs.Phrases.{Phrase, end, then as placed, int, yes, no, str, lit, wrd, word, bind, local, hole, call_effect, execute_effect, next_method}
use Rattle.fac_lang.specs.RunningLaws.{append}
use Rattle.fac_lang.specs.Whole.{plain_effect}
use Rattle.fac_lang.specs.declared.program.Lit.{Lit}
use Rattle.fac_lang.specs.declared.program.Lit.TheVariants as literal_is
use Rattle.fac_lang.specs.declared.program.Sort.{Sort}
use Rattle.fac_lang.specs.declared.program.Sort.TheVariants.{Body as body}
use Rattle.fac_source.specs.declared.tree.Bracket.TheVariants.{Quotation, Array, Fry}
use Rattle.fac_source.specs.declared.tree.Element.{Element}
use Rattle.fac_source.specs.declared.tree.Form.{Form as Flat}
use Rattle.fac_source.specs.Toks.{is_among, texts_of}
use Rattle.fac_vocab.specs.Scopes.{Found, Scope, found}
use Rattle.fac_items.specs.Written.{Tok, n_lit, n_array, n_quot, n_ref, n_name, n_locals, n_fry, n_call_effect, n_execute_effect, n_bind, n_hole, n_at, n_next, n_full, Nodes, nothing, more, Declared, given, makes}
use Rattle.fac_items.specs.FromElements.{AreClosing, nested}
use Rattle.fac_items.specs.Items.{Made, behind_phrase, elements_of, is_cond, literal, local_of, phrase_of, ref, search_faults, word_of}
use Rattle.fac_items.specs.Made.{made}
use Rattle.fac_items.specs.Readings.{are_pairs, behind_first, bindings, cond_first, joined, read_elements, read_items, read_pairs, with_inputs}
use Rattle.fac_items.proofs.PhraseLemmas.{append_end}
use Rattle.fac_items.proofs.RawNodes.{AreRaw, AreRawElements, nested_raw}
use Rattle.fac_items.proofs.ReadingLemmas.{BeforeName, bindings_read, cond_behind, with_pairs}
use Rattle.fac_endings.specs.Words.{no_effect}
use Rattle.fac_endings.specs.declared.draft.Draft.{Draft}
use Rattle.fac_endings.specs.declared.draft.Late.{Late}
use Rattle.fac_endings.specs.declared.draft.Late.TheVariants.{Method as method_of}
use Rattle.fac_names.specs.Forms.{Reading, added, changed, declared_effect, declared_late, own, refused, told, with_told}
use Rattle.fac_names.specs.FromFlat.{first_node}
use Rattle.fac_names.specs.TakenForms.{take_front}
use Rattle.fac_names.proofs.BracketLemmas.{items_closing, literal_closing, literal_sole}
use Rattle.fac_known.specs.Laws.{Longer}
use Rattle.fac_known.proofs.Growing.{and_then, elements_longer, phrase_longer, read_for, same}
use Rattle.fac_meanings.specs.SearchOrder.{found_at, latest_first}
use Rattle.fac_meanings.specs.Signs.{Sign, array_signs, closes, elements_signs, filled, item_signs, one, opens, phrase_signs, value, within}
use Rattle.fac_meanings.specs.Meanings.{ConstantsAreMeant, DefinitionsAreMeant, FormsAreMeant, HasPhrase, IsWritten, MainsAreMeant, MakersAreMeant, MethodsAreMeant, TopItemsAreMeant, bindings_signs, cases, holes_behind, maker_signs, meanings, meant, named_item, values, word_found, words_behind, words_in, words_of}
use Rattle.fac_meanings.proofs.FoundNames.{names_are_found}
use Rattle.fac_meanings.proofs.SignLemmas.{array_at}

-- Bindings of inputs.

inputs_counted : (ts : List Tok) (locals : List (List ℕ)) → length (texts_of ts ++ locals) ≡ length locals + length ts
inputs_counted [] locals = omega arith
inputs_counted (t ∷ ts) locals = let rest = inputs_counted ts locals in omega (arith, rest)

bindings_meant : (s : Scope) (inner : ℕ → List Sign) (locals : List (List ℕ)) (ts : List Tok) (earlier : List (List ℕ)) (ns : Nodes) (arrays : List (List Lit)) (holes : ℕ) →
    phrase_signs inner (phrase_of s locals (bindings ts earlier ns) arrays holes).phrase ≡ bindings_signs (length locals) ts ++ phrase_signs inner (phrase_of s (texts_of ts ++ locals) ns arrays holes).phrase
bindings_meant s inner locals [] earlier ns arrays holes = refl
bindings_meant s inner locals (t ∷ ts) earlier ns arrays holes =
    let rest = phrase_signs inner (phrase_of s (t.text ∷ (texts_of ts ++ locals)) ns arrays holes).phrase in
    let k = length locals in
    bindings_meant s inner locals ts (t.text ∷ earlier) (more (n_bind t (is_among t.text earlier) t.place) ns) arrays holes
    ∙ ap (λ (n : ℕ). bindings_signs k ts ++ (one (bind n) t.place ∷ rest)) (inputs_counted ts locals)
    ∙ sym (append_assoc (bindings_signs k ts) (one (bind (k + length ts)) t.place ∷ []) rest)

bindings_arrays : (s : Scope) (locals : List (List ℕ)) (ts : List Tok) (earlier : List (List ℕ)) (ns : Nodes) (arrays : List (List Lit)) (holes : ℕ) →
    (phrase_of s locals (bindings ts earlier ns) arrays holes).arrays ≡ (phrase_of s (texts_of ts ++ locals) ns arrays holes).arrays
bindings_arrays s locals [] earlier ns arrays holes = refl
bindings_arrays s locals (t ∷ ts) earlier ns arrays holes = bindings_arrays s locals ts (t.text ∷ earlier) (more (n_bind t (is_among t.text earlier) t.place) ns) arrays holes

bindings_holes : (s : Scope) (locals : List (List ℕ)) (ts : List Tok) (earlier : List (List ℕ)) (ns : Nodes) (arrays : List (List Lit)) (holes : ℕ) →
    (phrase_of s locals (bindings ts earlier ns) arrays holes).holes ≡ (phrase_of s (texts_of ts ++ locals) ns arrays holes).holes
bindings_holes s locals [] earlier ns arrays holes = refl
bindings_holes s locals (t ∷ ts) earlier ns arrays holes = bindings_holes s locals ts (t.text ∷ earlier) (more (n_bind t (is_among t.text earlier) t.place) ns) arrays holes

-- A `cond` behind an array.

pub first_read : (c : List ℕ → Bool) (locals : List (List ℕ)) (fry : Bool) (ns : Nodes) → AreRaw fry ns → cond_first c locals (read_items c locals ns) ≡ cond_first c locals ns
first_read c locals fry nothing h = refl
first_read c locals fry (more (n_name t p) ns) h = refl
first_read c locals fry (more (n_array es q) ns) h = cond_behind c locals fry (more (n_array es q) ns) h
first_read c locals fry (more (n_lit l p) ns) h = refl
first_read c locals fry (more (n_ref t p) ns) h = refl
first_read c locals fry (more (n_call_effect e p) ns) h = refl
first_read c locals fry (more (n_execute_effect e p) ns) h = refl
first_read c locals fry (more (n_next p) ns) h = refl
first_read c locals fry (more (n_bind t twice p) ns) h = refl
first_read c locals fry (more (n_hole p) ns) h = refl
first_read c locals fry (more (n_at p) ns) h = refl
first_read c locals fry (more (n_quot ms p) ns) h = refl
first_read c locals fry (more (n_locals ts ms p) ns) h = refl
first_read c locals fry (more (n_fry ms p) ns) h = refl
first_read c locals fry (more n ns) h = absurd h.0

place_read : (c : List ℕ → Bool) (locals : List (List ℕ)) (fry : Bool) (es ns : Nodes) → AreRaw fry ns →
    (if are_pairs es then cond_first c locals ns else None) ≡ (if are_pairs es then cond_first c locals (read_items c locals ns) else None)
place_read c locals fry es ns h = ap (λ (o : Option Place). if are_pairs es then o else None) (sym (first_read c locals fry ns h))

by_place : (P : Option Place → Type 0) (o : Option Place) → (o ≡ None → P None) → ((p : Place) → o ≡ Some p → P (Some p)) → P o
by_place P None f g = f refl
by_place P (Some p) f g = g p refl

are_cases : (b : Bool) (o : Option Place) (p : Place) → (if b then o else None) ≡ Some p → b ≡ true
are_cases true o p h = refl
are_cases false o p h = absurd (cc)

no_place : (b : Bool) (p : Place) → (if b then None else None) ≡ Some p → ⊥
no_place true p h = cc
no_place false p h = cc

cond_name : (c : List ℕ → Bool) (locals : List (List ℕ)) (es ns : Nodes) (p : Place) → (if are_pairs es then cond_first c locals ns else None) ≡ Some p → BeforeName ns
cond_name c locals es nothing p h = absurd (no_place (are_pairs es) p h)
cond_name c locals es (more (n_name t q) ns) p h = record { name = t; place = q; rest = ns; is = refl }
cond_name c locals es (more n ns) p h = absurd (no_place (are_pairs es) p h)

name_alone : (inner : ℕ → List Sign) (o : Option ℕ) (w : ℕ) (p : Place) → item_signs inner (elim o [ Some x ↦ local x | None ↦ word w ]) p ≡ one (elim o [ Some x ↦ local x | None ↦ word w ]) p ∷ []
name_alone inner (Some x) w p = refl
name_alone inner None w p = refl

-- items behind the name with which they begin

skip_signs : (s : Scope) (inner : ℕ → List Sign) (locals : List (List ℕ)) (ns : Nodes) (arrays : List (List Lit)) (holes : ℕ) → BeforeName ns →
    (let rest = read_items (is_cond s) locals ns in phrase_signs inner (phrase_of s locals (behind_first rest) arrays holes).phrase ≡ drop 1 (phrase_signs inner (phrase_of s locals rest arrays holes).phrase))
skip_signs s inner locals ns arrays holes b =
    let read : Nodes → Nodes = λ xs. read_items (is_cond s) locals xs in
    subst (λ (xs : Nodes). phrase_signs inner (phrase_of s locals (behind_first (read xs)) arrays holes).phrase ≡ drop 1 (phrase_signs inner (phrase_of s locals (read xs) arrays holes).phrase)) (sym b.is)
    (sym (ap (λ (xs : List Sign). drop 1 (xs ++ phrase_signs inner (phrase_of s locals (read b.rest) arrays holes).phrase)) (name_alone inner (local_of locals b.name.text) (word_of s b.name) b.place)))

skip_arrays : (s : Scope) (locals : List (List ℕ)) (ns : Nodes) (arrays : List (List Lit)) (holes : ℕ) → BeforeName ns →
    (let rest = read_items (is_cond s) locals ns in (phrase_of s locals (behind_first rest) arrays holes).arrays ≡ (phrase_of s locals rest arrays holes).arrays)
skip_arrays s locals ns arrays holes b =
    let read : Nodes → Nodes = λ xs. read_items (is_cond s) locals xs in subst (λ (xs : Nodes). (phrase_of s locals (behind_first (read xs)) arrays holes).arrays ≡ (phrase_of s locals (read xs) arrays holes).arrays) (sym b.is) refl

skip_holes : (s : Scope) (locals : List (List ℕ)) (ns : Nodes) (arrays : List (List Lit)) (holes : ℕ) → BeforeName ns →
    (let rest = read_items (is_cond s) locals ns in (phrase_of s locals (behind_first rest) arrays holes).holes ≡ (phrase_of s locals rest arrays holes).holes)
skip_holes s locals ns arrays holes b =
    let read : Nodes → Nodes = λ xs. read_items (is_cond s) locals xs in subst (λ (xs : Nodes). (phrase_of s locals (behind_first (read xs)) arrays holes).holes ≡ (phrase_of s locals (read xs) arrays holes).holes) (sym b.is) refl

-- cases before items
cases_joined : (s : Scope) (c : List ℕ → Bool) (locals : List (List ℕ)) (p : Place) (es ns : Nodes) (arrays : List (List Lit)) (holes : ℕ) → are_pairs es ≡ true →
    (let m = phrase_of s locals (read_pairs c locals p es) arrays holes in phrase_of s locals (joined (read_pairs c locals p es) ns) arrays holes ≡ behind_phrase m.phrase (phrase_of s locals ns m.arrays m.holes))
cases_joined s c locals p nothing ns arrays holes h = refl
cases_joined s c locals p (more (n_quot ms q) nothing) ns arrays holes h =
    let m = phrase_of s locals (read_items c locals ms) arrays holes in ap (λ (t : Phrase). behind_phrase t (phrase_of s locals ns m.arrays m.holes)) (sym (append_end m.phrase))
cases_joined s c locals p (more (n_array (more (n_quot ts o) (more (n_quot ms q) nothing)) r) es) ns arrays holes h = refl
cases_joined s c locals p (more n es) ns arrays holes h = absurd (cc)

-- The holes of a phrase.

none_inside : (ns : Nodes) (holes : ℕ) → AreRaw false ns → holes_behind holes ns ≡ holes
none_inside nothing holes h = refl
none_inside (more (n_lit x p) ns) holes h = none_inside ns holes h.1
none_inside (more (n_ref t p) ns) holes h = none_inside ns holes h.1
none_inside (more (n_name t p) ns) holes h = none_inside ns holes h.1
none_inside (more (n_call_effect e p) ns) holes h = none_inside ns holes h.1
none_inside (more (n_execute_effect e p) ns) holes h = none_inside ns holes h.1
none_inside (more (n_next p) ns) holes h = none_inside ns holes h.1
none_inside (more (n_bind t twice p) ns) holes h = none_inside ns holes h.1
none_inside (more (n_hole p) ns) holes h = absurd (cc)
none_inside (more (n_at p) ns) holes h = absurd (cc)
none_inside (more (n_quot ms p) ns) holes h = ap (λ (k : ℕ). holes_behind k ns) (none_inside ms holes h.0) ∙ none_inside ns holes h.1
none_inside (more (n_locals ts ms p) ns) holes h = ap (λ (k : ℕ). holes_behind k ns) (none_inside ms holes h.0) ∙ none_inside ns holes h.1
none_inside (more (n_fry ms p) ns) holes h = none_inside ns holes h.1
none_inside (more (n_array es p) ns) holes h = none_inside ns holes h.1
none_inside (more n ns) holes h = absurd h.0

mutual
  phrase_holes : (s : Scope) (locals : List (List ℕ)) (ns : Nodes) (fry : Bool) (arrays : List (List Lit)) (holes : ℕ) → AreRaw fry ns → (phrase_of s locals (read_items (is_cond s) locals ns) arrays holes).holes ≡ holes_behind holes ns
  phrase_holes s locals nothing fry arrays holes h = refl
  phrase_holes s locals (more (n_lit x p) ns) fry arrays holes h = phrase_holes s locals ns fry arrays holes h.1
  phrase_holes s locals (more (n_ref t p) ns) fry arrays holes h = phrase_holes s locals ns fry arrays holes h.1
  phrase_holes s locals (more (n_name t p) ns) fry arrays holes h = phrase_holes s locals ns fry arrays holes h.1
  phrase_holes s locals (more (n_call_effect e p) ns) fry arrays holes h = phrase_holes s locals ns fry arrays holes h.1
  phrase_holes s locals (more (n_execute_effect e p) ns) fry arrays holes h = phrase_holes s locals ns fry arrays holes h.1
  phrase_holes s locals (more (n_next p) ns) fry arrays holes h = phrase_holes s locals ns fry arrays holes h.1
  phrase_holes s locals (more (n_bind t twice p) ns) fry arrays holes h = phrase_holes s (t.text ∷ locals) ns fry arrays holes h.1
  phrase_holes s locals (more (n_hole p) ns) fry arrays holes h = phrase_holes s locals ns fry arrays (suc holes) h.1
  phrase_holes s locals (more (n_at p) ns) fry arrays holes h = phrase_holes s locals ns fry arrays (suc holes) h.1
  phrase_holes s locals (more (n_quot ms p) ns) fry arrays holes h =
      let m = phrase_of s locals (read_items (is_cond s) locals ms) arrays holes in phrase_holes s locals ns fry m.arrays m.holes h.1 ∙ ap (λ (k : ℕ). holes_behind k ns) (phrase_holes s locals ms fry arrays holes h.0)
  phrase_holes s locals (more (n_locals ts ms p) ns) fry arrays holes h =
      let inner = read_items (is_cond s) (texts_of ts ++ locals) ms in
      let m = phrase_of s locals (bindings ts [] inner) arrays holes in
      phrase_holes s locals ns fry m.arrays m.holes h.1 ∙ ap (λ (k : ℕ). holes_behind k ns) (bindings_holes s locals ts [] inner arrays holes ∙ phrase_holes s (texts_of ts ++ locals) ms fry arrays holes h.0)
  phrase_holes s locals (more (n_fry ms p) ns) fry arrays holes h =
      let m = phrase_of s locals (read_items (is_cond s) locals ms) arrays 0 in phrase_holes s locals ns fry m.arrays holes h.1
  phrase_holes s locals (more (n_array es q) ns) fry arrays holes h =
      let c = is_cond s in
      let rest = read_items c locals ns in
      let a = elements_of s (read_elements c es) arrays in
      let P : Option Place → Type 0 = λ o. (phrase_of s locals (with_pairs c locals es q rest o) arrays holes).holes ≡ holes_behind holes ns in
      subst P (place_read c locals fry es ns h.1) (by_place P (if are_pairs es then cond_first c locals ns else None)
      (λ none. phrase_holes s locals ns fry (a.arrays ++ a.elements ∷ []) holes h.1)
      (λ p is.
      let pairs = are_cases (are_pairs es) (cond_first c locals ns) p is in
      let m = phrase_of s locals (read_pairs c locals p es) arrays holes in
      ap (λ (x : Made). x.holes) (cases_joined s c locals p es (behind_first rest) arrays holes pairs)
      ∙ skip_holes s locals ns m.arrays m.holes (cond_name c locals es ns p is)
      ∙ phrase_holes s locals ns fry m.arrays m.holes h.1
      ∙ ap (λ (k : ℕ). holes_behind k ns) (cases_holes s locals p es arrays holes pairs h.0)))
  phrase_holes s locals (more n ns) fry arrays holes h = absurd h.0

  cases_holes : (s : Scope) (locals : List (List ℕ)) (p : Place) (es : Nodes) (arrays : List (List Lit)) (holes : ℕ) → are_pairs es ≡ true → AreRawElements es → (phrase_of s locals (read_pairs (is_cond s) locals p es) arrays holes).holes ≡ holes
  cases_holes s locals p nothing arrays holes e h = refl
  cases_holes s locals p (more (n_quot ms q) nothing) arrays holes e h = phrase_holes s locals ms false arrays holes h.0 ∙ none_inside ms holes h.0
  cases_holes s locals p (more (n_array (more (n_quot ts o) (more (n_quot ms q) nothing)) r) es) arrays holes e h =
      let first = phrase_of s locals (read_items (is_cond s) locals ts) arrays holes in
      let second = phrase_of s locals (read_items (is_cond s) locals ms) first.arrays first.holes in
      cases_holes s locals p es second.arrays second.holes e h.1
      ∙ phrase_holes s locals ms false first.arrays first.holes h.0.1.0
      ∙ none_inside ms first.holes h.0.1.0
      ∙ phrase_holes s locals ts false arrays holes h.0.0
      ∙ none_inside ts holes h.0.0
  cases_holes s locals p (more n es) arrays holes e h = absurd (cc)

-- Signs behind one another.

signs_append : (inner : ℕ → List Sign) (t u : Phrase) → phrase_signs inner (append t u) ≡ phrase_signs inner t ++ phrase_signs inner u
signs_append inner end u = refl
signs_append inner (placed i p t) u = ap (λ (xs : List Sign). item_signs inner i p ++ xs) (signs_append inner t u) ∙ sym (append_assoc (item_signs inner i p) (phrase_signs inner t) (phrase_signs inner u))

fry_before : (o : Option Place) (n k : ℕ) (xs ys us vs : List Sign) → n ≡ k → xs ≡ ys → us ≡ vs → (opens Fry o ∷ xs ++ filled n ∷ closes Fry ∷ []) ++ us ≡ within Fry o (ys ++ filled k ∷ []) ++ vs
fry_before o n k xs ys us vs h i j =
    ap (λ (m : ℕ). (opens Fry o ∷ xs ++ filled m ∷ closes Fry ∷ []) ++ us) h
    ∙ ap (λ (zs : List Sign). (opens Fry o ∷ zs ++ filled k ∷ closes Fry ∷ []) ++ us) i
    ∙ ap (λ (zs : List Sign). (opens Fry o ∷ ys ++ filled k ∷ closes Fry ∷ []) ++ zs) j
    ∙ ap (λ (zs : List Sign). (opens Fry o ∷ zs) ++ vs) (sym (append_assoc ys (filled k ∷ []) (closes Fry ∷ [])))

case_grouped : (c d : Sign) (xs ys zs : List Sign) → xs ++ (c ∷ (ys ++ (zs ++ (d ∷ [])))) ≡ ((xs ++ (c ∷ ys)) ++ zs) ++ (d ∷ [])
case_grouped c d xs ys zs = simp append_assoc

case_signs : (o q r : Option Place) (c d : Sign) (ts us vs xs ys zs : List Sign) → ts ≡ xs → us ≡ ys → vs ≡ zs →
    within Quotation o ts ++ (c ∷ (within Quotation q us ++ (within Quotation r vs ++ (d ∷ [])))) ≡ ((within Quotation o xs ++ (c ∷ within Quotation q ys)) ++ within Quotation r zs) ++ (d ∷ [])
case_signs o q r c d ts us vs xs ys zs h i j =
    ap (λ (gs : List Sign). within Quotation o gs ++ (c ∷ (within Quotation q us ++ (within Quotation r vs ++ (d ∷ []))))) h
    ∙ ap (λ (gs : List Sign). within Quotation o xs ++ (c ∷ (within Quotation q gs ++ (within Quotation r vs ++ (d ∷ []))))) i
    ∙ ap (λ (gs : List Sign). within Quotation o xs ++ (c ∷ (within Quotation q ys ++ (within Quotation r gs ++ (d ∷ []))))) j
    ∙ case_grouped c d (within Quotation o xs) (within Quotation q ys) (within Quotation r zs)

-- The phrase of nodes, and the elements, with any arrays behind theirs.

mutual
  phrase_meant : (s : Scope) (locals : List (List ℕ)) (ns : Nodes) (fry : Bool) (arrays : List (List Lit)) (holes : ℕ) (all : List (List Lit)) → AreRaw fry ns →
      Longer (phrase_of s locals (read_items (is_cond s) locals ns) arrays holes).arrays all → phrase_signs (array_signs all) (phrase_of s locals (read_items (is_cond s) locals ns) arrays holes).phrase ≡ meanings (words_in s) locals holes ns
  phrase_meant s locals nothing fry arrays holes all h k = refl
  phrase_meant s locals (more (n_lit x p) ns) fry arrays holes all h k = ap (λ (xs : List Sign). one (lit x) p ∷ xs) (phrase_meant s locals ns fry arrays holes all h.1 k)
  phrase_meant s locals (more (n_ref t p) ns) fry arrays holes all h k = ap (λ (xs : List Sign). one (lit (wrd (word_of s t))) p ∷ xs) (phrase_meant s locals ns fry arrays holes all h.1 k)
  phrase_meant s locals (more (n_name t p) ns) fry arrays holes all h k =
      ap (λ (xs : List Sign). xs ++ phrase_signs (array_signs all) (phrase_of s locals (read_items (is_cond s) locals ns) arrays holes).phrase) (name_alone (array_signs all) (local_of locals t.text) (word_of s t) p)
      ∙ ap (λ (xs : List Sign). one (named_item (words_in s) locals t.text) p ∷ xs) (phrase_meant s locals ns fry arrays holes all h.1 k)
  phrase_meant s locals (more (n_call_effect e p) ns) fry arrays holes all h k = ap (λ (xs : List Sign). one (call_effect e) p ∷ xs) (phrase_meant s locals ns fry arrays holes all h.1 k)
  phrase_meant s locals (more (n_execute_effect e p) ns) fry arrays holes all h k = ap (λ (xs : List Sign). one (execute_effect e) p ∷ xs) (phrase_meant s locals ns fry arrays holes all h.1 k)
  phrase_meant s locals (more (n_next p) ns) fry arrays holes all h k = ap (λ (xs : List Sign). one next_method p ∷ xs) (phrase_meant s locals ns fry arrays holes all h.1 k)
  phrase_meant s locals (more (n_bind t twice p) ns) fry arrays holes all h k = ap (λ (xs : List Sign). one (bind (length locals)) p ∷ xs) (phrase_meant s (t.text ∷ locals) ns fry arrays holes all h.1 k)
  phrase_meant s locals (more (n_hole p) ns) fry arrays holes all h k = ap (λ (xs : List Sign). one (hole holes) p ∷ xs) (phrase_meant s locals ns fry arrays (suc holes) all h.1 k)
  phrase_meant s locals (more (n_at p) ns) fry arrays holes all h k = ap (λ (xs : List Sign). one (hole holes) p ∷ (one (word (words_in s).calling) p ∷ xs)) (phrase_meant s locals ns fry arrays (suc holes) all h.1 k)
  phrase_meant s locals (more (n_quot ms p) ns) fry arrays holes all h k =
      let ws = words_in s in
      let rest = read_items (is_cond s) locals ns in
      let m = phrase_of s locals (read_items (is_cond s) locals ms) arrays holes in
      ap (λ (xs : List Sign). within Quotation (Some p) xs ++ phrase_signs (array_signs all) (phrase_of s locals rest m.arrays m.holes).phrase) (phrase_meant s locals ms fry arrays holes all h.0 (and_then (phrase_longer s locals rest m.arrays m.holes) k))
      ∙ ap (λ (xs : List Sign). within Quotation (Some p) (meanings ws locals holes ms) ++ xs) (phrase_meant s locals ns fry m.arrays m.holes all h.1 k ∙ ap (λ (n : ℕ). meanings ws locals n ns) (phrase_holes s locals ms fry arrays holes h.0))
  phrase_meant s locals (more (n_locals ts ms p) ns) fry arrays holes all h k =
      let ws = words_in s in
      let rest = read_items (is_cond s) locals ns in
      let inner = read_items (is_cond s) (texts_of ts ++ locals) ms in
      let m = phrase_of s locals (bindings ts [] inner) arrays holes in
      let now = meanings ws (texts_of ts ++ locals) holes ms in
      ap (λ (xs : List Sign). within Quotation (Some p) xs ++ phrase_signs (array_signs all) (phrase_of s locals rest m.arrays m.holes).phrase)
      (bindings_meant s (array_signs all) locals ts [] inner arrays holes
      ∙ ap (λ (xs : List Sign). bindings_signs (length locals) ts ++ xs) (phrase_meant s (texts_of ts ++ locals) ms fry arrays holes all h.0 (subst (λ (xs : List (List Lit)). Longer xs all) (bindings_arrays s locals ts [] inner arrays holes) (and_then (phrase_longer s locals rest m.arrays m.holes) k))))
      ∙ ap (λ (xs : List Sign). within Quotation (Some p) (bindings_signs (length locals) ts ++ now) ++ xs)
      (phrase_meant s locals ns fry m.arrays m.holes all h.1 k ∙ ap (λ (n : ℕ). meanings ws locals n ns) (bindings_holes s locals ts [] inner arrays holes ∙ phrase_holes s (texts_of ts ++ locals) ms fry arrays holes h.0))
  phrase_meant s locals (more (n_fry ms p) ns) fry arrays holes all h k =
      let ws = words_in s in
      let rest = read_items (is_cond s) locals ns in
      let m = phrase_of s locals (read_items (is_cond s) locals ms) arrays 0 in
      fry_before (Some p) m.holes (holes_behind 0 ms) (phrase_signs (array_signs all) m.phrase) (meanings ws locals 0 ms) (phrase_signs (array_signs all) (phrase_of s locals rest m.arrays holes).phrase) (meanings ws locals holes ns)
      (phrase_holes s locals ms true arrays 0 h.0)
      (phrase_meant s locals ms true arrays 0 all h.0 (and_then (phrase_longer s locals rest m.arrays holes) k))
      (phrase_meant s locals ns fry m.arrays holes all h.1 k)
  phrase_meant s locals (more (n_array es q) ns) fry arrays holes all h k =
      let c = is_cond s in
      let ws = words_in s in
      let rest = read_items c locals ns in
      let behind = meanings ws locals holes ns in
      let now : Option Place → List Sign = λ o. elim o [ Some p ↦ cases ws locals holes p es ++ drop 1 behind | None ↦ within Array (Some q) (values ws es) ++ behind ] in
      let P : Option Place → Option Place → Type 0 = λ o x. Longer (phrase_of s locals (with_pairs c locals es q rest o) arrays holes).arrays all → phrase_signs (array_signs all) (phrase_of s locals (with_pairs c locals es q rest o) arrays holes).phrase ≡ now x in
      let at = if are_pairs es then cond_first c locals ns else None in
      subst (λ (o : Option Place). P o at) (place_read c locals fry es ns h.1) (by_place (λ (o : Option Place). P o o) at
      (λ none. λ long.
      let a = elements_of s (read_elements c es) arrays in
      let arrays_then = a.arrays ++ a.elements ∷ [] in
      ap (λ (xs : List Sign). within Array (Some q) xs ++ phrase_signs (array_signs all) (phrase_of s locals rest arrays_then holes).phrase) (array_at a.arrays a.elements all (and_then (phrase_longer s locals rest arrays_then holes) long) ∙ elements_meant s es arrays a.arrays h.0 (same a.arrays))
      ∙ ap (λ (xs : List Sign). within Array (Some q) (values ws es) ++ xs) (phrase_meant s locals ns fry arrays_then holes all h.1 long))
      (λ p is. λ long.
      let pairs = are_cases (are_pairs es) (cond_first c locals ns) p is in
      let name = cond_name c locals es ns p is in
      let m = phrase_of s locals (read_pairs c locals p es) arrays holes in
      let joint = cases_joined s c locals p es (behind_first rest) arrays holes pairs in
      let last = phrase_of s locals (behind_first rest) m.arrays m.holes in
      let long_rest = subst (λ (xs : List (List Lit)). Longer xs all) (ap (λ (x : Made). x.arrays) joint ∙ skip_arrays s locals ns m.arrays m.holes name) long in
      ap (λ (x : Made). phrase_signs (array_signs all) x.phrase) joint
      ∙ signs_append (array_signs all) m.phrase last.phrase
      ∙ ap (λ (xs : List Sign). xs ++ phrase_signs (array_signs all) last.phrase) (cases_meant s locals p es arrays holes all pairs h.0 (and_then (phrase_longer s locals rest m.arrays m.holes) long_rest))
      ∙ ap (λ (xs : List Sign). cases ws locals holes p es ++ xs)
      (skip_signs s (array_signs all) locals ns m.arrays m.holes name
      ∙ ap (λ (xs : List Sign). drop 1 xs) (phrase_meant s locals ns fry m.arrays m.holes all h.1 long_rest ∙ ap (λ (n : ℕ). meanings ws locals n ns) (cases_holes s locals p es arrays holes pairs h.0)))))
      k
  phrase_meant s locals (more n ns) fry arrays holes all h k = absurd h.0

  cases_meant : (s : Scope) (locals : List (List ℕ)) (p : Place) (es : Nodes) (arrays : List (List Lit)) (holes : ℕ) (all : List (List Lit)) → are_pairs es ≡ true → AreRawElements es →
      Longer (phrase_of s locals (read_pairs (is_cond s) locals p es) arrays holes).arrays all → phrase_signs (array_signs all) (phrase_of s locals (read_pairs (is_cond s) locals p es) arrays holes).phrase ≡ cases (words_in s) locals holes p es
  cases_meant s locals p nothing arrays holes all e h k = refl
  cases_meant s locals p (more (n_quot ms q) nothing) arrays holes all e h k =
      ap (phrase_signs (array_signs all)) (append_end (phrase_of s locals (read_items (is_cond s) locals ms) arrays holes).phrase) ∙ phrase_meant s locals ms false arrays holes all h.0 k
  cases_meant s locals p (more (n_array (more (n_quot ts o) (more (n_quot ms q) nothing)) r) es) arrays holes all e h k =
      let ws = words_in s in
      let later = read_pairs (is_cond s) locals p es in
      let first = phrase_of s locals (read_items (is_cond s) locals ts) arrays holes in
      let second = phrase_of s locals (read_items (is_cond s) locals ms) first.arrays first.holes in
      let third = phrase_of s locals later second.arrays second.holes in
      let long = and_then (phrase_longer s locals later second.arrays second.holes) k in
      let first_holes = phrase_holes s locals ts false arrays holes h.0.0 ∙ none_inside ts holes h.0.0 in
      let second_holes = phrase_holes s locals ms false first.arrays first.holes h.0.1.0 ∙ none_inside ms first.holes h.0.1.0 ∙ first_holes in
      case_signs (Some o) (Some q) (Some p) (one (word ws.calling) p) (one (word ws.choosing) p)
      (phrase_signs (array_signs all) first.phrase) (phrase_signs (array_signs all) second.phrase) (phrase_signs (array_signs all) third.phrase)
      (meanings ws locals holes ts) (meanings ws locals holes ms) (cases ws locals holes p es)
      (phrase_meant s locals ts false arrays holes all h.0.0 (and_then (phrase_longer s locals (read_items (is_cond s) locals ms) first.arrays first.holes) long))
      (phrase_meant s locals ms false first.arrays first.holes all h.0.1.0 long ∙ ap (λ (n : ℕ). meanings ws locals n ms) first_holes)
      (cases_meant s locals p es second.arrays second.holes all e h.1 k ∙ ap (λ (n : ℕ). cases ws locals n p es) second_holes)
  cases_meant s locals p (more n es) arrays holes all e h k = absurd (cc)

  elements_meant : (s : Scope) (ns : Nodes) (arrays : List (List Lit)) (all : List (List Lit)) → AreRawElements ns → Longer (elements_of s (read_elements (is_cond s) ns) arrays).arrays all →
      elements_signs (array_signs all) (elements_of s (read_elements (is_cond s) ns) arrays).elements ≡ values (words_in s) ns
  elements_meant s nothing arrays all h k = refl
  elements_meant s (more (n_lit (int z) p) ns) arrays all h k = ap (λ (xs : List Sign). value (literal (int z)) ∷ xs) (elements_meant s ns arrays all h.1 k)
  elements_meant s (more (n_lit yes p) ns) arrays all h k = ap (λ (xs : List Sign). value (literal yes) ∷ xs) (elements_meant s ns arrays all h.1 k)
  elements_meant s (more (n_lit no p) ns) arrays all h k = ap (λ (xs : List Sign). value (literal no) ∷ xs) (elements_meant s ns arrays all h.1 k)
  elements_meant s (more (n_lit (str cs) p) ns) arrays all h k = ap (λ (xs : List Sign). value (literal (str cs)) ∷ xs) (elements_meant s ns arrays all h.1 k)
  elements_meant s (more (n_lit x p) ns) arrays all h k = absurd h.0
  elements_meant s (more (n_ref t p) ns) arrays all h k = ap (λ (xs : List Sign). value (literal_is.Wref (word_of s t)) ∷ xs) (elements_meant s ns arrays all h.1 k)
  elements_meant s (more (n_name t p) ns) arrays all h k = ap (λ (xs : List Sign). value (literal_is.Wref (word_of s t)) ∷ xs) (elements_meant s ns arrays all h.1 k)
  elements_meant s (more (n_quot ms p) ns) arrays all h k =
      let ws = words_in s in
      let rest = read_elements (is_cond s) ns in
      let m = phrase_of s [] (read_items (is_cond s) [] ms) arrays 0 in
      ap (λ (xs : List Sign). within Quotation None xs ++ elements_signs (array_signs all) (elements_of s rest m.arrays).elements) (phrase_meant s [] ms false arrays 0 all h.0 (and_then (elements_longer s rest m.arrays) k))
      ∙ ap (λ (xs : List Sign). within Quotation None (meanings ws [] 0 ms) ++ xs) (elements_meant s ns m.arrays all h.1 k)
  elements_meant s (more (n_array es q) ns) arrays all h k =
      let ws = words_in s in
      let rest = read_elements (is_cond s) ns in
      let a = elements_of s (read_elements (is_cond s) es) arrays in
      let arrays_then = a.arrays ++ a.elements ∷ [] in
      ap (λ (xs : List Sign). within Array None xs ++ elements_signs (array_signs all) (elements_of s rest arrays_then).elements) (array_at a.arrays a.elements all (and_then (elements_longer s rest arrays_then) k) ∙ elements_meant s es arrays a.arrays h.0 (same a.arrays))
      ∙ ap (λ (xs : List Sign). within Array None (values ws es) ++ xs) (elements_meant s ns arrays_then all h.1 k)
  elements_meant s (more n ns) arrays all h k = absurd h.0

-- All of it.

-- the phrase of items behind their readings
meant_in : (s : Scope) (inputs : List Tok) (items : List Element) (arrays : List (List Lit)) → AreClosing [] items →
    (let m = made s (with_inputs inputs (nested items)) arrays in IsWritten m.arrays m.phrase (meant (words_in s) inputs items))
meant_in s inputs items arrays closing later =
    let c = is_cond s in
    let ns = nested items in
    let inner = read_items c (texts_of inputs ++ []) ns in
    let m = phrase_of s [] (bindings inputs [] inner) arrays 0 in
    let all = m.arrays ++ later in
    ap (λ (xs : Nodes). phrase_signs (array_signs ((phrase_of s [] xs arrays 0).arrays ++ later)) (phrase_of s [] xs arrays 0).phrase) (bindings_read c [] inputs [] ns)
    ∙ bindings_meant s (array_signs all) [] inputs [] inner arrays 0
    ∙ ap (λ (xs : List Sign). bindings_signs 0 inputs ++ xs) (
    phrase_meant s (texts_of inputs ++ []) ns false arrays 0 all (nested_raw items closing) (subst (λ (xs : List (List Lit)). Longer xs all) (bindings_arrays s [] inputs [] inner arrays 0) (record { rest = later; is = refl }))
    ∙ ap (λ (xs : List (List ℕ)). meanings (words_in s) xs 0 ns) (append-nil (texts_of inputs)))

-- searches that find the same
same_finds : (f g : List ℕ → Found) → ((name : List ℕ) → f name ≡ g name) → f ≡ g
same_finds f g h = λ i name. h name i

written_behind : (s : Scope) (before : List ℕ → Found) (inputs : List Tok) (items : List Element) (arrays : List (List Lit)) (phrase : Phrase) → ((name : List ℕ) → found s name ≡ before name) →
    IsWritten arrays phrase (meant (words_in s) inputs items) → IsWritten arrays phrase (meant (words_of s.table before) inputs items)
written_behind s before inputs items arrays phrase h is = subst (λ (finds : List ℕ → Found). IsWritten arrays phrase (meant (words_of s.table finds) inputs items)) (same_finds (λ name. found s name) before h) is

changed_at : {A : Type 0} (f : A → A) (n : ℕ) (xs : List A) (y : A) → slice_get (changed f n xs) n ≡ Some y → (x : A) × (y ≡ f x)
changed_at f zero [] y h = absurd (cc)
changed_at f (suc n) [] y h = absurd (cc)
changed_at f zero (x ∷ xs) y h = (x, cc)
changed_at f (suc n) (x ∷ xs) y h = changed_at f n xs y h

-- a word that is told its phrase
told_phrase : (sort : Sort) (effect : Signature) (inline recursive : Bool) (late : Late) (w : ℕ) (r : Reading) (d : Draft) → slice_get (told sort effect inline recursive late (record { word = w; reading = r })).words w ≡ Some d → d.word.sort ≡ sort
told_phrase sort effect inline recursive late w r d at = let one = changed_at (with_told sort effect inline recursive late) w r.words d at in ap (λ (x : Draft). x.word.sort) one.1

-- a definition with these nodes, whose phrase is written so in the scope in which its name is known
definition_meant : (r : Reading) (n : Tok) (e : Declared) (ns : Nodes) (inline recursive : Bool) (signs : List Sign) →
    (let o = own n r in let m = made o.reading.scope ns o.reading.arrays in IsWritten m.arrays m.phrase signs) →
    (let o = own n r in let q = read_for ns o.reading in let m = made o.reading.scope ns o.reading.arrays in HasPhrase (told (body m.phrase) (declared_effect e) inline recursive (declared_late o.reading.scope e) (record { word = o.word; reading = q })) o.word signs)
definition_meant r n e ns inline recursive signs is d at =
    let o = own n r in
    let m = made o.reading.scope ns o.reading.arrays in
    (m.phrase, told_phrase (body m.phrase) (declared_effect e) inline recursive (declared_late o.reading.scope e) o.word (read_for ns o.reading) d at, is)

pub definitions_are_meant : (r : Reading) (forms : List Flat) (inputs : List Tok) (items : List Element) → (take_front r forms).first ≡ None → AreClosing [] items → DefinitionsAreMeant (take_front r forms) (latest_first [] forms) inputs items
definitions_are_meant r forms inputs items none closing n e inline recursive =
    let o = own n (take_front r forms) in
    let s = o.reading.scope in
    let m = made s (with_inputs inputs (nested items)) o.reading.arrays in
    definition_meant (take_front r forms) n e (with_inputs inputs (nested items)) inline recursive (meant (words_behind s.table (latest_first [] forms)) inputs items) (
    written_behind s (λ name. found_at s.table name (latest_first [] forms)) inputs items m.arrays m.phrase (λ name. (names_are_found r forms name none).1 n) (meant_in s inputs items o.reading.arrays closing))

pub constants_are_meant : (r : Reading) (forms : List Flat) → (take_front r forms).first ≡ None → ConstantsAreMeant (take_front r forms) (latest_first [] forms)
constants_are_meant r forms none n items fits =
    let o = own n (take_front r forms) in
    let s = o.reading.scope in
    let m = made s (nested items) o.reading.arrays in
    let signs = meant (words_behind s.table (latest_first [] forms)) [] items in
    definition_meant (take_front r forms) n (given (plain_effect [] (codes "value" ∷ []))) (more (first_node (nested items)) nothing) false false signs (
    subst (λ (ns : Nodes). let x = made s ns o.reading.arrays in IsWritten x.arrays x.phrase signs) (literal_sole items fits)
    (written_behind s (λ name. found_at s.table name (latest_first [] forms)) [] items m.arrays m.phrase (λ name. (names_are_found r forms name none).1 n) (meant_in s [] items o.reading.arrays (literal_closing items fits))))

pub makers_are_meant : (r : Reading) (forms : List Flat) → (take_front r forms).first ≡ None → MakersAreMeant (take_front r forms) (latest_first [] forms)
makers_are_meant r forms none n c =
    let o = own n (take_front r forms) in
    let ws = words_behind o.reading.scope.table (latest_first [] forms) in
    definition_meant (take_front r forms) n (makes c) (more (n_name c n.place) (more (n_full (codes "kernel") (codes "boa") n.place) nothing)) false false (maker_signs ws n c)
    (λ later. ap (λ (w : ℕ). one (word w) n.place ∷ one (word ws.making) n.place ∷ []) (ap word_found ((names_are_found r forms c.text none).1 n)))

pub methods_are_meant : (r : Reading) (forms : List Flat) (items : List Element) → (take_front r forms).first ≡ None → AreClosing [] items → MethodsAreMeant (take_front r forms) (latest_first [] forms) items
methods_are_meant r forms items none closing c g d at =
    let q = take_front r forms in
    let s = q.scope in
    let a = (added [] g (refused (search_faults s (c ∷ g ∷ [])) q)).reading in
    let m = made s (nested items) q.arrays in (
      m.phrase,
      told_phrase (body m.phrase) no_effect false false (method_of (ref s c) (ref s g)) (length q.words) (read_for (nested items) a) d at,
      written_behind s (λ name. found_at s.table name (latest_first [] forms)) [] items m.arrays m.phrase (λ name. (names_are_found r forms name none).0) (meant_in s [] items q.arrays closing),
    )

pub top_items_are_meant : (r : Reading) (forms : List Flat) (items : List Element) → (take_front r forms).first ≡ None → AreClosing [] items → TopItemsAreMeant (take_front r forms) (latest_first [] forms) items
top_items_are_meant r forms items none closing =
    let q = take_front r forms in
    let s = q.scope in
    let m = made s (nested items) q.arrays in (
      m.phrase,
      refl,
      written_behind s (λ name. found_at s.table name (latest_first [] forms)) [] items m.arrays m.phrase (λ name. (names_are_found r forms name none).0) (meant_in s [] items q.arrays closing),
    )

mains_are_meant : (r : Reading) (forms : List Flat) → (take_front r forms).first ≡ None → MainsAreMeant (take_front r forms) (latest_first [] forms)
mains_are_meant r forms none n = ap (λ (w : ℕ). placed (word w) n.place end) (ap word_found (names_are_found r forms n.text none).0)

pub forms_are_meant : FormsAreMeant
forms_are_meant r forms locals inputs items none fits =
    let closing = items_closing locals items fits in (
      definitions_are_meant r forms inputs items none closing,
      constants_are_meant r forms none,
      makers_are_meant r forms none,
      methods_are_meant r forms items none closing,
      top_items_are_meant r forms items none closing,
      mains_are_meant r forms none,
    )
