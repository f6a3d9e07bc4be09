-- What readings make of the items of trees.
use Rattle.std.proofs.Common.{◌≡◌, List, [], ◌∷◌, ◌++◌, Option, Some, None, Bool, true, false}
use Rattle.std.specs.Prelude.{ℕ, if◌then◌else◌}
use Rattle.fac_lang.specs.Whole.{is_small}
use Rattle.fac_base.specs.declared.place.Place.{Place}
use Rattle.fac_source.specs.Toks.{is_among, texts_of}
use Rattle.fac_items.specs.Written.{Tok, Node, n_lit, n_array, n_quot, n_ref, n_name, n_locals, n_fry, n_call_effect, n_execute_effect, n_bind, n_hole, n_at, n_next, n_full, n_part, Nodes, nothing, more}
use Rattle.fac_items.specs.Readings.{are_pairs, before, behind_first, bindings, cond_first, joined, read_elements, read_items, read_pairs}
use Rattle.fac_items.proofs.RawNodes.{AreRaw, AreRawElements, IsPlainLiteral, IsRawElement, raw_more}
use Rattle.fac_items.proofs.ReadingLemmas.{with_pairs}

-- Items and elements of arrays behind their readings: other nodes than those of trees, which `AreRaw` lists. Holes stand where a fry is around, and no effect that is tested has a number above 64.
abbrev mutual
  pub ArePlain : Bool → Nodes → Type 0
  ArePlain fry nothing = Unit {0}
  ArePlain fry (more n ns) = IsPlain fry n × ArePlain fry ns

  pub IsPlain : Bool → Node → Type 0
  IsPlain fry (n_lit l p) = IsPlainLiteral l
  IsPlain fry (n_ref t p) = Unit {0}
  IsPlain fry (n_name t p) = Unit {0}
  IsPlain fry (n_call_effect h p) = is_small h ≡ true
  IsPlain fry (n_execute_effect h p) = is_small h ≡ true
  IsPlain fry (n_next p) = Unit {0}
  IsPlain fry (n_bind t twice p) = Unit {0}
  IsPlain fry (n_full vocab name p) = Unit {0}
  IsPlain fry (n_hole p) = fry ≡ true
  IsPlain fry (n_quot ns p) = ArePlain fry ns
  IsPlain fry (n_fry ns p) = ArePlain true ns
  IsPlain fry (n_array es p) = AreElements es
  IsPlain fry (n_part ns) = ArePlain fry ns
  IsPlain fry _ = ⊥

  pub AreElements : Nodes → Type 0
  AreElements nothing = Unit {0}
  AreElements (more n ns) = IsElement n × AreElements ns

  pub IsElement : Node → Type 0
  IsElement (n_lit l p) = IsPlainLiteral l
  IsElement (n_ref t p) = Unit {0}
  IsElement (n_name t p) = Unit {0}
  IsElement (n_quot ns p) = ArePlain false ns
  IsElement (n_array es p) = AreElements es
  IsElement _ = ⊥

joined_plain : (fry : Bool) (ns ms : Nodes) → ArePlain fry ns → ArePlain fry ms → ArePlain fry (joined ns ms)
joined_plain fry nothing ms h k = k
joined_plain fry (more n ns) ms h k = (h.0, joined_plain fry ns ms h.1 k)

behind_plain : (fry : Bool) (ns : Nodes) → ArePlain fry ns → ArePlain fry (behind_first ns)
behind_plain fry nothing h = h
behind_plain fry (more n ns) h = h.1

bindings_plain : (fry : Bool) (ts : List Tok) (earlier : List (List ℕ)) (ns : Nodes) → ArePlain fry ns → ArePlain fry (bindings ts earlier ns)
bindings_plain fry [] earlier ns h = h
bindings_plain fry (t ∷ ts) earlier ns h = bindings_plain fry ts (t.text ∷ earlier) (more (n_bind t (is_among t.text earlier) t.place) ns) (tt, h)

pairs_plain : (c : List ℕ → Bool) (locals : List (List ℕ)) (fry : Bool) (es : Nodes) (q : Place) (rest : Nodes) (o : Option Place) → ((p : Place) → ArePlain fry (read_pairs c locals p es)) → AreElements (read_elements c es) → ArePlain fry rest → ArePlain fry (with_pairs c locals es q rest o)
pairs_plain c locals fry es q rest (Some p) h k r = joined_plain fry (read_pairs c locals p es) (behind_first rest) (h p) (behind_plain fry rest r)
pairs_plain c locals fry es q rest None h k r = (k, r)

mutual
  pub reads_plain : (c : List ℕ → Bool) (locals : List (List ℕ)) (fry : Bool) (ns : Nodes) → AreRaw fry ns → ArePlain fry (read_items c locals ns)
  reads_plain c locals fry nothing h = tt
  reads_plain c locals fry (more (n_lit l p) ns) h = (h.0, reads_plain c locals fry ns h.1)
  reads_plain c locals fry (more (n_ref t p) ns) h = (tt, reads_plain c locals fry ns h.1)
  reads_plain c locals fry (more (n_name t p) ns) h = (tt, reads_plain c locals fry ns h.1)
  reads_plain c locals fry (more (n_call_effect e p) ns) h = (h.0, reads_plain c locals fry ns h.1)
  reads_plain c locals fry (more (n_execute_effect e p) ns) h = (h.0, reads_plain c locals fry ns h.1)
  reads_plain c locals fry (more (n_next p) ns) h = (tt, reads_plain c locals fry ns h.1)
  reads_plain c locals fry (more (n_bind t twice p) ns) h = (tt, reads_plain c (t.text ∷ locals) fry ns h.1)
  reads_plain c locals fry (more (n_hole p) ns) h = (h.0, reads_plain c locals fry ns h.1)
  reads_plain c locals fry (more (n_at p) ns) h = (h.0, (tt, reads_plain c locals fry ns h.1))
  reads_plain c locals fry (more (n_quot ms p) ns) h = (reads_plain c locals fry ms h.0, reads_plain c locals fry ns h.1)
  reads_plain c locals fry (more (n_fry ms p) ns) h = (reads_plain c locals true ms h.0, reads_plain c locals fry ns h.1)
  reads_plain c locals fry (more (n_locals ts ms p) ns) h =
      (bindings_plain fry ts [] (read_items c (texts_of ts ++ locals) ms) (reads_plain c (texts_of ts ++ locals) fry ms h.0), reads_plain c locals fry ns h.1)
  reads_plain c locals fry (more (n_array es q) ns) h =
      let rest = read_items c locals ns in
      pairs_plain c locals fry es q rest (if are_pairs es then cond_first c locals rest else None) (λ p. pairs_are_plain c locals fry p es h.0) (elements_plain c es h.0) (reads_plain c locals fry ns h.1)
  reads_plain c locals fry (more n ns) h = absurd h.0

  elements_plain : (c : List ℕ → Bool) (es : Nodes) → AreRawElements es → AreElements (read_elements c es)
  elements_plain c nothing h = tt
  elements_plain c (more (n_lit l p) ns) h = (h.0, elements_plain c ns h.1)
  elements_plain c (more (n_ref t p) ns) h = (tt, elements_plain c ns h.1)
  elements_plain c (more (n_name t p) ns) h = (tt, elements_plain c ns h.1)
  elements_plain c (more (n_quot ms p) ns) h = (reads_plain c [] false ms h.0, elements_plain c ns h.1)
  elements_plain c (more (n_array es q) ns) h = (elements_plain c es h.0, elements_plain c ns h.1)
  elements_plain c (more n ns) h = absurd h.0

  element_plain : (c : List ℕ → Bool) (locals : List (List ℕ)) (fry : Bool) (n : Node) → IsRawElement n → (rest : Nodes) → ArePlain fry rest → ArePlain fry (before c locals n rest)
  element_plain c locals fry (n_lit l p) h rest r = (h, r)
  element_plain c locals fry (n_ref t p) h rest r = (tt, r)
  element_plain c locals fry (n_name t p) h rest r = (tt, r)
  element_plain c locals fry (n_quot ms p) h rest r = (reads_plain c locals fry ms (raw_more fry ms h), r)
  element_plain c locals fry (n_array es q) h rest r =
      pairs_plain c locals fry es q rest (if are_pairs es then cond_first c locals rest else None) (λ p. pairs_are_plain c locals fry p es h) (elements_plain c es h) r
  element_plain c locals fry n h rest r = absurd h

  pairs_are_plain : (c : List ℕ → Bool) (locals : List (List ℕ)) (fry : Bool) (p : Place) (es : Nodes) → AreRawElements es → ArePlain fry (read_pairs c locals p es)
  pairs_are_plain c locals fry p nothing h = (tt, tt)
  pairs_are_plain c locals fry p (more (n_array (more t (more b ms)) q) es) h =
      element_plain c locals fry t h.0.0 _ (tt, element_plain c locals fry b h.0.1.0 _ (pairs_are_plain c locals fry p es h.1, (tt, tt)))
  pairs_are_plain c locals fry p (more (n_quot ns q) es) h = (reads_plain c locals fry ns (raw_more fry ns h.0), tt)
  pairs_are_plain c locals fry p (more n es) h = tt
