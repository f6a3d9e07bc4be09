-- Phrases that stand by themselves, and of whose fries each has the holes that it counts.
use Rattle.std.proofs.Common.{◌≡◌, ◌≤◌, ◌<◌, ℕ, zero, suc, List, [], ◌∷◌, ◌++◌, map, Option, Some, None, Bool, true, false, refl, sym, ◌∙◌, arith}
use Rattle.std.specs.Prelude.{◌&&◌, ◌||◌, nat_eq, nat_lt}
use Rattle.std.specs.List.{list_all}
use Rattle.std.proofs.lemmas.Bool.{or_left, or_right}
use Rattle.std.proofs.lemmas.List.Folds.{list_all-append}
use Rattle.fac_lang.specs.Whole.{has_hole, has_holes, has_its_holes, item_has_hole, each_inner, each_item, joined, quotations}
use Rattle.fac_lang.specs.Phrases.{int, yes, no, str, Phrase, end, then as placed, word, local}
use Rattle.fac_lang.specs.RunningLaws.{append}
use Rattle.fac_lang.specs.declared.program.Lit.{Lit}
use Rattle.fac_vocab.specs.Scopes.{Scope}
use Rattle.fac_items.specs.Written.{Tok, n_lit, n_array, n_quot, n_ref, n_name, n_fry, n_call_effect, n_execute_effect, n_bind, n_hole, n_next, n_full, n_part, Nodes, nothing, more}
use Rattle.fac_items.specs.Items.{elements_of, local_of, phrase_of, word_of}
use Rattle.fac_items.proofs.LocalNumbers.{append_closed, is_closed, made_closed}
use Rattle.fac_items.proofs.PlainNodes.{AreElements, ArePlain}
use Rattle.fac_endings.proofs.Apart.{and_true, true_both}

-- Holes of fries.

abbrev pub stands : Phrase → Bool
stands t = each_item has_its_holes t

all_holes : (n : ℕ) (t : Phrase) → ((k : ℕ) → k < n → has_hole k t ≡ true) → has_holes n t ≡ true
all_holes zero t h = refl
all_holes (suc n) t h = and_true (has_holes n t) (has_hole n t) (all_holes n t (λ k less. h k (omega (arith, less)))) (h n (omega arith))

hole_first : (k : ℕ) (t u : Phrase) → has_hole k t ≡ true → has_hole k (append t u) ≡ true
hole_first k end u h = absurd (cc)
hole_first k (placed i p t) u h = one (item_has_hole k i) h (λ e. hole_first k t u e)
  where
    one : (b : Bool) → (b || has_hole k t) ≡ true → (has_hole k t ≡ true → has_hole k (append t u) ≡ true) → (b || has_hole k (append t u)) ≡ true
    one true e rest = refl
    one false e rest = rest e

hole_last : (k : ℕ) (t u : Phrase) → has_hole k u ≡ true → has_hole k (append t u) ≡ true
hole_last k end u h = h
hole_last k (placed i p t) u h = or_right (item_has_hole k i) (has_hole k (append t u)) (hole_last k t u h)

append_stands : (t u : Phrase) → stands t ≡ true → stands u ≡ true → stands (append t u) ≡ true
append_stands end u h k = k
append_stands (placed i p t) u h k =
    let both = true_both (has_its_holes i && each_inner has_its_holes i) (stands t) h in
    and_true (has_its_holes i && each_inner has_its_holes i) (stands (append t u)) both.0 (append_stands t u both.1 k)

-- the holes of the fry around that a phrase counts stand in it, as those of its fries do in them
record HolesStand (before after : ℕ) (t : Phrase) : Type 0 where
  inner : stands t ≡ true
  each : (k : ℕ) → before ≤ k → k < after → has_hole k t ≡ true

-- a hole stands in the first of two phrases or in the second
in_either : (k middle : ℕ) (a b : Bool) → (k < middle → a ≡ true) → (middle ≤ k → b ≡ true) → (a || b) ≡ true
in_either k middle a b h g = one (nat_lt k middle) refl
  where
    is_less : nat_lt k middle ≡ true → k < middle
    is_less e = grind arith

    is_more : nat_lt k middle ≡ false → middle ≤ k
    is_more e = grind arith

    one : (c : Bool) → nat_lt k middle ≡ c → (a || b) ≡ true
    one true e = or_left a b (h (is_less e))
    one false e = or_right a b (g (is_more e))

in_appended : (k middle : ℕ) (t u : Phrase) → (k < middle → has_hole k t ≡ true) → (middle ≤ k → has_hole k u ≡ true) → has_hole k (append t u) ≡ true
in_appended k middle t u h g = one (nat_lt k middle) refl
  where
    is_less : nat_lt k middle ≡ true → k < middle
    is_less e = grind arith

    is_more : nat_lt k middle ≡ false → middle ≤ k
    is_more e = grind arith

    one : (c : Bool) → nat_lt k middle ≡ c → has_hole k (append t u) ≡ true
    one true e = hole_first k t u (h (is_less e))
    one false e = hole_last k t u (g (is_more e))

-- a hole is the next one or a later one
here_or_later : (k holes : ℕ) (b : Bool) → holes ≤ k → (suc holes ≤ k → b ≡ true) → (nat_eq k holes || b) ≡ true
here_or_later k holes b least h = one (nat_eq k holes) refl
  where
    is_later : nat_eq k holes ≡ false → holes ≤ k → suc holes ≤ k
    is_later e less = grind arith

    one : (c : Bool) → nat_eq k holes ≡ c → (nat_eq k holes || b) ≡ true
    one true e = or_left (nat_eq k holes) b e
    one false e = or_right (nat_eq k holes) b (h (is_later e least))

-- a name is no fry and no hole
name_stands : (s : Scope) (t : Tok) (o : Option ℕ) (u : Phrase) → stands u ≡ true →
    (has_its_holes (elim o [ Some x ↦ local x | None ↦ word (word_of s t) ]) && each_inner has_its_holes (elim o [ Some x ↦ local x | None ↦ word (word_of s t) ]) && stands u) ≡ true
name_stands s t (Some x) u h = h
name_stands s t None u h = h

phrase_stands : (s : Scope) (locals : List (List ℕ)) (ns : Nodes) (arrays : List (List Lit)) (holes : ℕ) → HolesStand holes (phrase_of s locals ns arrays holes).holes (phrase_of s locals ns arrays holes).phrase
phrase_stands s locals nothing arrays holes = record { inner = refl; each = λ k least less. absurd (omega (arith, least, less)) }
phrase_stands s locals (more (n_name t p) ns) arrays holes =
    let r = phrase_stands s locals ns arrays holes in
    let u = phrase_of s locals ns arrays holes in
    let o = local_of locals t.text in
    record {
      inner = name_stands s t o u.phrase r.inner;
      each = λ k least less. or_right (item_has_hole k (elim o [ Some x ↦ local x | None ↦ word (word_of s t) ])) (has_hole k u.phrase) (r.each k least less);
    }
phrase_stands s locals (more (n_bind t twice p) ns) arrays holes = let r = phrase_stands s (t.text ∷ locals) ns arrays holes in record { inner = r.inner; each = r.each }
phrase_stands s locals (more (n_hole p) ns) arrays holes =
    let r = phrase_stands s locals ns arrays (suc holes) in
    let u = phrase_of s locals ns arrays (suc holes) in
    record { inner = r.inner; each = λ k least less. here_or_later k holes (has_hole k u.phrase) least (λ later. r.each k later less) }
phrase_stands s locals (more (n_quot ms p) ns) arrays holes =
    let m = phrase_of s locals ms arrays holes in
    let u = phrase_of s locals ns m.arrays m.holes in
    let q = phrase_stands s locals ms arrays holes in
    let r = phrase_stands s locals ns m.arrays m.holes in
    record {
      inner = and_true (stands m.phrase) (stands u.phrase) q.inner r.inner;
      each = λ k least less. in_either k m.holes (has_hole k m.phrase) (has_hole k u.phrase) (λ first. q.each k least first) (λ later. r.each k later less);
    }
phrase_stands s locals (more (n_fry ms p) ns) arrays holes =
    let m = phrase_of s locals ms arrays 0 in
    let u = phrase_of s locals ns m.arrays holes in
    let q = phrase_stands s locals ms arrays 0 in
    let r = phrase_stands s locals ns m.arrays holes in
    record {
      inner = and_true (has_holes m.holes m.phrase && stands m.phrase) (stands u.phrase) (and_true (has_holes m.holes m.phrase) (stands m.phrase) (all_holes m.holes m.phrase (λ k less. q.each k (omega arith) less)) q.inner) r.inner;
      each = r.each;
    }
phrase_stands s locals (more (n_array ms p) ns) arrays holes = let m = elements_of s ms arrays in let r = phrase_stands s locals ns (m.arrays ++ m.elements ∷ []) holes in record { inner = r.inner; each = r.each }
phrase_stands s locals (more (n_part ms) ns) arrays holes =
    let m = phrase_of s locals ms arrays holes in
    let u = phrase_of s locals ns m.arrays m.holes in
    let q = phrase_stands s locals ms arrays holes in
    let r = phrase_stands s locals ns m.arrays m.holes in
    record {
      inner = append_stands m.phrase u.phrase q.inner r.inner;
      each = λ k least less. in_appended k m.holes m.phrase u.phrase (λ first. q.each k least first) (λ later. r.each k later less);
    }
phrase_stands s locals (more n ns) arrays holes = let r = phrase_stands s locals ns arrays holes in record { inner = r.inner; each = r.each }

-- Both together.

-- whether a phrase stands by itself, and each hole that a fry in it counts stands in that
abbrev pub is_sound : Phrase → Bool
is_sound t = is_closed t && stands t

pub sound_closed : (ts : List Phrase) → list_all is_sound ts ≡ true → list_all is_closed ts ≡ true
sound_closed [] h = refl
sound_closed (t ∷ ts) h =
    let both = true_both (is_sound t) (list_all is_sound ts) h in
    and_true (is_closed t) (list_all is_closed ts) (true_both (is_closed t) (stands t) both.0).0 (sound_closed ts both.1)

pub sound_stands : (ts : List Phrase) → list_all is_sound ts ≡ true → list_all stands ts ≡ true
sound_stands [] h = refl
sound_stands (t ∷ ts) h =
    let both = true_both (is_sound t) (list_all is_sound ts) h in
    and_true (stands t) (list_all stands ts) (true_both (is_closed t) (stands t) both.0).1 (sound_stands ts both.1)

pub made_sound : (s : Scope) (ns : Nodes) (arrays : List (List Lit)) → ArePlain false ns → is_sound (phrase_of s [] ns arrays 0).phrase ≡ true
made_sound s ns arrays h =
    let m = phrase_of s [] ns arrays 0 in
    let q = phrase_stands s [] ns arrays 0 in
    and_true (is_closed m.phrase) (stands m.phrase) (made_closed s ns arrays h) q.inner

pub append_sound : (t u : Phrase) → is_sound t ≡ true → is_sound u ≡ true → is_sound (append t u) ≡ true
append_sound t u h k =
    let one = true_both (is_closed t) (stands t) h in
    let two = true_both (is_closed u) (stands u) k in
    and_true (is_closed (append t u)) (stands (append t u)) (append_closed t u one.0 two.0) (append_stands t u one.1 two.1)

-- The quotations of arrays.

abbrev pub are_sound : List (List Lit) → Bool
are_sound arrays = list_all is_sound (joined (map quotations arrays))

array_sound : (arrays : List (List Lit)) (ls : List Lit) → are_sound arrays ≡ true → list_all is_sound (quotations ls) ≡ true → are_sound (arrays ++ ls ∷ []) ≡ true
array_sound [] ls h k = list_all-append is_sound (quotations ls) [] ∙ and_true (list_all is_sound (quotations ls)) true k refl
array_sound (xs ∷ arrays) ls h k =
    let both = true_both (list_all is_sound (quotations xs)) (are_sound arrays) (sym (list_all-append is_sound (quotations xs) (joined (map quotations arrays))) ∙ h) in
    list_all-append is_sound (quotations xs) (joined (map quotations (arrays ++ ls ∷ []))) ∙ and_true (list_all is_sound (quotations xs)) (are_sound (arrays ++ ls ∷ [])) both.0 (array_sound arrays ls both.1 k)

mutual
  within_sound : (s : Scope) (locals : List (List ℕ)) (fry : Bool) (ns : Nodes) (arrays : List (List Lit)) (holes : ℕ) → ArePlain fry ns → are_sound arrays ≡ true → are_sound (phrase_of s locals ns arrays holes).arrays ≡ true
  within_sound s locals fry nothing arrays holes h k = k
  within_sound s locals fry (more (n_lit l p) ns) arrays holes h k = within_sound s locals fry ns arrays holes h.1 k
  within_sound s locals fry (more (n_name t p) ns) arrays holes h k = within_sound s locals fry ns arrays holes h.1 k
  within_sound s locals fry (more (n_ref t p) ns) arrays holes h k = within_sound s locals fry ns arrays holes h.1 k
  within_sound s locals fry (more (n_call_effect e p) ns) arrays holes h k = within_sound s locals fry ns arrays holes h.1 k
  within_sound s locals fry (more (n_execute_effect e p) ns) arrays holes h k = within_sound s locals fry ns arrays holes h.1 k
  within_sound s locals fry (more (n_next p) ns) arrays holes h k = within_sound s locals fry ns arrays holes h.1 k
  within_sound s locals fry (more (n_full v x p) ns) arrays holes h k = within_sound s locals fry ns arrays holes h.1 k
  within_sound s locals fry (more (n_bind t twice p) ns) arrays holes h k = within_sound s (t.text ∷ locals) fry ns arrays holes h.1 k
  within_sound s locals fry (more (n_hole p) ns) arrays holes h k = within_sound s locals fry ns arrays (suc holes) h.1 k
  within_sound s locals fry (more (n_quot ms p) ns) arrays holes h k = let m = phrase_of s locals ms arrays holes in within_sound s locals fry ns m.arrays m.holes h.1 (within_sound s locals fry ms arrays holes h.0 k)
  within_sound s locals fry (more (n_fry ms p) ns) arrays holes h k = let m = phrase_of s locals ms arrays 0 in within_sound s locals fry ns m.arrays holes h.1 (within_sound s locals true ms arrays 0 h.0 k)
  within_sound s locals fry (more (n_part ms) ns) arrays holes h k = let m = phrase_of s locals ms arrays holes in within_sound s locals fry ns m.arrays m.holes h.1 (within_sound s locals fry ms arrays holes h.0 k)
  within_sound s locals fry (more (n_array ms p) ns) arrays holes h k =
      let m = elements_of s ms arrays in
      let e = elements_sound s ms arrays h.0 k in
      within_sound s locals fry ns (m.arrays ++ m.elements ∷ []) holes h.1 (array_sound m.arrays m.elements e.0 e.1)
  within_sound s locals fry (more n ns) arrays holes h k = absurd h.0

  elements_sound : (s : Scope) (es : Nodes) (arrays : List (List Lit)) → AreElements es → are_sound arrays ≡ true → (are_sound (elements_of s es arrays).arrays ≡ true) × (list_all is_sound (quotations (elements_of s es arrays).elements) ≡ true)
  elements_sound s nothing arrays h k = (k, refl)
  elements_sound s (more (n_lit (int z) p) es) arrays h k = elements_sound s es arrays h.1 k
  elements_sound s (more (n_lit yes p) es) arrays h k = elements_sound s es arrays h.1 k
  elements_sound s (more (n_lit no p) es) arrays h k = elements_sound s es arrays h.1 k
  elements_sound s (more (n_lit (str bs) p) es) arrays h k = elements_sound s es arrays h.1 k
  elements_sound s (more (n_lit l p) es) arrays h k = absurd h.0
  elements_sound s (more (n_ref t p) es) arrays h k = elements_sound s es arrays h.1 k
  elements_sound s (more (n_name t p) es) arrays h k = elements_sound s es arrays h.1 k
  elements_sound s (more (n_quot ms p) es) arrays h k =
      let m = phrase_of s [] ms arrays 0 in
      let rest = elements_sound s es m.arrays h.1 (within_sound s [] false ms arrays 0 h.0 k) in
      (rest.0, and_true (is_sound m.phrase) (list_all is_sound (quotations (elements_of s es m.arrays).elements)) (made_sound s ms arrays h.0) rest.1)
  elements_sound s (more (n_array ms p) es) arrays h k =
      let m = elements_of s ms arrays in
      let e = elements_sound s ms arrays h.0 k in
      elements_sound s es (m.arrays ++ m.elements ∷ []) h.1 (array_sound m.arrays m.elements e.0 e.1)
  elements_sound s (more n es) arrays h k = absurd h.0

pub arrays_sound : (s : Scope) (ns : Nodes) (arrays : List (List Lit)) → ArePlain false ns → are_sound arrays ≡ true → are_sound (phrase_of s [] ns arrays 0).arrays ≡ true
arrays_sound s ns arrays h k = within_sound s [] false ns arrays 0 h k
