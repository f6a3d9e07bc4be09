-- Which numbers of templates a phrase covers, and which arrays are named where.
use Rattle.std.proofs.Common.{◌≡◌, ◌<◌, ◌≤◌, ◌⊎◌, inl, inr, ℕ, zero, suc, ◌+◌, List, [], ◌∷◌, ◌++◌, length, get_or, Option, Some, Bool, true, false, refl, ap, ◌∙◌, arith}
use Rattle.std.specs.Prelude.{map, slice_get, nat_eq, nat_lt}
use Rattle.std.specs.List.{list_all}
use Rattle.std.proofs.lemmas.Bool.{cases_lt, cases_eq, eqb-true, ltb-true, and_parts}
use Rattle.fac_lang.specs.Phrases.{Phrase, end, then, Item, lit, lit_arr, quot, word, bind, local, fry, hole, call_effect, execute_effect, next_method}
use Rattle.fac_base.specs.declared.place.Place.{Place}
use Rattle.fac_lang.specs.declared.phrase.Template.{Template}
use Rattle.fac_lang.specs.declared.program.Lit.{Lit}
use Rattle.fac_lang.specs.declared.program.Lit.TheVariants.{Int as l_int, True as l_yes, False as l_no, Str as l_str, Arr as l_arr, Wref as l_word, Quot as l_quot, Made as l_made}
use Rattle.fac_lang.specs.declared.program.WordDef.{WordDef}
use Rattle.fac_lang.specs.declared.program.Sort.{Sort}
use Rattle.fac_lang.specs.declared.program.Sort.TheVariants.{Body as body, Past as past, Method as method}
use Rattle.fac_lang.specs.Whole.{times_in, each_below, each_numbered, names_earlier, arrays_named, arrays_named_by, arrays_in, joined, word_phrases}
use Rattle.fac_locals.specs.declared.closing.ArrayStart.{ArrayStart}
use Rattle.fac_locals.specs.declared.cell.Cell.{Cell}
use Rattle.fac_locals.specs.Cells.{cells_behind, inner_cells}
use Rattle.fac_locals.specs.inner.Numbering.{plain_phrase, phrase_of, method_of, phrase_behind, item_behind, closed_template, phrase_templates, item_templates, phrase_starts, item_starts, words_behind, words_templates, words_starts}
use Rattle.fac_locals.proofs.LiteralArrays.{IsClosable, IsClosableItem, AreClosable}
use Rattle.fac_locals.proofs.Puts.{counted, keys, IsPut, IsEntry, put_left, put_right, times_both, keys_both}

-- this number lies among those of an array that starts here
abbrev pub IsReserved : List ℕ → ℕ → List (ℕ × ArrayStart) → Type 0
IsReserved counts k [] = ⊥
IsReserved counts k (w ∷ ws) = ((w.1.number ≤ k) × (k < w.1.number + get_or counts w.0 0)) ⊎ IsReserved counts k ws

reserved_left : (counts : List ℕ) (k : ℕ) (vs ws : List (ℕ × ArrayStart)) → IsReserved counts k vs → IsReserved counts k (vs ++ ws)
reserved_left counts k [] ws h = absurd h
reserved_left counts k (v ∷ vs) ws (inl e) = inl e
reserved_left counts k (v ∷ vs) ws (inr h) = inr (reserved_left counts k vs ws h)

reserved_right : (counts : List ℕ) (k : ℕ) (vs ws : List (ℕ × ArrayStart)) → IsReserved counts k ws → IsReserved counts k (vs ++ ws)
reserved_right counts k [] ws h = h
reserved_right counts k (v ∷ vs) ws h = inr (reserved_right counts k vs ws h)

pub reserved_by : (counts : List ℕ) (k : ℕ) (ws : List (ℕ × ArrayStart)) → IsReserved counts k ws → (b : ℕ) × (m : ArrayStart) × IsEntry b m ws × (m.number ≤ k) × (k < m.number + get_or counts b 0)
reserved_by counts k [] h = absurd h
reserved_by counts k (w ∷ ws) (inl e) = (w.0, w.1, inl (refl, refl), e.0, e.1)
reserved_by counts k (w ∷ ws) (inr h) = let more = reserved_by counts k ws h in (more.0, more.1, inr more.2, more.3, more.4)

-- Each number of a phrase gets its template, or it is reserved for an array that the phrase names.
abbrev pub Covered : List ℕ → ℕ → List (ℕ × Template) → List (ℕ × ArrayStart) → Type 0
Covered counts k ts ss = IsPut k ts ⊎ IsReserved counts k ss

covered_left : (counts : List ℕ) (k : ℕ) (ts us : List (ℕ × Template)) (ss rs : List (ℕ × ArrayStart)) → Covered counts k ts ss → Covered counts k (ts ++ us) (ss ++ rs)
covered_left counts k ts us ss rs (inl h) = inl (put_left k ts us h)
covered_left counts k ts us ss rs (inr h) = inr (reserved_left counts k ss rs h)

covered_right : (counts : List ℕ) (k : ℕ) (ts us : List (ℕ × Template)) (ss rs : List (ℕ × ArrayStart)) → Covered counts k us rs → Covered counts k (ts ++ us) (ss ++ rs)
covered_right counts k ts us ss rs (inl h) = inl (put_right k ts us h)
covered_right counts k ts us ss rs (inr h) = inr (reserved_right counts k ss rs h)

outside : (A : Type 0) (n k : ℕ) → n ≤ k → k < n → A
outside A n k le lt = absurd (omega (arith, le, lt))

pub by_side : (C : Type 0) (m k : ℕ) → (k < m → C) → (m ≤ k → C) → (k < m) ⊎ (m ≤ k) → C
by_side C m k f g (inl h) = f h
by_side C m k f g (inr h) = g h

either_below : (C : Type 0) (b : ℕ) (m : ArrayStart) (vs ws : List (ℕ × ArrayStart)) → (IsEntry b m vs → C) → (IsEntry b m ws → C) → IsEntry b m (vs ++ ws) → C
either_below C b m [] ws f g e = g e
either_below C b m (v ∷ vs) ws f g (inl e) = f (inl e)
either_below C b m (v ∷ vs) ws f g (inr e) = either_below C b m vs ws (λ (h : IsEntry b m vs). f (inr h)) g e

first_covered : (counts : List ℕ) (k : ℕ) (ts : List (ℕ × Template)) (own : ℕ × Template) (rs : List (ℕ × ArrayStart)) → Covered counts k ts rs → Covered counts k (ts ++ own ∷ []) rs
first_covered counts k ts own rs (inl h) = inl (put_left k ts (own ∷ []) h)
first_covered counts k ts own rs (inr h) = inr h

module _ (counts : List ℕ) (k : ℕ) where
  quotation_covers : (n : ℕ) (x : Template) (ts : List (ℕ × Template)) (rs : List (ℕ × ArrayStart)) → n ≤ k → (suc n ≤ k → Covered counts k ts rs) → Covered counts k (ts ++ (n, x) ∷ []) rs
  quotation_covers n x ts rs le inside =
      by_side (Covered counts k (ts ++ (n, x) ∷ []) rs) (suc n) k (λ (h : k < suc n). inl (put_right k ts ((n, x) ∷ []) (inl (omega (arith, h, le))))) (λ (h : suc n ≤ k). first_covered counts k ts (n, x) rs (inside h)) (cases_lt k (suc n))

  module _ (m : Option ℕ) where
    mutual
      pub phrase_covers : (cells : List Cell) (n : ℕ) (t : Phrase) → n ≤ k → k < phrase_behind counts n t → Covered counts k (phrase_templates counts m cells n t) (phrase_starts counts m n t)
      phrase_covers cells n end le lt = outside _ n k le lt
      phrase_covers cells n (then i p t) le lt =
          let j = item_behind counts n i in
          let next = cells_behind cells i in
          let ts = item_templates counts m cells n p i in
          let us = phrase_templates counts m next j t in
          let ss = item_starts counts m n p i in
          let rs = phrase_starts counts m j t in
          by_side (Covered counts k (ts ++ us) (ss ++ rs)) j k (λ (h : k < j). covered_left counts k ts us ss rs (item_covers cells n p i le h)) (λ (h : j ≤ k). covered_right counts k ts us ss rs (phrase_covers next j t h lt)) (cases_lt k j)

      item_covers : (cells : List Cell) (n : ℕ) (p : Place) (i : Item) → n ≤ k → k < item_behind counts n i → Covered counts k (item_templates counts m cells n p i) (item_starts counts m n p i)
      item_covers cells n p (quot t) le lt =
          let inner = inner_cells cells (quot t) in
          quotation_covers n (closed_template counts m cells n p (quot t) t) (phrase_templates counts m inner (suc n) t) (phrase_starts counts m (suc n) t) le (λ (h : suc n ≤ k). phrase_covers inner (suc n) t h lt)
      item_covers cells n p (fry t c) le lt =
          let inner = inner_cells cells (fry t c) in
          quotation_covers n (closed_template counts m cells n p (fry t c) t) (phrase_templates counts m inner (suc n) t) (phrase_starts counts m (suc n) t) le (λ (h : suc n ≤ k). phrase_covers inner (suc n) t h lt)
      item_covers cells n p (lit_arr a) le lt = inr (inl (le, lt))
      item_covers cells n p _ le lt = outside _ n k le lt

  pub words_cover : (w n : ℕ) (ds : List WordDef) → n ≤ k → k < words_behind counts n ds → Covered counts k (words_templates counts w n ds) (words_starts counts w n ds)
  words_cover w n [] le lt = outside _ n k le lt
  words_cover w n (d ∷ ds) le lt =
      let t = phrase_of d.sort in
      let m = method_of w d.sort in
      let j = phrase_behind counts n t in
      let ts = phrase_templates counts m [] n t in
      let us = words_templates counts (suc w) j ds in
      let ss = phrase_starts counts m n t in
      let rs = words_starts counts (suc w) j ds in
      by_side (Covered counts k (ts ++ us) (ss ++ rs)) j k (λ (h : k < j). covered_left counts k ts us ss rs (phrase_covers m [] n t le h)) (λ (h : j ≤ k). covered_right counts k ts us ss rs (words_cover (suc w) j ds h lt)) (cases_lt k j)

-- a word's phrase before others
abbrev pub with_phrase : Sort → List Phrase → List Phrase
with_phrase s ts = elim s [ body t ↦ t ∷ ts | past t ↦ t ∷ ts | method c g t ↦ t ∷ ts | _ ↦ ts ]

-- The arrays that are noted are those that the phrase names.
module _ (counts : List ℕ) (bound : ℕ) where
  module _ (m : Option ℕ) where
    mutual
      pub phrase_names_noted : (n : ℕ) (t : Phrase) → IsClosable bound t → keys (phrase_starts counts m n t) ≡ arrays_named t
      phrase_names_noted n end h = refl
      phrase_names_noted n (then i p t) h = keys_both (item_starts counts m n p i) (phrase_starts counts m (item_behind counts n i) t) ∙ rw (item_names_noted n p i h.0, phrase_names_noted (item_behind counts n i) t h.1) refl

      item_names_noted : (n : ℕ) (p : Place) (i : Item) → IsClosableItem bound i → keys (item_starts counts m n p i) ≡ arrays_named_by i
      item_names_noted n p (quot t) h = phrase_names_noted (suc n) t h
      item_names_noted n p (bind x) h = refl
      item_names_noted n p (local x) h = refl
      item_names_noted n p (fry t c) h = phrase_names_noted (suc n) t h
      item_names_noted n p (hole c) h = refl
      item_names_noted n p (lit_arr a) h = refl
      item_names_noted n p (lit q) h = refl
      item_names_noted n p (word w) h = refl
      item_names_noted n p next_method h = refl
      item_names_noted n p (call_effect g) h = refl
      item_names_noted n p (execute_effect g) h = refl
      item_names_noted n p _ h = absurd h

    -- what is noted is below the bound
    mutual
      pub phrase_noted_below : (n : ℕ) (t : Phrase) → IsClosable bound t → (b : ℕ) (x : ArrayStart) → IsEntry b x (phrase_starts counts m n t) → b < bound
      phrase_noted_below n end h b x e = absurd e
      phrase_noted_below n (then i p t) h b x e = either_below (b < bound) b x (item_starts counts m n p i) (phrase_starts counts m (item_behind counts n i) t) (item_noted_below n p i h.0 b x) (phrase_noted_below (item_behind counts n i) t h.1 b x) e

      item_noted_below : (n : ℕ) (p : Place) (i : Item) → IsClosableItem bound i → (b : ℕ) (x : ArrayStart) → IsEntry b x (item_starts counts m n p i) → b < bound
      item_noted_below n p (quot t) h b x e = phrase_noted_below (suc n) t h b x e
      item_noted_below n p (bind y) h b x e = absurd e
      item_noted_below n p (local y) h b x e = absurd e
      item_noted_below n p (fry t c) h b x e = phrase_noted_below (suc n) t h b x e
      item_noted_below n p (hole c) h b x e = absurd e
      item_noted_below n p (lit_arr a) h b x (inl e) = omega (arith, h, e.0)
      item_noted_below n p (lit_arr a) h b x (inr e) = absurd e
      item_noted_below n p (lit q) h b x e = absurd e
      item_noted_below n p (word w) h b x e = absurd e
      item_noted_below n p next_method h b x e = absurd e
      item_noted_below n p (call_effect g) h b x e = absurd e
      item_noted_below n p (execute_effect g) h b x e = absurd e
      item_noted_below n p _ h b x e = absurd h

  pub words_noted_below : (w n : ℕ) (ds : List WordDef) → AreClosable bound ds → (b : ℕ) (x : ArrayStart) → IsEntry b x (words_starts counts w n ds) → b < bound
  words_noted_below w n [] h b x e = absurd e
  words_noted_below w n (d ∷ ds) h b x e =
      let j = phrase_behind counts n (phrase_of d.sort) in
      let m = method_of w d.sort in
      either_below (b < bound) b x (phrase_starts counts m n (phrase_of d.sort)) (words_starts counts (suc w) j ds) (phrase_noted_below m n (phrase_of d.sort) h.0 b x) (words_noted_below (suc w) j ds h.1 b x) e

  sort_names : (s : Sort) (ds : List WordDef) → arrays_named (phrase_of s) ++ joined (map arrays_named (word_phrases ds)) ≡ joined (map arrays_named (with_phrase s (word_phrases ds)))
  sort_names (body t) ds = refl
  sort_names (past t) ds = refl
  sort_names (method c g t) ds = refl
  sort_names _ ds = refl

  -- the arrays that words name
  pub words_names_noted : (w n : ℕ) (ds : List WordDef) → AreClosable bound ds → keys (words_starts counts w n ds) ≡ joined (map arrays_named (word_phrases ds))
  words_names_noted w n [] h = refl
  words_names_noted w n (d ∷ ds) h =
      let j = phrase_behind counts n (phrase_of d.sort) in
      let m = method_of w d.sort in
      keys_both (phrase_starts counts m n (phrase_of d.sort)) (words_starts counts (suc w) j ds)
      ∙ rw (phrase_names_noted m n (phrase_of d.sort) h.0, words_names_noted (suc w) j ds h.1) (sort_names d.sort ds)

pub elements_names : (p : Place) (ls : List Lit) → arrays_named (plain_phrase p ls) ≡ arrays_in ls
elements_names p [] = refl
elements_names p (l_int z ∷ ls) = elements_names p ls
elements_names p (l_yes ∷ ls) = elements_names p ls
elements_names p (l_no ∷ ls) = elements_names p ls
elements_names p (l_str s ∷ ls) = elements_names p ls
elements_names p (l_arr a ∷ ls) = ap (λ (ks : List ℕ). a ∷ ks) (elements_names p ls)
elements_names p (l_word w ∷ ls) = elements_names p ls
elements_names p (l_quot t ∷ ls) = ap (λ (ks : List ℕ). arrays_named t ++ ks) (elements_names p ls)
elements_names p (l_made k ∷ ls) = elements_names p ls

-- the arrays that those below a number name
abbrev pub names_below : ℕ → List (List Lit) → List ℕ
names_below zero lss = []
names_below (suc a) [] = []
names_below (suc a) (ls ∷ lss) = arrays_in ls ++ names_below a lss

pub names_all : (lss : List (List Lit)) → names_below (length lss) lss ≡ joined (map arrays_in lss)
names_all [] = refl
names_all (ls ∷ lss) = ap (λ (ks : List ℕ). arrays_in ls ++ ks) (names_all lss)

pub names_step : (b a : ℕ) (lss : List (List Lit)) (ls : List Lit) → slice_get lss a ≡ Some ls → times_in b (names_below (suc a) lss) ≡ times_in b (names_below a lss) + times_in b (arrays_in ls)
names_step b a [] ls e = absurd cc
names_step b zero (xs ∷ lss) ls e =
    let same : xs ≡ ls = cc in
    let both = times_both b (arrays_in xs) [] in
    let again = ap (λ (ys : List Lit). times_in b (arrays_in ys)) same in
    omega (arith, both, again)
names_step b (suc a) (xs ∷ lss) ls e =
    let outer = times_both b (arrays_in xs) (names_below (suc a) lss) in
    let inner = times_both b (arrays_in xs) (names_below a lss) in
    let rest = names_step b a lss ls e in
    omega (arith, outer, inner, rest)

pub names_fewer : (b a : ℕ) (lss : List (List Lit)) → times_in b (names_below a lss) ≤ times_in b (joined (map arrays_in lss))
names_fewer b zero lss = omega arith
names_fewer b (suc a) [] = omega arith
names_fewer b (suc a) (ls ∷ lss) =
    let outer = times_both b (arrays_in ls) (names_below a lss) in
    let inner = times_both b (arrays_in ls) (joined (map arrays_in lss)) in
    let rest = names_fewer b a lss in
    omega (arith, outer, inner, rest)

pub absent : (x k : ℕ) (xs : List ℕ) → list_all (λ (b : ℕ). nat_lt b k) xs ≡ true → k ≤ x → times_in x xs ≡ 0
absent x k [] h le = refl
absent x k (y ∷ ys) h le = let both = and_parts (nat_lt y k) _ h in go (nat_eq x y) refl (absent x k ys both.1 le) (ltb-true y k both.0) where
  go : (b : Bool) → nat_eq x y ≡ b → times_in x ys ≡ 0 → y < k → counted b (times_in x ys) ≡ 0
  go true e rest lt = let same = eqb-true x y e in absurd (omega (arith, same, lt, le))
  go false e rest lt = rest

pub not_named_below : (x k j : ℕ) (lss : List (List Lit)) → each_numbered names_earlier k lss ≡ true → k + j ≤ suc x → times_in x (names_below j lss) ≡ 0
not_named_below x k zero lss h le = refl
not_named_below x k (suc j) [] h le = refl
not_named_below x k (suc j) (ls ∷ lss) h le =
    let both = and_parts (names_earlier k ls) _ h in
    let here = absent x k (arrays_in ls) both.0 (omega (arith, le)) in
    let rest = not_named_below x (suc k) j lss both.1 (omega (arith, le)) in
    let sum = times_both x (arrays_in ls) (names_below j lss) in
    omega (arith, here, rest, sum)

pub below_once : (f : ℕ → ℕ) (n b : ℕ) → each_below (λ (a : ℕ). nat_eq (f a) 1) n ≡ true → b < n → f b ≡ 1
below_once f zero b h lt = absurd (omega (arith, lt))
below_once f (suc n) b h lt = let both = and_parts (nat_eq (f n) 1) _ h in go (cases_eq b n) (eqb-true (f n) 1 both.0) (below_once f n b both.1) where
  go : (b ≡ n) ⊎ (b ≡ n → ⊥) → f n ≡ 1 → (b < n → f b ≡ 1) → f b ≡ 1
  go (inl e) here rest = ap f e ∙ here
  go (inr ne) here rest = by_side (f b ≡ 1) n b rest (λ (le : n ≤ b). absurd (ne (omega (arith, le, lt)))) (cases_lt b n)
