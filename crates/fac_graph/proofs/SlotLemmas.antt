-- The slots of a class by its way up.
use Rattle.std.proofs.Common.{◌≡◌, ◌<◌, ◌≤◌, ◌⊎◌, inl, inr, ℕ, zero, suc, ◌+◌, List, [], ◌∷◌, ◌++◌, length, Bool, true, Option, Some, None, refl, sym, ap, ◌∙◌, length-append, subst, arith}
use Rattle.std.specs.Prelude.{map, slice_get, nat_le, nat_lt, not, ◌&&◌}
use Rattle.std.specs.List.{range_with_len}
use Rattle.std.proofs.lemmas.Bool.{and_parts, and_from}
use Rattle.fac_lang.specs.declared.program.ClassDef.{ClassDef}
use Rattle.fac_lang.specs.declared.program.Shape.{Shape}
use Rattle.fac_lang.specs.declared.program.Shape.TheVariants.{Kind as built_in, Tuple as tuple_class, Union as union, Single as single}
use Rattle.fac_lang.specs.Classes.{shape_at, parent_in, slots_within}
use Rattle.fac_lang.specs.Whole.{each_below, reaches, parts_of}
use Rattle.fac_graph.specs.Paths.{IsOneOf, successors, LeadsTo}
use Rattle.fac_graph.specs.Laws.{class_edges}
use Rattle.fac_graph.proofs.NumberLists.{at_or_behind, none_there, is_under, under_is, in_one}
use Rattle.fac_graph.proofs.Settling.{settled}
use Rattle.fac_graph.proofs.PathLemmas.{edges_of_classes, class_cycle}
use Rattle.fac_graph.specs.Slots.{own_slot_count, slot_count, slot_counts, classes_end}
use Rattle.fac_graph.specs.inner.Climbing.{of_parent, ends, Counts, CountsIf}

pub at_least : (m n : ℕ) → nat_le m n ≡ true → m ≤ n
at_least m n e = grind arith

pub is_least : (m n : ℕ) → m ≤ n → nat_le m n ≡ true
is_least m n le = grind arith

-- the slots of a class, where those of others are these
abbrev pub slots_by : (ℕ → List (List ℕ)) → Option Shape → List (List ℕ)
slots_by go o = elim o [ None ↦ [] | Some s ↦ elim s [ tuple_class p ss ↦ elim p [ None ↦ ss | Some q ↦ go q ++ ss ] | _ ↦ [] ] ]

pub slots_same : (f g : ℕ → List (List ℕ)) (o : Option Shape) → ((q : ℕ) → parent_in o ≡ Some q → f q ≡ g q) → slots_by f o ≡ slots_by g o
slots_same f g None h = refl
slots_same f g (Some (tuple_class None ss)) h = refl
slots_same f g (Some (tuple_class (Some q) ss)) h = ap (λ (xs : List (List ℕ)). xs ++ ss) (h q refl)
slots_same f g (Some (built_in j)) h = refl
slots_same f g (Some (union cs)) h = refl
slots_same f g (Some single) h = refl

abbrev count_above : (ℕ → List (List ℕ)) → Option ℕ → ℕ
count_above f None = 0
count_above f (Some p) = length (f p)

slots_counted : (f : ℕ → List (List ℕ)) (o : Option Shape) → length (slots_by f o) ≡ count_above f (parent_in o) + own_slot_count o
slots_counted f None = refl
slots_counted f (Some (tuple_class None ss)) = omega arith
slots_counted f (Some (tuple_class (Some q) ss)) = length-append (f q) ss
slots_counted f (Some (built_in j)) = refl
slots_counted f (Some (union cs)) = refl
slots_counted f (Some single) = refl

module _ (cs : List ClassDef) where
  abbrev total : ℕ
  total = length cs

  no_shape : (c : ℕ) → total ≤ c → shape_at cs c ≡ None
  no_shape c le = ap (λ (o : Option ClassDef). elim o [ Some d ↦ Some d.shape | None ↦ None ]) (none_there cs c le)

  no_parent : (c : ℕ) → total ≤ c → parent_in (shape_at cs c) ≡ None
  no_parent c le = ap parent_in (no_shape c le)

  -- the way up from a number that isn't a class's
  pub none_ends : (k c : ℕ) → total ≤ c → ends k cs c ≡ true
  none_ends zero c le = is_least total c le
  none_ends (suc k) c le = ap (of_parent (ends k cs)) (no_parent c le)

  parent_keeps : (f g : ℕ → Bool) (o : Option ℕ) → ((p : ℕ) → f p ≡ true → g p ≡ true) → of_parent f o ≡ true → of_parent g o ≡ true
  parent_keeps f g None h e = refl
  parent_keeps f g (Some p) h e = h p e

  one_more : (k c : ℕ) → ends k cs c ≡ true → ends (suc k) cs c ≡ true
  one_more zero c e = none_ends 1 c (at_least total c e)
  one_more (suc k) c e = parent_keeps (ends k cs) (ends (suc k) cs) (parent_in (shape_at cs c)) (one_more k) e

  -- whether it is a class whose way up ends so
  abbrev ends_there : ℕ → ℕ → Bool
  ends_there k c = nat_lt c total && ends k cs c

  there_low : (k c : ℕ) → ends_there k c ≡ true → c < total
  there_low k c e = is_under c total (and_parts (nat_lt c total) (ends k cs c) e).0

  there_ends : (k c : ℕ) → ends_there k c ≡ true → ends k cs c ≡ true
  there_ends k c e = (and_parts (nat_lt c total) (ends k cs c) e).1

  there_grows : (k c : ℕ) → ends_there k c ≡ true → ends_there (suc k) c ≡ true
  there_grows k c e = and_from (nat_lt c total) (ends (suc k) cs c) (under_is c total (there_low k c e)) (one_more k c (there_ends k c e))

  there_settles : (k : ℕ) → ((c : ℕ) → ends_there (suc k) c ≡ true → ends_there k c ≡ true) → (c : ℕ) → ends_there (suc (suc k)) c ≡ true → ends_there (suc k) c ≡ true
  there_settles k stable c e = and_from (nat_lt c total) (ends (suc k) cs c) (under_is c total (there_low (suc (suc k)) c e)) (parent_keeps (ends (suc k) cs) (ends k cs) (parent_in (shape_at cs c)) (λ p h. by_side p h (at_or_behind total p)) (there_ends (suc (suc k)) c e))
    where
      by_side : (p : ℕ) → ends (suc k) cs p ≡ true → (p < total) ⊎ (total ≤ p) → ends k cs p ≡ true
      by_side p h (inl lt) = there_ends k p (stable p (and_from (nat_lt p total) (ends (suc k) cs p) (under_is p total lt) h))
      by_side p h (inr le) = none_ends k p le

  -- a way up that ends has no more classes than there are
  pub ends_soon : (k c : ℕ) → c < total → ends k cs c ≡ true → ends total cs c ≡ true
  ends_soon k c lt e = there_ends total c (settled total ends_there there_low there_grows there_settles k c (and_from (nat_lt c total) (ends k cs c) (under_is c total lt) e))

  parent_ends : (k q : ℕ) (o : Option ℕ) → of_parent (ends k cs) o ≡ true → o ≡ Some q → ends k cs q ≡ true
  parent_ends k q o e is = sym (ap (of_parent (ends k cs)) is) ∙ e

  -- more steps than the way has classes find nothing more
  step_same : (k c : ℕ) → ends k cs c ≡ true → slots_within k cs c ≡ slots_within (suc k) cs c
  step_same zero c e = sym (ap (slots_by (slots_within 0 cs)) (no_shape c (at_least total c e)))
  step_same (suc k) c e = slots_same (slots_within k cs) (slots_within (suc k) cs) (shape_at cs c) (λ q is. step_same k q (parent_ends k q (parent_in (shape_at cs c)) e is))

  more_ends : (j k m c : ℕ) → m ≡ k + j → ends k cs c ≡ true → ends m cs c ≡ true
  more_ends zero k m c is e = let here : k ≡ m = omega (arith, is) in subst (λ (x : ℕ). ends x cs c ≡ true) here e
  more_ends (suc j) k zero c is e = absurd (omega (arith, is))
  more_ends (suc j) k (suc m) c is e = one_more m c (more_ends j k m c (omega (arith, is)) e)

  pub steps_same : (j k m c : ℕ) → m ≡ k + j → ends k cs c ≡ true → slots_within k cs c ≡ slots_within m cs c
  steps_same zero k m c is e = let here : k ≡ m = omega (arith, is) in ap (λ (x : ℕ). slots_within x cs c) here
  steps_same (suc j) k zero c is e = absurd (omega (arith, is))
  steps_same (suc j) k (suc m) c is e = steps_same j k m c (omega (arith, is)) e ∙ step_same m c (more_ends j k m c (omega (arith, is)) e)

  -- what is counted on the way up is what a class has
  pub counts_are : (c n : ℕ) → c < total → Counts cs c n → n ≡ slot_count cs c
  counts_are c n lt h =
      let m = h.steps + total in
      sym h.count ∙ ap length (steps_same total h.steps m c refl h.at_end ∙ sym (steps_same h.steps total m c (omega arith) (ends_soon h.steps c lt h.at_end)))

  -- one that isn't there has none
  pub none_counts : (c : ℕ) → total ≤ c → Counts cs c 0
  none_counts c le = record { steps = 0; at_end = is_least total c le; count = refl }

  -- a class has those of its parent and its own
  pub child_counts : (c n : ℕ) (at : Option ℕ) → parent_in (shape_at cs c) ≡ at → CountsIf cs at n → Counts cs c (n + own_slot_count (shape_at cs c))
  child_counts c n None is h = record {
    steps = 1;
    at_end = ap (of_parent (ends 0 cs)) is;
    count = slots_counted (slots_within 0 cs) (shape_at cs c) ∙ ap (λ (o : Option ℕ). count_above (slots_within 0 cs) o + own_slot_count (shape_at cs c)) is ∙ ap (λ (k : ℕ). k + own_slot_count (shape_at cs c)) (sym h);
  }
  child_counts c n (Some p) is h = record {
    steps = suc h.steps;
    at_end = ap (of_parent (ends h.steps cs)) is ∙ h.at_end;
    count = slots_counted (slots_within h.steps cs) (shape_at cs c) ∙ ap (λ (o : Option ℕ). count_above (slots_within h.steps cs) o + own_slot_count (shape_at cs c)) is ∙ ap (λ (k : ℕ). k + own_slot_count (shape_at cs c)) h.count;
  }

  -- a class has an edge to its parent
  parent_part : (o : Option Shape) (p : ℕ) → parent_in o ≡ Some p → IsOneOf p (parts_of o)
  parent_part None p e = absurd cc
  parent_part (Some (tuple_class None ss)) p e = absurd cc
  parent_part (Some (tuple_class (Some q) ss)) p e = let same : q ≡ p = cc in subst (λ (x : ℕ). IsOneOf p (x ∷ [])) (sym same) (in_one p [])
  parent_part (Some (built_in j)) p e = absurd cc
  parent_part (Some (union ms)) p e = absurd cc
  parent_part (Some single) p e = absurd cc

  pub parent_edge : (c p : ℕ) → parent_in (shape_at cs c) ≡ Some p → IsOneOf p (successors (class_edges cs) c)
  parent_edge c p e = subst (λ (xs : List ℕ). IsOneOf p xs) (sym (edges_of_classes cs c)) (parent_part (shape_at cs c) p e)

  last_fails : (f : ℕ → Bool) (n c : ℕ) → c ≡ n → not (f n) ≡ true → f c ≡ true → ⊥
  last_fails f n c here fails e = let clash : not true ≡ true = sym (ap not (sym (ap f here) ∙ e)) ∙ fails in cc

  none_passes : (f : ℕ → Bool) (n c : ℕ) → each_below (λ x. not (f x)) n ≡ true → c < n → f c ≡ true → ⊥
  none_passes f zero c h lt e = omega (arith, lt)
  none_passes f (suc n) c h lt e = elim (at_or_behind n c) [ inl low ↦ none_passes f n c (and_parts (not (f n)) (each_below (λ x. not (f x)) n) h).1 low e | inr le ↦ last_fails f n c (omega (arith, le, lt)) (and_parts (not (f n)) (each_below (λ x. not (f x)) n) h).0 e ]

  -- no class leads to itself
  pub no_round : (c : ℕ) → classes_end cs ≡ true → c < total → LeadsTo (class_edges cs) c c → ⊥
  no_round c h lt path = none_passes (λ x. reaches total cs x x) total c h lt (class_cycle cs c path)

-- numbers that are those of a function, one by one
numbers_are : (f : ℕ → ℕ) (k : ℕ) (ns : List ℕ) (n : ℕ) → length ns ≡ n → ((j i x : ℕ) → i ≡ k + j → slice_get ns j ≡ Some x → x ≡ f i) → ns ≡ map f (range_with_len k n)
numbers_are f k [] zero many all = refl
numbers_are f k [] (suc n) many all = absurd (omega (arith, many))
numbers_are f k (x ∷ ns) zero many all = absurd (omega (arith, many))
numbers_are f k (x ∷ ns) (suc n) many all = ap (λ (y : ℕ). y ∷ ns) (all 0 k x (omega arith) refl) ∙ ap (λ (ys : List ℕ). f k ∷ ys) (numbers_are f (k + 1) ns n (omega (arith, many)) (λ j i y is e. all (suc j) i y (omega (arith, is)) e))

pub all_counted : (cs : List ClassDef) (ns : List ℕ) → length ns ≡ length cs → ((c n : ℕ) → slice_get ns c ≡ Some n → n ≡ slot_count cs c) → ns ≡ slot_counts cs
all_counted cs ns many all =
    numbers_are (slot_count cs) 0 ns (length cs) many (λ j i n is e. let here : j ≡ i = omega (arith, is) in all j n e ∙ ap (slot_count cs) here)

-- the count of a class stands at its number
number_at : (f : ℕ → ℕ) (k n j i : ℕ) → j < n → i ≡ k + j → slice_get (map f (range_with_len k n)) j ≡ Some (f i)
number_at f k zero j i lt is = absurd (omega (arith, lt))
number_at f k (suc n) zero i lt is = let here : k ≡ i = omega (arith, is) in ap (λ (x : ℕ). Some (f x)) here
number_at f k (suc n) (suc j) i lt is = number_at f (k + 1) n j i (omega (arith, lt)) (omega (arith, is))

pub count_at : (cs : List ClassDef) (c : ℕ) → c < length cs → slice_get (slot_counts cs) c ≡ Some (slot_count cs c)
count_at cs c lt = number_at (slot_count cs) 0 (length cs) c c lt (omega arith)
