-- Frames of numbers.
use Rattle.std.proofs.Common.{◌≡◌, ℕ, zero, suc, ◌+◌, ◌-◌, ◌<◌, ◌≤◌, ◌⊎◌, inl, inr, List, [], ◌∷◌, ◌++◌, Option, Some, None, Result, Ok, Err, IfOk, OnErr, length, get_or, map, option_map, slice_get, refl, sym, ap, subst, ◌∙◌, arith, length-append}
use Rattle.fac_abs.specs.declared.stack_nodes.StackNode.{StackNode}
use Rattle.fac_abs.specs.inner.Stacks.{stacks_of, TellHeights, LieOnEarlier}
use Rattle.fac_abs.specs.inner.Keeping.{Keeps, IsStackWith}
use Rattle.fac_abs.proofs.StackLemmas.{keeps_refl, map_push, stacks_length, stack_zero, stack_at, below_within, height_at, height_read, pop_read, low_height, pushed_tell, pushed_lie, pushed_keeps, pushed_is}
use Rattle.std.proofs.lemmas.Option.{slice_get-map}
use Rattle.std.specs.Map.{keys_of}
use Rattle.fac_abs.specs.InTurn.{under}
use Rattle.fac_abs.specs.Marks.{piled}
use Rattle.fac_abs.specs.inner.Framing.{AreDistinct, IsNumbered, there, added}

-- what is there at a number
pub there_at : {A : Type 0} (xs : List A) (k : ℕ) (d : A) → k < length xs → slice_get xs k ≡ Some (get_or xs k d)
there_at [] k d h = absurd (omega arith)
there_at (x ∷ xs) zero d h = refl
there_at (x ∷ xs) (suc k) d h = there_at xs k d (omega arith)

-- frames that are alike have one number
pub distinct_at : (frames : List (List ℕ)) → AreDistinct frames → (i j : ℕ) → i < length frames → j < length frames → get_or frames i [] ≡ get_or frames j [] → i ≡ j
distinct_at frames apart i j h g e = apart i j (get_or frames i []) (there_at frames i [] h) (there_at frames j [] g ∙ ap Some (sym e))

-- The list that is made of the marks of cells, the last first.

piled_behind : {A : Type 0} (xs before : List A) (j k : ℕ) → k ≡ length xs + j → slice_get (piled xs before) k ≡ slice_get before j
piled_behind [] before j k e = let same : k ≡ j = omega (arith, e) in ap (slice_get before) same
piled_behind (x ∷ xs) before j k e = piled_behind xs (x ∷ before) (suc j) k (omega (arith, e))

-- the cell at a place from the front is that at a place from the end
pub piled_at : {A : Type 0} (xs before : List A) (j k : ℕ) → k + suc j ≡ length xs → slice_get (piled xs before) k ≡ slice_get xs j
piled_at [] before j k e = absurd (omega (arith, e))
piled_at (x ∷ xs) before zero k e = piled_behind xs (x ∷ before) 0 k (omega (arith, e))
piled_at (x ∷ xs) before (suc j) k e = piled_at xs (x ∷ before) j k (omega (arith, e))

-- no cell has a number behind the last one
pub piled_past : {A : Type 0} (xs : List A) (k : ℕ) → length xs ≤ k → None ≡ slice_get (piled xs []) k
piled_past xs k h = sym (piled_behind xs [] (k - length xs) k (omega (arith, h)) ∙ refl)

pub cell_some : (n : ℕ) (xs ys zs : List ℕ) (m : ℕ) → under n xs ≡ Some ys → ys ≡ m ∷ zs → Some m ≡ slice_get xs n
cell_some zero xs ys zs m e f = (let g : xs ≡ m ∷ zs = cc in rw g refl)
cell_some (suc n) [] ys zs m e f = absurd (cc)
cell_some (suc n) (x ∷ xs) ys zs m e f = cell_some n xs ys zs m e f

pub cell_empty : (n : ℕ) (xs ys : List ℕ) → under n xs ≡ Some ys → ys ≡ [] → None ≡ slice_get xs n
cell_empty zero xs ys e f = (let g : xs ≡ [] = cc in rw g refl)
cell_empty (suc n) [] ys e f = refl
cell_empty (suc n) (x ∷ xs) ys e f = cell_empty n xs ys e f

pub cell_none : (n : ℕ) (xs : List ℕ) → under n xs ≡ None → None ≡ slice_get xs n
cell_none zero xs e = absurd (cc)
cell_none (suc n) [] e = refl
cell_none (suc n) (x ∷ xs) e = cell_none n xs e

pub there_within : {A : Type 0} (xs : List A) (k : ℕ) (x : A) → slice_get xs k ≡ Some x → k < length xs
there_within [] k x e = absurd (cc)
there_within (y ∷ xs) zero x e = omega arith
there_within (y ∷ xs) (suc k) x e = let ih = there_within xs k x e in omega (arith, ih)

pub there_is : {A : Type 0} (xs : List A) (k : ℕ) (x d : A) → slice_get xs k ≡ Some x → get_or xs k d ≡ x
there_is [] k x d e = absurd (cc)
there_is (y ∷ xs) zero x d e = cc
there_is (y ∷ xs) (suc k) x d e = there_is xs k x d e

pub node_parts : (a b c x y z : ℕ) → a ≡ x → b ≡ y → c ≡ z → (let n : StackNode = record { mark = a; below = b; height = c } in let r : StackNode = record { mark = x; below = y; height = z } in n ≡ r)
node_parts a b c x y z e f g = rw (e, f, g) refl

no_top : (m : ℕ) (ms : List ℕ) → [] ≡ m ∷ ms → ⊥
no_top m ms e = absurd (cc)

first_same : (m n : ℕ) (ms ns : List ℕ) → m ∷ ms ≡ n ∷ ns → m ≡ n
first_same m n ms ns e = cc

rest_same : (m n : ℕ) (ms ns : List ℕ) → m ∷ ms ≡ n ∷ ns → ms ≡ ns
rest_same m n ms ns e = cc

-- Nodes that are told apart make frames that are.
module _ (nodes : List StackNode) (told : TellHeights nodes) (lie : LieOnEarlier nodes) (apart : AreDistinct nodes) where
  abbrev none : StackNode
  none = record { mark = 0; below = 0; height = 0 }

  abbrev ss : List (List ℕ)
  ss = stacks_of nodes

  abbrev node_of : ℕ → StackNode
  node_of i = get_or nodes (i - 1) none

  same_frame : (bound i j : ℕ) → i < bound → i < length ss → j < length ss → get_or ss i [] ≡ get_or ss j [] → i ≡ j
  same_frame zero i j h a b e = absurd (omega (arith, h))
  same_frame (suc bound) zero zero h a b e = refl
  same_frame (suc bound) zero (suc j) h a b e =
      let long = stacks_length nodes in
      let empty : get_or ss zero [] ≡ [] = stack_zero nodes in
      let top = stack_at none nodes (suc j) lie (omega arith) (omega (arith, b, long)) in
      absurd (no_top _ _ (sym empty ∙ e ∙ top))
  same_frame (suc bound) (suc i) zero h a b e =
      let long = stacks_length nodes in
      let empty : get_or ss zero [] ≡ [] = stack_zero nodes in
      let top = stack_at none nodes (suc i) lie (omega arith) (omega (arith, a, long)) in
      absurd (no_top _ _ (sym empty ∙ sym e ∙ top))
  same_frame (suc bound) (suc i) (suc j) h a b e =
      let long = stacks_length nodes in
      let x : StackNode = node_of (suc i) in
      let y : StackNode = node_of (suc j) in
      let in_i : suc i < suc (length nodes) = omega (arith, a, long) in
      let in_j : suc j < suc (length nodes) = omega (arith, b, long) in
      let tops : x.mark ∷ get_or ss x.below [] ≡ y.mark ∷ get_or ss y.below [] = sym (stack_at none nodes (suc i) lie (omega arith) in_i) ∙ e ∙ stack_at none nodes (suc j) lie (omega arith) in_j in
      let low_i = below_within none nodes (suc i) lie (omega arith) in_i in
      let low_j = below_within none nodes (suc j) lie (omega arith) in_j in
      let belows : x.below ≡ y.below = same_frame bound x.below y.below (omega (arith, low_i, h)) (omega (arith, low_i, a)) (omega (arith, low_j, b)) (rest_same _ _ _ _ tops) in
      let heights : x.height ≡ y.height = height_at none nodes (suc i) told (omega arith) in_i ∙ ap length e ∙ sym (height_at none nodes (suc j) told (omega arith) in_j) in
      let one : x ≡ y = node_parts x.mark x.below x.height y.mark y.below y.height (first_same _ _ _ _ tops) belows heights in
      let places : suc i - 1 ≡ suc j - 1 = apart (suc i - 1) (suc j - 1) x (there_at nodes (suc i - 1) none (omega (arith, in_i))) (there_at nodes (suc j - 1) none (omega (arith, in_j)) ∙ ap Some (sym one)) in
      omega (arith, places)

  pub frames_apart : AreDistinct (stacks_of nodes)
  frames_apart i j x e f = same_frame (suc i) i j (omega arith) (there_within ss i x e) (there_within ss j x f) (there_is ss i x [] e ∙ sym (there_is ss j x [] f))

-- a list stays told apart with one more that wasn't there
pub distinct_push : {A : Type 0} (xs : List A) (x : A) → AreDistinct xs → ((k : ℕ) → slice_get xs k ≡ Some x → ⊥) → AreDistinct (xs ++ x ∷ [])
distinct_push xs x apart absent i j y e f = by_places (place xs x i y e) (place xs x j y f)
  where
    place : {B : Type 0} (zs : List B) (z : B) (k : ℕ) (w : B) → slice_get (zs ++ z ∷ []) k ≡ Some w → (slice_get zs k ≡ Some w) ⊎ ((k ≡ length zs) × (z ≡ w))
    place [] z zero w e = inr (refl, cc)
    place [] z (suc k) w e = absurd (cc)
    place (v ∷ zs) z zero w e = inl e
    place (v ∷ zs) z (suc k) w e = elim (place zs z k w e) [ inl l ↦ inl l | inr r ↦ inr (ap suc r.0, r.1) ]

    by_places : (slice_get xs i ≡ Some y) ⊎ ((i ≡ length xs) × (x ≡ y)) → (slice_get xs j ≡ Some y) ⊎ ((j ≡ length xs) × (x ≡ y)) → i ≡ j
    by_places (inl h) (inl g) = apart i j y h g
    by_places (inl h) (inr g) = absurd (absent i (h ∙ ap Some (sym g.1)))
    by_places (inr h) (inl g) = absurd (absent j (g ∙ ap Some (sym h.1)))
    by_places (inr h) (inr g) = h.0 ∙ sym g.0

-- A node has its number in a list of nodes, whose frames go by another name.
module _ (before after : List StackNode) (c : StackNode) (frames : List (List ℕ)) (v : stacks_of before ≡ frames) where
  pub numbered_tell : TellHeights before → c.height ≡ suc (length (get_or frames c.below [])) → (r : ℕ) → IsNumbered before after c r → TellHeights after
  numbered_tell told h r (there e same) = subst TellHeights (sym same) told
  numbered_tell told h r (added absent place e) = pushed_tell before after c frames e v told h

  pub numbered_lie : LieOnEarlier before → c.below < length frames → (r : ℕ) → IsNumbered before after c r → LieOnEarlier after
  numbered_lie lie h r (there e same) = subst LieOnEarlier (sym same) lie
  numbered_lie lie h r (added absent place e) = pushed_lie before after c frames e v lie h

  pub numbered_apart : AreDistinct before → (r : ℕ) → IsNumbered before after c r → AreDistinct after
  numbered_apart apart r (there e same) = subst (λ (ns : List StackNode). AreDistinct ns) (sym same) apart
  numbered_apart apart r (added absent place e) = subst (λ (ns : List StackNode). AreDistinct ns) (sym e) (distinct_push before c apart absent)

  pub numbered_keeps : (r : ℕ) → IsNumbered before after c r → Keeps frames (stacks_of after)
  numbered_keeps r (there e same) = subst (λ (ss : List (List ℕ)). Keeps frames ss) (sym v ∙ ap stacks_of (sym same)) (keeps_refl frames)
  numbered_keeps r (added absent place e) = pushed_keeps before after c frames e v

  old_frame : LieOnEarlier before → (r : ℕ) → slice_get before r ≡ Some c → IsStackWith (stacks_of before) (r + 1) (c.mark ∷ get_or frames c.below [])
  old_frame lie r e =
      let within = there_within before r c e in
      let long = stacks_length before in
      let next : r + 1 - 1 ≡ r = omega arith in
      let node : get_or before (r + 1 - 1) c ≡ c = ap (λ (k : ℕ). get_or before k c) next ∙ there_is before r c c e in
      record {
        within = omega (arith, within, long);
        marks_are = stack_at c before (r + 1) lie (omega arith) (omega (arith, within)) ∙ ap (λ (d : StackNode). d.mark ∷ get_or (stacks_of before) d.below []) node ∙ ap (λ (ss : List (List ℕ)). c.mark ∷ get_or ss c.below []) v;
      }

  pub numbered_is : LieOnEarlier before → (r : ℕ) → IsNumbered before after c r → IsStackWith (stacks_of after) (r + 1) (c.mark ∷ get_or frames c.below [])
  numbered_is lie r (there e same) = subst (λ (ns : List StackNode). IsStackWith (stacks_of ns) (r + 1) (c.mark ∷ get_or frames c.below [])) (sym same) (old_frame lie r e)
  numbered_is lie r (added absent place e) = pushed_is before after c frames e v r place

  pub number_short : (r : ℕ) → IsNumbered before after c r → r < length after
  number_short r (there e same) = subst (λ (ns : List StackNode). r < length ns) (sym same) (there_within before r c e)
  number_short r (added absent place e) = subst (λ (ns : List StackNode). r < length ns) (sym e) (omega (arith, place, length-append before (c ∷ [])))

  module _ {E : Type 0} where
    pub told_by : TellHeights before → c.height ≡ suc (length (get_or frames c.below [])) → (r : Result ℕ E) → IfOk r (λ k. IsNumbered before after c k) → OnErr r (after ≡ before) → TellHeights after
    told_by told h (Ok k) f g = numbered_tell told h k f
    told_by told h (Err e) f g = subst TellHeights (sym g) told

    pub lie_by : LieOnEarlier before → c.below < length frames → (r : Result ℕ E) → IfOk r (λ k. IsNumbered before after c k) → OnErr r (after ≡ before) → LieOnEarlier after
    lie_by lie h (Ok k) f g = numbered_lie lie h k f
    lie_by lie h (Err e) f g = subst LieOnEarlier (sym g) lie

    pub apart_by : AreDistinct before → (r : Result ℕ E) → IfOk r (λ k. IsNumbered before after c k) → OnErr r (after ≡ before) → AreDistinct after
    apart_by apart (Ok k) f g = numbered_apart apart k f
    apart_by apart (Err e) f g = subst (λ (ns : List StackNode). AreDistinct ns) (sym g) apart

    pub keeps_by : (r : Result ℕ E) → IfOk r (λ k. IsNumbered before after c k) → OnErr r (after ≡ before) → Keeps frames (stacks_of after)
    keeps_by (Ok k) f g = numbered_keeps k f
    keeps_by (Err e) f g = subst (λ (ss : List (List ℕ)). Keeps frames ss) (sym v ∙ ap stacks_of (sym g)) (keeps_refl frames)

-- A node of a frame, where frames go by another name.
module _ {U : Type 0} (entries : List (StackNode × U)) (frames : List (List ℕ)) (v : stacks_of (keys_of entries) ≡ frames) (s : ℕ) (n : StackNode) (u : U) (e : Some (n, u) ≡ slice_get entries (s - 1)) where
  key_read : get_or (keys_of entries) (s - 1) n ≡ n
  key_read = there_is (keys_of entries) (s - 1) n n (slice_get-map (λ (p : StackNode × U). p.0) entries (s - 1) ∙ ap (option_map (λ (p : StackNode × U). p.0)) (sym e))

  pub frame_height : TellHeights (keys_of entries) → 0 < s → s < length frames → n.height ≡ length (get_or frames s [])
  frame_height told h l = ap (λ (d : StackNode). d.height) (sym key_read) ∙ height_read n (keys_of entries) (keys_of entries) frames s refl v told h l

  pub frame_pop : LieOnEarlier (keys_of entries) → 0 < s → s < length frames → (n.below < length frames) × (get_or frames s [] ≡ n.mark ∷ get_or frames n.below [])
  frame_pop lie h l = subst (λ (d : StackNode). (d.below < length frames) × (get_or frames s [] ≡ d.mark ∷ get_or frames d.below [])) key_read (pop_read n (keys_of entries) (keys_of entries) frames s refl v lie h l)

-- the frame with no cells
pub frame_zero : (ns : List StackNode) (frames : List (List ℕ)) → stacks_of ns ≡ frames → get_or frames 0 [] ≡ []
frame_zero ns frames v = ap (λ (ss : List (List ℕ)). get_or ss 0 []) (sym v) ∙ stack_zero ns

pub keys_with : {U : Type 0} (before after : List (StackNode × U)) (n : StackNode) (u : U) → after ≡ before ++ (n, u) ∷ [] → keys_of after ≡ keys_of before ++ n ∷ []
keys_with before after n u e = ap keys_of e ∙ map_push _ before (n, u)
