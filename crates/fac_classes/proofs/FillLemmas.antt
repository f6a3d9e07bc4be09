-- The table is filled: rows of built-in classes, and marks upward.
use Rattle.std.proofs.Common.{◌≡◌, ◌<◌, ◌≤◌, ◌⊎◌, inl, inr, ℕ, zero, suc, ◌+◌, ◌-◌, List, [], ◌∷◌, length, get_or, Bool, true, false, sym, ap, ◌∙◌, subst, arith}
use Rattle.std.specs.Prelude.{nat_eq, Option, Some, None, slice_get}
use Rattle.std.proofs.lemmas.Option.{slice_get-get_or}
use Rattle.std.proofs.lemmas.Bool.{cases_Bool}
use Rattle.fac_lang.specs.declared.program.ClassDef.{ClassDef}
use Rattle.fac_lang.specs.declared.program.Shape.{Shape}
use Rattle.fac_lang.specs.declared.program.Shape.TheVariants.{Kind as built_in, Tuple as tuple_class, Union as union, Single as single}
use Rattle.fac_lang.specs.Classes.{shape_at, parent_in, has_own, has_kind, descends, class_with, built_in_has, is_tuple}
use Rattle.fac_classes.specs.ClassKinds.{kind_total}
use Rattle.fac_classes.specs.inner.Members.{built_in_in, AreSound}
use Rattle.fac_classes.specs.inner.OwnKinds.{owners_from}
use Rattle.fac_classes.specs.inner.Cells.{cell, Grows, Marks, IsRight, IsFull}
use Rattle.fac_classes.specs.inner.Filling.{Lays, LaysBuiltIns, MarksUp, LaysOwners}
use Rattle.fac_classes.proofs.ListLemmas.{same_number, not_true}
use Rattle.fac_classes.proofs.KindLemmas.{kinds_of_shape, is_class, is_owned, own_kind_above, own_kind_below, owner_at, owner_count, no_step_up, step_up, step_down, descends_itself}
use Rattle.fac_classes.proofs.CellLemmas.{grows_on, marks_right, full_grows}

pub below_next : (j i : ℕ) → j < i + 1 → nat_eq j i ≡ false → j < i
below_next j i lt e = grind arith

-- The row of a built-in class, up to kind i.
pub record LaysBelow (cs : List ClassDef) (w c i : ℕ) (before after : List Bool) : Type 0 where
  pub grows : Grows w before after
  pub right : IsRight cs w after
  pub full : (k : ℕ) → k < i → k < w → has_kind cs c k ≡ true → cell w after c k ≡ true

pub lays_start : (cs : List ClassDef) (w c : ℕ) (cells : List Bool) → IsRight cs w cells → LaysBelow cs w c 0 cells cells
lays_start cs w c cells right = record { grows = λ d j lt h. h; right = right; full = λ k low lt h. absurd (omega (arith, low)) }

built_in_shape : (o : Option Shape) (j : ℕ) → built_in_in o ≡ Some j → o ≡ Some (built_in j)
built_in_shape None j e = absurd cc
built_in_shape (Some (built_in i)) j e = let same : i ≡ j = cc in ap (λ (x : ℕ). Some (built_in x)) same
built_in_shape (Some (tuple_class p ss)) j e = absurd cc
built_in_shape (Some (union ms)) j e = absurd cc
built_in_shape (Some single) j e = absurd cc

has_built_in : (cs : List ClassDef) → AreSound cs → (c j k : ℕ) → built_in_in (shape_at cs c) ≡ Some j → has_kind cs c k ≡ built_in_has cs j k
has_built_in cs sound c j k e = kinds_of_shape cs sound c k (built_in j) (built_in_shape (shape_at cs c) j e)

pub lays_marked : (cs : List ClassDef) → AreSound cs → (w c j i : ℕ) (x a b : List Bool) → built_in_in (shape_at cs c) ≡ Some j → LaysBelow cs w c i x a → true ≡ built_in_has cs j i → Marks w c i a b → LaysBelow cs w c (i + 1) x b
lays_marked cs sound w c j i x a b e l h m =
    record {
      grows = grows_on w x a b l.grows m.grows;
      right = marks_right cs w c i a b l.right (has_built_in cs sound c j i e ∙ sym h) m;
      full = λ k low lt q. elim (cases_Bool (nat_eq k i)) [ inl p ↦ subst (λ (y : ℕ). cell w b c y ≡ true) (sym (same_number k i p)) m.marked | inr p ↦ m.grows c k lt (l.full k (below_next k i low p) lt q) ];
    }

pub lays_passed : (cs : List ClassDef) → AreSound cs → (w c j i : ℕ) (x a : List Bool) → built_in_in (shape_at cs c) ≡ Some j → LaysBelow cs w c i x a → false ≡ built_in_has cs j i → LaysBelow cs w c (i + 1) x a
lays_passed cs sound w c j i x a e l h =
    record {
      grows = l.grows;
      right = l.right;
      full = λ k low lt q. elim (cases_Bool (nat_eq k i)) [ inl p ↦ not_true (h ∙ sym (has_built_in cs sound c j i e) ∙ subst (λ (y : ℕ). has_kind cs c y ≡ true) (same_number k i p) q) | inr p ↦ l.full k (below_next k i low p) lt q ];
    }

pub lays_all : (cs : List ClassDef) (w c i : ℕ) (x a : List Bool) → w ≤ i → LaysBelow cs w c i x a → Lays cs w c x a
lays_all cs w c i x a le l = record { grows = l.grows; right = l.right; full = λ k lt h. l.full k (omega (arith, le, lt)) lt h }

-- The rows of all built-in classes.
pub built_ins_start : (cs : List ClassDef) (w : ℕ) (cells : List Bool) → IsRight cs w cells → LaysBuiltIns cs w 0 cells cells
built_ins_start cs w cells right = record { grows = λ d j lt h. h; right = right; full = λ c j low e. absurd (omega (arith, low)) }

pub built_ins_more : (cs : List ClassDef) (w i : ℕ) (x a b : List Bool) → LaysBuiltIns cs w i x a → Lays cs w i a b → LaysBuiltIns cs w (i + 1) x b
built_ins_more cs w i x a b l m =
    record {
      grows = grows_on w x a b l.grows m.grows;
      right = m.right;
      full = λ c j low e. elim (cases_Bool (nat_eq c i)) [ inl p ↦ subst (λ (y : ℕ). IsFull cs w b y) (sym (same_number c i p)) m.full | inr p ↦ full_grows cs w c a b m.grows (l.full c j (below_next c i low p) e) ];
    }

pub built_ins_passed : (cs : List ClassDef) (w i : ℕ) (x a : List Bool) → LaysBuiltIns cs w i x a → built_in_in (shape_at cs i) ≡ None → LaysBuiltIns cs w (i + 1) x a
built_ins_passed cs w i x a l none =
    record {
      grows = l.grows;
      right = l.right;
      full = λ c j low e. elim (cases_Bool (nat_eq c i)) [
        | inl p ↦ let same : built_in_in (shape_at cs i) ≡ Some j = subst (λ (y : ℕ). built_in_in (shape_at cs y) ≡ Some j) (same_number c i p) e in absurd (let clash : None ≡ Some j = sym none ∙ same in cc)
        | inr p ↦ l.full c j (below_next c i low p) e
      ];
    }

-- The way up from a class, where it has come to another.
pub record Climbs (cs : List ClassDef) (w d k left at : ℕ) (before now : List Bool) : Type 0 where
  pub grows : Grows w before now
  pub right : IsRight cs w now
  pub there : at < length cs
  pub above : (c : ℕ) → descends left cs c at ≡ true → descends (length cs) cs c d ≡ true
  pub so_far : (c : ℕ) → descends (length cs) cs c d ≡ true → (cell w now c k ≡ true) ⊎ (descends left cs c at ≡ true)

pub climb_start : (cs : List ClassDef) (w d k : ℕ) (cells : List Bool) → class_with 0 cs k ≡ Some d → IsRight cs w cells → Climbs cs w d k (length cs) d cells cells
climb_start cs w d k cells e right =
    let o = is_owned cs k d e in
    record { grows = λ c j lt h. h; right = right; there = is_class cs d o.shape o.shape_is; above = λ c h. h; so_far = λ c h. inr h }

climb_right : (cs : List ClassDef) → AreSound cs → (w d k left at : ℕ) (x a b : List Bool) → class_with 0 cs k ≡ Some d → Climbs cs w d k left at x a → Marks w at k a b → IsRight cs w b
climb_right cs sound w d k left at x a b e l m = marks_right cs w at k a b l.right (own_kind_above cs sound at d k e (l.above at (descends_itself left cs at))) m

-- what was marked before, or is now
climb_marked : (cs : List ClassDef) (w d k left at : ℕ) (x a b : List Bool) → k < w → Climbs cs w d k left at x a → Marks w at k a b → (c : ℕ) → (c ≡ at) ⊎ (cell w a c k ≡ true) → cell w b c k ≡ true
climb_marked cs w d k left at x a b lt l m c (inl e) = subst (λ (y : ℕ). cell w b y k ≡ true) (sym e) m.marked
climb_marked cs w d k left at x a b lt l m c (inr h) = m.grows c k lt h

climb_done : (cs : List ClassDef) → AreSound cs → (w d k left at : ℕ) (x a b : List Bool) → k < w → class_with 0 cs k ≡ Some d → Climbs cs w d k left at x a → Marks w at k a b → ((c : ℕ) → descends left cs c at ≡ true → c ≡ at) → MarksUp cs w d k x b
climb_done cs sound w d k left at x a b lt e l m only =
    record {
      grows = grows_on w x a b l.grows m.grows;
      right = climb_right cs sound w d k left at x a b e l m;
      marked = λ c h. climb_marked cs w d k left at x a b lt l m c (elim (l.so_far c h) [ inl q ↦ inr q | inr q ↦ inl (only c q) ]);
    }

pub climb_end : (cs : List ClassDef) → AreSound cs → (w d k left at : ℕ) (x a b : List Bool) → k < w → class_with 0 cs k ≡ Some d → Climbs cs w d k left at x a → Marks w at k a b → left ≡ 0 → MarksUp cs w d k x b
climb_end cs sound w d k left at x a b lt e l m none = climb_done cs sound w d k left at x a b lt e l m (λ c h. same_number c at (subst (λ (f : ℕ). descends f cs c at ≡ true) none h))

pub climb_top : (cs : List ClassDef) → AreSound cs → (w d k left at : ℕ) (x a b : List Bool) → k < w → class_with 0 cs k ≡ Some d → Climbs cs w d k left at x a → Marks w at k a b → parent_in (shape_at cs at) ≡ None → MarksUp cs w d k x b
climb_top cs sound w d k left at x a b lt e l m none = climb_done cs sound w d k left at x a b lt e l m (λ c h. no_step_up left cs at c none h)

tuple_is_class : (ds : List ClassDef) (c : ℕ) → is_tuple (shape_at ds c) ≡ true → c < length ds
tuple_is_class [] c h = not_true h
tuple_is_class (d ∷ ds) zero h = omega arith
tuple_is_class (d ∷ ds) (suc c) h = let lt = tuple_is_class ds c h in omega (arith, lt)

climb_step : (cs : List ClassDef) → AreSound cs → (w d k left at p : ℕ) (x a b : List Bool) → k < w → class_with 0 cs k ≡ Some d → Climbs cs w d k (suc left) at x a → Marks w at k a b → parent_in (shape_at cs at) ≡ Some p → Climbs cs w d k left p x b
climb_step cs sound w d k left at p x a b lt e l m up =
    record {
      grows = grows_on w x a b l.grows m.grows;
      right = climb_right cs sound w d k (suc left) at x a b e l m;
      there = tuple_is_class cs p (sound.parents at p up);
      above = λ c h. l.above c (step_down left cs at p c up h);
      so_far = λ c h. elim (l.so_far c h) [
        | inl q ↦ inl (m.grows c k lt q)
        | inr q ↦ elim (step_up left cs at p c up q) [ inl same ↦ inl (climb_marked cs w d k (suc left) at x a b lt l m c (inl same)) | inr r ↦ inr r ]
      ];
    }

pub climb_up : (cs : List ClassDef) → AreSound cs → (w d k left at p : ℕ) (x a b : List Bool) → k < w → class_with 0 cs k ≡ Some d → Climbs cs w d k left at x a → Marks w at k a b → 0 < left → parent_in (shape_at cs at) ≡ Some p → Climbs cs w d k (left - 1) p x b
climb_up cs sound w d k left at p x a b lt e l m more up =
    let back : left ≡ suc (left - 1) = omega (arith, more) in
    climb_step cs sound w d k (left - 1) at p x a b lt e (subst (λ (f : ℕ). Climbs cs w d k f at x a) back l) m up

-- All own kinds, up to that of owner i.
pub record Owns (cs : List ClassDef) (w i : ℕ) (owners : List ℕ) (before now : List Bool) : Type 0 where
  pub grows : Grows w before now
  pub right : IsRight cs w now
  pub marked : (c j d : ℕ) → j < i → slice_get owners j ≡ Some d → descends (length cs) cs c d ≡ true → cell w now c (8 + j) ≡ true

pub owns_start : (cs : List ClassDef) (w : ℕ) (owners : List ℕ) (cells : List Bool) → IsRight cs w cells → Owns cs w 0 owners cells cells
owns_start cs w owners cells right = record { grows = λ d j lt h. h; right = right; marked = λ c j d low e h. absurd (omega (arith, low)) }

pub owner_here : (cs : List ClassDef) (owners : List ℕ) (i d : ℕ) → owners ≡ owners_from 0 cs → i < length owners → d ≡ get_or owners i 0 → class_with 0 cs (8 + i) ≡ Some d
owner_here cs owners i d e lt q = sym (owner_at cs 0 i) ∙ ap (λ (xs : List ℕ). slice_get xs i) (sym e) ∙ slice_get-get_or owners i 0 lt ∙ ap Some (sym q)

pub owners_total : (cs : List ClassDef) (owners : List ℕ) → owners ≡ owners_from 0 cs → kind_total cs ≡ 8 + length owners
owners_total cs owners e = ap (λ (n : ℕ). 8 + n) (sym (ap length e ∙ owner_count cs 0))

pub owns_more : (cs : List ClassDef) (w i d : ℕ) (owners : List ℕ) (x a b : List Bool) → w ≡ 8 + length owners → i < length owners → d ≡ get_or owners i 0 → Owns cs w i owners x a → MarksUp cs w d (8 + i) a b → Owns cs w (i + 1) owners x b
owns_more cs w i d owners x a b total lt q l m =
    record {
      grows = grows_on w x a b l.grows m.grows;
      right = m.right;
      marked = λ c j r low e h. elim (cases_Bool (nat_eq j i)) [
        | inl p ↦ last c j r e h (same_number j i p)
        | inr p ↦ m.grows c (8 + j) (let under = below_next j i low p in omega (arith, total, lt, under)) (l.marked c j r (below_next j i low p) e h)
      ];
    }
  where
    last : (c j r : ℕ) → slice_get owners j ≡ Some r → descends (length cs) cs c r ≡ true → j ≡ i → cell w b c (8 + j) ≡ true
    last c j r e h same =
        let at_i : slice_get owners i ≡ Some d = slice_get-get_or owners i 0 lt ∙ ap Some (sym q) in
        let here : slice_get owners j ≡ Some d = ap (slice_get owners) same ∙ at_i in
        let one : r ≡ d = (let both : Some r ≡ Some d = sym e ∙ here in cc) in
        subst (λ (y : ℕ). cell w b c (8 + y) ≡ true) (sym same) (m.marked c (subst (λ (y : ℕ). descends (length cs) cs c y ≡ true) one h))

pub owns_all : (cs : List ClassDef) → AreSound cs → (w i : ℕ) (owners : List ℕ) (x a : List Bool) → owners ≡ owners_from 0 cs → length owners ≤ i → Owns cs w i owners x a → LaysOwners cs w x a
owns_all cs sound w i owners x a e le l = record { grows = l.grows; right = l.right; full = full }
  where
    found : (c k d : ℕ) → 8 ≤ k → class_with 0 cs k ≡ Some d → descends (length cs) cs c d ≡ true → cell w a c k ≡ true
    found c k d low q h =
        let back : 8 + (k - 8) ≡ k = omega (arith, low) in
        let at : slice_get owners (k - 8) ≡ Some d = ap (λ (xs : List ℕ). slice_get xs (k - 8)) e ∙ owner_at cs 0 (k - 8) ∙ ap (class_with 0 cs) back ∙ q in
        let lt = under owners (k - 8) d at in
        subst (λ (y : ℕ). cell w a c y ≡ true) back (l.marked c (k - 8) d (omega (arith, lt, le)) at h)
      where
        under : (xs : List ℕ) (j v : ℕ) → slice_get xs j ≡ Some v → j < length xs
        under [] j v e = absurd cc
        under (y ∷ xs) zero v e = omega arith
        under (y ∷ xs) (suc j) v e = let lt = under xs j v e in omega (arith, lt)

    full : (c : ℕ) (s : Shape) → shape_at cs c ≡ Some s → has_own s ≡ true → IsFull cs w a c
    full c s q t k lt h = let r = own_kind_below cs sound c k s q t h in let o = is_owned cs k r.0 r.1 in found c k r.0 o.from r.1 r.2
