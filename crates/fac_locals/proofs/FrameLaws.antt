-- Laws of frames: what is put for cells, what a quotation or a fry keeps of a frame, and how a closed phrase opens under one.
use Rattle.std.proofs.Common.{◌≡◌, ◌≤◌, ◌⊎◌, inl, inr, ℕ, zero, suc, ◌+◌, List, [], ◌∷◌, ◌++◌, length, Bool, true, false, cond, ◌&&◌, ◌||◌, not, nat_eq, nat_lt, Option, Some, None, slice_get, refl, sym, ap, ap₂, ◌∙◌, subst, append_assoc, append-nil, length-append, arith}
use Rattle.std.specs.List.{list_any}
use Rattle.std.proofs.lemmas.Bool.{eqb-true, eq-eqb}
use Rattle.std.proofs.lemmas.List.Folds.{list_any-append}
use Rattle.std.proofs.lemmas.Grind.{common_steps}
use Rattle.fac_base.specs.declared.place.Place.{Place}
use Rattle.fac_lang.specs.Phrases.{Literal, Phrase, end, then, Item, lit, lit_arr, quot, word, bind, local, fry, hole, call_effect, execute_effect, next_method, made, next_after, held, known}
use Rattle.fac_lang.specs.Substitution.{binds_local, put_local, put_local_item, put_holes, put_holes_item, item_or_hole}
use Rattle.fac_locals.specs.declared.cell.Cell.{Cell}
use Rattle.fac_locals.specs.declared.cell.Cell.TheVariants.{Local, Hole}
use Rattle.fac_locals.specs.Cells.{same_cell, number_from, cell_number, binds_cell, asks, item_asks, keeps_cell, captured_from, captured, kept_cells, hole_cells, inner_cells}
use Rattle.fac_locals.proofs.CellLemmas.{number_last}
use Rattle.fac_locals.specs.Literals.{items_in, items_inside, behind, places_in, places_at}
use Rattle.fac_locals.specs.Frames.{item_or, item_in, cell_item, put_behind, put_in_fry, filled_by, filled_item, item_for, filled, IsPut, ArePut, items_at}

-- Cells.

pub same_is : (c d : Cell) → same_cell c d ≡ true → c ≡ d
same_is (Local x) (Local y) e = ap (λ (n : ℕ). Local n) (eqb-true x y e)
same_is (Hole x) (Hole y) e = ap (λ (n : ℕ). Hole n) (eqb-true x y e)
same_is (Local x) (Hole k) e = absurd cc
same_is (Hole k) (Local x) e = absurd cc

pub same_self : (c : Cell) → same_cell c c ≡ true
same_self (Local x) = eq-eqb x x refl
same_self (Hole k) = eq-eqb k k refl

or_true : (b : Bool) → b || true ≡ true
or_true true = refl
or_true false = refl

-- Only what is asked for counts.

in_bool : (b : Bool) (i j k : Item) → (b ≡ false → j ≡ k) → ◌≡◌ {A = Item} (elim b [ true ↦ i | false ↦ j ]) (elim b [ true ↦ i | false ↦ k ])
in_bool true i j k h = refl
in_bool false i j k h = h refl

later_asks : (c : Cell) (i : Item) (p : Place) (t : Phrase) → binds_cell c i ≡ false → asks c t ≡ true → asks c (then i p t) ≡ true
later_asks c i p t free h = ap₂ (λ (b a : Bool). item_asks c i || (not b && a)) free h ∙ or_true (item_asks c i)

fry_same : (f g : Cell → Item) (t : Phrase) (n : ℕ) → ((c : Cell) → item_asks c (fry t n) ≡ true → f c ≡ g c) → (c : Cell) → asks c t ≡ true → put_in_fry f c ≡ put_in_fry g c
fry_same f g t n h (Local x) a = h (Local x) a
fry_same f g t n h (Hole k) a = refl

mutual
  pub filled_same : (f g : Cell → Item) (t : Phrase) → ((c : Cell) → asks c t ≡ true → f c ≡ g c) → filled_by f t ≡ filled_by g t
  filled_same f g end h = refl
  filled_same f g (then i p t) h =
      ap₂
      (λ (j : Item) (u : Phrase). then j p u)
      (item_same f g i (λ c a. h c (ap (λ (b : Bool). b || (not (binds_cell c i) && asks c t)) a)))
      (filled_same (put_behind f i) (put_behind g i) t (λ c a. in_bool (binds_cell c i) (cell_item c) (f c) (g c) (λ free. h c (later_asks c i p t free a))))

  item_same : (f g : Cell → Item) (i : Item) → ((c : Cell) → item_asks c i ≡ true → f c ≡ g c) → filled_item f i ≡ filled_item g i
  item_same f g (quot t) h = ap (λ (u : Phrase). quot u) (filled_same f g t h)
  item_same f g (fry t n) h = ap (λ (u : Phrase). fry u n) (filled_same (put_in_fry f) (put_in_fry g) t (fry_same f g t n h))
  item_same f g (local x) h = h (Local x) (same_self (Local x))
  item_same f g (hole k) h = h (Hole k) (same_self (Hole k))
  item_same f g (lit p) h = refl
  item_same f g (lit_arr a) h = refl
  item_same f g (word w) h = refl
  item_same f g (bind x) h = refl
  item_same f g (call_effect e) h = refl
  item_same f g (execute_effect e) h = refl
  item_same f g next_method h = refl
  item_same f g (made k) h = refl
  item_same f g (next_after m) h = refl
  item_same f g (held v) h = refl
  item_same f g (known m) h = refl

pub filled_alike : (f g : Cell → Item) (t : Phrase) → ((c : Cell) → f c ≡ g c) → filled_by f t ≡ filled_by g t
filled_alike f g t h = filled_same f g t (λ c a. h c)

-- With nothing put a phrase stays what it is.

either_way : (b : Bool) (i : Item) → ◌≡◌ {A = Item} (elim b [ true ↦ i | false ↦ i ]) i
either_way true i = refl
either_way false i = refl

own_in_fry : (c : Cell) → put_in_fry cell_item c ≡ cell_item c
own_in_fry (Local x) = refl
own_in_fry (Hole k) = refl

mutual
  pub filled_own : (t : Phrase) → filled_by cell_item t ≡ t
  filled_own end = refl
  filled_own (then i p t) =
      ap₂ (λ (j : Item) (u : Phrase). then j p u) (item_own i) (filled_alike (put_behind cell_item i) cell_item t (λ c. either_way (binds_cell c i) (cell_item c)) ∙ filled_own t)

  item_own : (i : Item) → filled_item cell_item i ≡ i
  item_own (quot t) = ap (λ (u : Phrase). quot u) (filled_own t)
  item_own (fry t n) = ap (λ (u : Phrase). fry u n) (filled_alike (put_in_fry cell_item) cell_item t own_in_fry ∙ filled_own t)
  item_own (local x) = refl
  item_own (hole k) = refl
  item_own (lit p) = refl
  item_own (lit_arr a) = refl
  item_own (word w) = refl
  item_own (bind x) = refl
  item_own (call_effect e) = refl
  item_own (execute_effect e) = refl
  item_own next_method = refl
  item_own (made k) = refl
  item_own (next_after m) = refl
  item_own (held v) = refl
  item_own (known m) = refl

pub filled_nothing : (t : Phrase) → filled [] [] t ≡ t
filled_nothing t = filled_own t

-- What is put for each cell is an item that can be put, or the cell stays what it is.

abbrev pub Fills : (Cell → Item) → Type 0
Fills f = (c : Cell) → IsPut (f c) ⊎ (f c ≡ cell_item c)

fills_behind : (f : Cell → Item) (i : Item) → Fills f → Fills (put_behind f i)
fills_behind f i h c = by_bool (binds_cell c i) (f c) (h c)
  where
    by_bool : (b : Bool) (j : Item) → IsPut j ⊎ (j ≡ cell_item c) → IsPut (elim b [ true ↦ cell_item c | false ↦ j ]) ⊎ (◌≡◌ {A = Item} (elim b [ true ↦ cell_item c | false ↦ j ]) (cell_item c))
    by_bool true j k = inr refl
    by_bool false j k = k

fills_in_fry : (f : Cell → Item) → Fills f → Fills (put_in_fry f)
fills_in_fry f h (Local x) = h (Local x)
fills_in_fry f h (Hole k) = inr refl

-- An item that is put has no items in it, binds nothing, and stays where something else is put.

stays : (x : ℕ) (v i : Item) → IsPut i → put_local_item x v i ≡ i
stays x v (held w) h = refl
stays x v (known m) h = refl
stays x v i h = absurd h

stays_for_holes : (js : List Item) (i : Item) → IsPut i → put_holes_item js i ≡ i
stays_for_holes js (held w) h = refl
stays_for_holes js (known m) h = refl
stays_for_holes js i h = absurd h

binds_nothing : (x : ℕ) (i : Item) → IsPut i → binds_local x i ≡ false
binds_nothing x (held w) h = refl
binds_nothing x (known m) h = refl
binds_nothing x i h = absurd h

nothing_inside : (i : Item) → IsPut i → items_inside i ≡ 0
nothing_inside (held w) h = refl
nothing_inside (known m) h = refl
nothing_inside i h = absurd h

other_local : (x y : ℕ) (v : Item) → nat_eq y x ≡ false → put_local_item x v (local y) ≡ local y
other_local x y v n = let other : nat_eq x y ≡ false = grind arith in ap (λ (b : Bool). elim b [ true ↦ v | false ↦ local y ]) other

other_stays : (x : ℕ) (v j : Item) (c : Cell) → IsPut j ⊎ (j ≡ cell_item c) → same_cell c (Local x) ≡ false → put_local_item x v j ≡ j
other_stays x v j c (inl p) n = stays x v j p
other_stays x v j (Local y) (inr e) n = subst (λ (k : Item). put_local_item x v k ≡ k) (sym e) (other_local x y v n)
other_stays x v j (Hole k) (inr e) n = subst (λ (k : Item). put_local_item x v k ≡ k) (sym e) refl

-- A local is put.

is_other : (x z : ℕ) (i : Item) (a b : Bool) → binds_local x i ≡ a → binds_local z i ≡ b → not a ≡ b → nat_eq z x ≡ false
is_other x z i a b e h n = by_bool (nat_eq z x) refl a b e h n
  where
    by_bool : (d : Bool) → d ≡ nat_eq z x → (a b : Bool) → binds_local x i ≡ a → binds_local z i ≡ b → not a ≡ b → d ≡ false
    by_bool false q a b e h n = refl
    by_bool true q true true e h n = absurd cc
    by_bool true q true false e h n = let same : z ≡ x = eqb-true z x (sym q) in let clash : false ≡ true = sym h ∙ ap (λ (y : ℕ). binds_local y i) same ∙ e in absurd cc
    by_bool true q false true e h n = let same : z ≡ x = eqb-true z x (sym q) in let clash : true ≡ false = sym h ∙ ap (λ (y : ℕ). binds_local y i) same ∙ e in absurd cc
    by_bool true q false false e h n = absurd cc

cell_is_other : (x : ℕ) (c : Cell) (i : Item) (a b : Bool) → binds_local x i ≡ a → binds_cell c i ≡ b → not a ≡ b → same_cell c (Local x) ≡ false
cell_is_other x (Local z) i a b e h n = is_other x z i a b e h n
cell_is_other x (Hole k) i a b e h n = refl

binds_filled : (x : ℕ) (f : Cell → Item) (i : Item) → Fills f → binds_local x (filled_item f i) ≡ binds_local x i
binds_filled x f (local y) h = by_case (f (Local y)) (h (Local y))
  where
    by_case : (j : Item) → IsPut j ⊎ (j ≡ local y) → binds_local x j ≡ false
    by_case j (inl p) = binds_nothing x j p
    by_case j (inr e) = ap (binds_local x) e
binds_filled x f (hole k) h = by_case (f (Hole k)) (h (Hole k))
  where
    by_case : (j : Item) → IsPut j ⊎ (j ≡ hole k) → binds_local x j ≡ false
    by_case j (inl p) = binds_nothing x j p
    by_case j (inr e) = ap (binds_local x) e
binds_filled x f (quot t) h = refl
binds_filled x f (fry t n) h = refl
binds_filled x f (lit p) h = refl
binds_filled x f (lit_arr a) h = refl
binds_filled x f (word w) h = refl
binds_filled x f (bind y) h = refl
binds_filled x f (call_effect e) h = refl
binds_filled x f (execute_effect e) h = refl
binds_filled x f next_method h = refl
binds_filled x f (made k) h = refl
binds_filled x f (next_after m) h = refl
binds_filled x f (held v) h = refl
binds_filled x f (known m) h = refl

put_rest :
    (x : ℕ) (v : Item) (f : Cell → Item) (i : Item) (t : Phrase) (b : Bool) → Fills f → binds_local x i ≡ b →
    put_local x v (filled_by (put_behind f i) t) ≡ filled_by (λ c. put_local_item x v (put_behind f i c)) t →
    ◌≡◌ {A = Phrase} (elim b [ true ↦ filled_by (put_behind f i) t | false ↦ put_local x v (filled_by (put_behind f i) t) ]) (filled_by (put_behind (λ c. put_local_item x v (f c)) i) t)
put_rest x v f i t true h e rest =
    filled_alike
    (put_behind f i)
    (put_behind (λ c. put_local_item x v (f c)) i)
    t
    (λ c. in_bool (binds_cell c i) (cell_item c) (f c) (put_local_item x v (f c)) (λ free. sym (other_stays x v (f c) c (h c) (cell_is_other x c i true false e free refl))))
put_rest x v f i t false h e rest =
    rest ∙ filled_alike (λ c. put_local_item x v (put_behind f i c)) (put_behind (λ c. put_local_item x v (f c)) i) t (λ c. by_bool c (binds_cell c i) refl)
  where
    by_bool : (c : Cell) (d : Bool) → binds_cell c i ≡ d → ◌≡◌ {A = Item} (put_local_item x v (elim d [ true ↦ cell_item c | false ↦ f c ])) (elim d [ true ↦ cell_item c | false ↦ put_local_item x v (f c) ])
    by_bool c true g = other_stays x v (cell_item c) c (inr refl) (cell_is_other x c i false true e g refl)
    by_bool c false g = refl

put_in_fries : (x : ℕ) (v : Item) (f : Cell → Item) (c : Cell) → put_local_item x v (put_in_fry f c) ≡ put_in_fry (λ d. put_local_item x v (f d)) c
put_in_fries x v f (Local y) = refl
put_in_fries x v f (Hole k) = refl

mutual
  pub put_filled : (x : ℕ) (v : Item) (f : Cell → Item) (t : Phrase) → Fills f → put_local x v (filled_by f t) ≡ filled_by (λ c. put_local_item x v (f c)) t
  put_filled x v f end h = refl
  put_filled x v f (then i p t) h =
      ap₂
      (λ (j : Item) (u : Phrase). then j p u)
      (put_item x v f i h)
      (ap (λ (b : Bool). elim b [ true ↦ filled_by (put_behind f i) t | false ↦ put_local x v (filled_by (put_behind f i) t) ]) (binds_filled x f i h)
      ∙ put_rest x v f i t (binds_local x i) h refl (put_filled x v (put_behind f i) t (fills_behind f i h)))

  put_item : (x : ℕ) (v : Item) (f : Cell → Item) (i : Item) → Fills f → put_local_item x v (filled_item f i) ≡ filled_item (λ c. put_local_item x v (f c)) i
  put_item x v f (quot t) h = ap (λ (u : Phrase). quot u) (put_filled x v f t h)
  put_item x v f (fry t n) h =
      ap (λ (u : Phrase). fry u n) (put_filled x v (put_in_fry f) t (fills_in_fry f h) ∙ filled_alike (λ c. put_local_item x v (put_in_fry f c)) (put_in_fry (λ c. put_local_item x v (f c))) t (put_in_fries x v f))
  put_item x v f (local y) h = refl
  put_item x v f (hole k) h = refl
  put_item x v f (lit p) h = refl
  put_item x v f (lit_arr a) h = refl
  put_item x v f (word w) h = refl
  put_item x v f (bind y) h = refl
  put_item x v f (call_effect e) h = refl
  put_item x v f (execute_effect e) h = refl
  put_item x v f next_method h = refl
  put_item x v f (made k) h = refl
  put_item x v f (next_after m) h = refl
  put_item x v f (held w) h = refl
  put_item x v f (known m) h = refl

-- Holes are put.

holes_behind : (js : List Item) (f : Cell → Item) (i : Item) (c : Cell) → put_holes_item js (put_behind f i c) ≡ put_behind (λ d. put_holes_item js (f d)) i c
holes_behind js f i (Hole k) = refl
holes_behind js f i (Local x) = by_bool (binds_local x i)
  where
    by_bool : (b : Bool) → ◌≡◌ {A = Item} (put_holes_item js (elim b [ true ↦ local x | false ↦ f (Local x) ])) (elim b [ true ↦ local x | false ↦ put_holes_item js (f (Local x)) ])
    by_bool true = refl
    by_bool false = refl

local_stays : (js : List Item) (x : ℕ) (j : Item) → IsPut j ⊎ (j ≡ local x) → put_holes_item js j ≡ j
local_stays js x j (inl p) = stays_for_holes js j p
local_stays js x j (inr e) = subst (λ (k : Item). put_holes_item js k ≡ k) (sym e) refl

holes_in_fries : (js : List Item) (f : Cell → Item) → Fills f → (c : Cell) → put_in_fry f c ≡ put_in_fry (λ d. put_holes_item js (f d)) c
holes_in_fries js f h (Local x) = sym (local_stays js x (f (Local x)) (h (Local x)))
holes_in_fries js f h (Hole k) = refl

mutual
  pub holes_filled : (js : List Item) (f : Cell → Item) (t : Phrase) → Fills f → put_holes js (filled_by f t) ≡ filled_by (λ c. put_holes_item js (f c)) t
  holes_filled js f end h = refl
  holes_filled js f (then i p t) h =
      ap₂
      (λ (j : Item) (u : Phrase). then j p u)
      (holes_item js f i h)
      (holes_filled js (put_behind f i) t (fills_behind f i h) ∙ filled_alike (λ c. put_holes_item js (put_behind f i c)) (put_behind (λ c. put_holes_item js (f c)) i) t (holes_behind js f i))

  holes_item : (js : List Item) (f : Cell → Item) (i : Item) → Fills f → put_holes_item js (filled_item f i) ≡ filled_item (λ c. put_holes_item js (f c)) i
  holes_item js f (quot t) h = ap (λ (u : Phrase). quot u) (holes_filled js f t h)
  holes_item js f (fry t n) h = ap (λ (u : Phrase). fry u n) (filled_alike (put_in_fry f) (put_in_fry (λ c. put_holes_item js (f c))) t (holes_in_fries js f h))
  holes_item js f (local y) h = refl
  holes_item js f (hole k) h = refl
  holes_item js f (lit p) h = refl
  holes_item js f (lit_arr a) h = refl
  holes_item js f (word w) h = refl
  holes_item js f (bind y) h = refl
  holes_item js f (call_effect e) h = refl
  holes_item js f (execute_effect e) h = refl
  holes_item js f next_method h = refl
  holes_item js f (made k) h = refl
  holes_item js f (next_after m) h = refl
  holes_item js f (held w) h = refl
  holes_item js f (known m) h = refl

-- A phrase keeps its number of items and its places.

none_inside : (f : Cell → Item) (c : Cell) → Fills f → items_inside (f c) ≡ 0
none_inside f c h = by_case c (f c) (h c)
  where
    by_case : (c : Cell) (j : Item) → IsPut j ⊎ (j ≡ cell_item c) → items_inside j ≡ 0
    by_case c j (inl p) = nothing_inside j p
    by_case (Local x) j (inr e) = ap items_inside e
    by_case (Hole k) j (inr e) = ap items_inside e

mutual
  pub items_filled : (f : Cell → Item) (t : Phrase) → Fills f → items_in (filled_by f t) ≡ items_in t
  items_filled f end h = refl
  items_filled f (then i p t) h = ap₂ (λ (m n : ℕ). suc (m + n)) (inside_filled f i h) (items_filled (put_behind f i) t (fills_behind f i h))

  pub inside_filled : (f : Cell → Item) (i : Item) → Fills f → items_inside (filled_item f i) ≡ items_inside i
  inside_filled f (quot t) h = items_filled f t h
  inside_filled f (fry t n) h = items_filled (put_in_fry f) t (fills_in_fry f h)
  inside_filled f (local x) h = none_inside f (Local x) h
  inside_filled f (hole k) h = none_inside f (Hole k) h
  inside_filled f (lit p) h = refl
  inside_filled f (lit_arr a) h = refl
  inside_filled f (word w) h = refl
  inside_filled f (bind y) h = refl
  inside_filled f (call_effect e) h = refl
  inside_filled f (execute_effect e) h = refl
  inside_filled f next_method h = refl
  inside_filled f (made k) h = refl
  inside_filled f (next_after m) h = refl
  inside_filled f (held w) h = refl
  inside_filled f (known m) h = refl

pub behind_filled : (at : Literal) (f : Cell → Item) (i : Item) → Fills f → behind at (filled_item f i) ≡ behind at i
behind_filled at f i h = ap (λ (n : ℕ). record { word = at.word; around = at.around; index = suc (at.index + n) }) (inside_filled f i h)

no_places : (arrays : ℕ → Place → List Place) (p : Place) (i : Item) → IsPut i → places_at arrays p i ≡ []
no_places arrays p (held w) h = refl
no_places arrays p (known m) h = refl
no_places arrays p i h = absurd h

no_places_for : (arrays : ℕ → Place → List Place) (p : Place) (f : Cell → Item) (c : Cell) → Fills f → places_at arrays p (f c) ≡ []
no_places_for arrays p f c h = by_case c (f c) (h c)
  where
    by_case : (c : Cell) (j : Item) → IsPut j ⊎ (j ≡ cell_item c) → places_at arrays p j ≡ []
    by_case c j (inl q) = no_places arrays p j q
    by_case (Local x) j (inr e) = ap (places_at arrays p) e
    by_case (Hole k) j (inr e) = ap (places_at arrays p) e

module _ (arrays : ℕ → Place → List Place) where
  mutual
    pub places_filled : (f : Cell → Item) (t : Phrase) → Fills f → places_in arrays (filled_by f t) ≡ places_in arrays t
    places_filled f end h = refl
    places_filled f (then i p t) h = ap₂ (λ (a b : List Place). a ++ b) (places_at_filled p f i h) (places_filled (put_behind f i) t (fills_behind f i h))

    places_at_filled : (p : Place) (f : Cell → Item) (i : Item) → Fills f → places_at arrays p (filled_item f i) ≡ places_at arrays p i
    places_at_filled p f (quot t) h = ap (λ (ps : List Place). p ∷ ps) (places_filled f t h)
    places_at_filled p f (fry t n) h = ap (λ (ps : List Place). p ∷ ps) (places_filled (put_in_fry f) t (fills_in_fry f h))
    places_at_filled p f (local x) h = no_places_for arrays p f (Local x) h
    places_at_filled p f (hole k) h = no_places_for arrays p f (Hole k) h
    places_at_filled p f (lit q) h = refl
    places_at_filled p f (lit_arr a) h = refl
    places_at_filled p f (word w) h = refl
    places_at_filled p f (bind y) h = refl
    places_at_filled p f (call_effect e) h = refl
    places_at_filled p f (execute_effect e) h = refl
    places_at_filled p f next_method h = refl
    places_at_filled p f (made k) h = refl
    places_at_filled p f (next_after m) h = refl
    places_at_filled p f (held w) h = refl
    places_at_filled p f (known m) h = refl

-- What a frame has for a cell: the item of the last cell that holds the same.

abbrev pub or_else : Option Item → Option Item → Option Item
or_else (Some i) o = Some i
or_else None o = o

abbrev pub found : List Cell → List Item → Cell → Option Item
found [] is c = None
found (d ∷ ds) [] c = None
found (d ∷ ds) (i ∷ is) c = or_else (found ds is c) (cond (same_cell c d) (Some i) None)

or_none : (o : Option Item) → or_else o None ≡ o
or_none None = refl
or_none (Some i) = refl

or_both : (o q r : Option Item) → or_else (or_else o q) r ≡ or_else o (or_else q r)
or_both None q r = refl
or_both (Some i) q r = refl

-- it is what stands under the cell's number
abbrev FoundAt : List Item → Option ℕ → Option Item → Type 0
FoundAt is None o = o ≡ None
FoundAt is (Some m) o = (i : Item) × (slice_get is m ≡ Some i) × (o ≡ Some i)

get_behind : (bs : List Item) (j : Item) (js : List Item) (k : ℕ) → k ≡ length bs → slice_get (bs ++ j ∷ js) k ≡ Some j
get_behind [] j js k e = ap (λ (n : ℕ). slice_get (j ∷ js) n) e
get_behind (b ∷ bs) j js zero e = absurd (omega (arith, e))
get_behind (b ∷ bs) j js (suc k) e = get_behind bs j js k (omega (arith, e))

found_next :
    (bs : List Item) (j : Item) (js : List Item) (k : ℕ) (b : Bool) (o : Option ℕ) (f : Option Item) → k ≡ length bs → FoundAt (bs ++ j ∷ js) o f →
    FoundAt (bs ++ j ∷ js) (elim o [ Some m ↦ Some m | None ↦ elim b [ true ↦ Some k | false ↦ None ] ]) (or_else f (cond b (Some j) None))
found_next bs j js k b (Some m) f e h = (h.0, h.1, ap (λ (g : Option Item). or_else g (cond b (Some j) None)) h.2)
found_next bs j js k true None f e h = (j, get_behind bs j js k e, ap (λ (g : Option Item). or_else g (Some j)) h)
found_next bs j js k false None f e h = ap (λ (g : Option Item). or_else g None) h

found_at : (bs js : List Item) (cs : List Cell) (c : Cell) (k : ℕ) → k ≡ length bs → length js ≡ length cs → FoundAt (bs ++ js) (number_from k cs c) (found cs js c)
found_at bs js [] c k e n = refl
found_at bs [] (d ∷ ds) c k e n = absurd (omega (arith, n))
found_at bs (j ∷ js) (d ∷ ds) c k e n =
    found_next bs j js k (same_cell c d) (number_from (suc k) ds c) (found ds js c) e
    (subst (λ (l : List Item). FoundAt l (number_from (suc k) ds c) (found ds js c)) (append_assoc bs (j ∷ []) js) (found_at (bs ++ j ∷ []) js ds c (suc k) (grind (arith, common_steps)) (omega (arith, n))))

pub item_found : (cs : List Cell) (is : List Item) (c : Cell) → length is ≡ length cs → item_for cs is c ≡ item_or (cell_item c) (found cs is c)
item_found cs is c n = by_number (cell_number cs c) (found_at [] is cs c 0 refl n)
  where
    by_number : (o : Option ℕ) → FoundAt is o (found cs is c) → item_in is (cell_item c) o ≡ item_or (cell_item c) (found cs is c)
    by_number None h = ap (item_or (cell_item c)) (sym h)
    by_number (Some m) h = ap (item_or (cell_item c)) (h.1 ∙ sym h.2)

pub item_at_cell : (cs : List Cell) (is : List Item) (c : Cell) (k : ℕ) → length is ≡ length cs → cell_number cs c ≡ Some k → (i : Item) × (slice_get is k ≡ Some i) × (item_for cs is c ≡ i)
item_at_cell cs is c k n e =
    let h = subst (λ (o : Option ℕ). FoundAt is o (found cs is c)) e (found_at [] is cs c 0 refl n) in (h.0, h.1, ap (item_in is (cell_item c)) e ∙ ap (item_or (cell_item c)) h.1)

-- in a longer frame
pub found_append : (cs ds : List Cell) (is js : List Item) (c : Cell) → length is ≡ length cs → found (cs ++ ds) (is ++ js) c ≡ or_else (found ds js c) (found cs is c)
found_append [] ds [] js c n = sym (or_none (found ds js c))
found_append [] ds (i ∷ is) js c n = absurd (omega (arith, n))
found_append (d ∷ cs) ds [] js c n = absurd (omega (arith, n))
found_append (d ∷ cs) ds (i ∷ is) js c n =
    ap (λ (o : Option Item). or_else o (cond (same_cell c d) (Some i) None)) (found_append cs ds is js c (omega (arith, n))) ∙ or_both (found ds js c) (found cs is c) (cond (same_cell c d) (Some i) None)

pub item_last : (cs : List Cell) (is : List Item) (d : Cell) (i : Item) (c : Cell) → length is ≡ length cs → item_for (cs ++ d ∷ []) (is ++ i ∷ []) c ≡ cond (same_cell c d) i (item_for cs is c)
item_last cs is d i c n =
    item_found (cs ++ d ∷ []) (is ++ i ∷ []) c (grind (arith, common_steps))
    ∙ ap (item_or (cell_item c)) (found_append cs (d ∷ []) is (i ∷ []) c n)
    ∙ by_bool (same_cell c d)
  where
    by_bool : (b : Bool) → item_or (cell_item c) (or_else (cond b (Some i) None) (found cs is c)) ≡ cond b i (item_for cs is c)
    by_bool true = refl
    by_bool false = sym (item_found cs is c n)

-- nothing holds the same
none_next : (i : Item) (b a : Bool) (f : Option Item) → b || a ≡ false → (a ≡ false → f ≡ None) → or_else f (cond b (Some i) None) ≡ None
none_next i true a f h g = absurd cc
none_next i false a f h g = or_none f ∙ g h

none_found : (cs : List Cell) (is : List Item) (c : Cell) → list_any (same_cell c) cs ≡ false → found cs is c ≡ None
none_found [] is c h = refl
none_found (d ∷ ds) [] c h = refl
none_found (d ∷ ds) (i ∷ is) c h = none_next i (same_cell c d) (list_any (same_cell c) ds) (found ds is c) h (none_found ds is c)

-- something does
is_next : (i : Item) (b a : Bool) (f : Option Item) → b || a ≡ true → (a ≡ true → (j : Item) × (f ≡ Some j)) → (j : Item) × (or_else f (cond b (Some i) None) ≡ Some j)
is_next i b true f h g = let k = g refl in (k.0, ap (λ (o : Option Item). or_else o (cond b (Some i) None)) k.1)
is_next i true false None h g = (i, refl)
is_next i true false (Some j) h g = (j, refl)
is_next i false false f h g = absurd cc

is_found : (cs : List Cell) (is : List Item) (c : Cell) → length is ≡ length cs → list_any (same_cell c) cs ≡ true → (i : Item) × (found cs is c ≡ Some i)
is_found [] is c n h = absurd cc
is_found (d ∷ ds) [] c n h = absurd (omega (arith, n))
is_found (d ∷ ds) (i ∷ is) c n h = is_next i (same_cell c d) (list_any (same_cell c) ds) (found ds is c) h (is_found ds is c (omega (arith, n)))

-- Holes.

pub holes_count : (n : ℕ) → length (hole_cells n) ≡ n
holes_count zero = refl
holes_count (suc n) = grind (arith, common_steps, holes_count n)

hole_number : (n j : ℕ) → cell_number (hole_cells n) (Hole j) ≡ cond (nat_lt j n) (Some j) None
hole_number zero j = let none : nat_lt j zero ≡ false = grind arith in sym (ap (λ (b : Bool). cond b (Some j) None) none)
hole_number (suc n) j =
    number_last 0 (hole_cells n) (Hole n) (Hole j)
    ∙ ap (λ (o : Option ℕ). cond (nat_eq j n) (Some (0 + length (hole_cells n))) o) (hole_number n j)
    ∙ by_bool (nat_eq j n) refl
  where
    by_bool : (b : Bool) → b ≡ nat_eq j n → cond b (Some (0 + length (hole_cells n))) (cond (nat_lt j n) (Some j) None) ≡ cond (nat_lt j (suc n)) (Some j) None
    by_bool true e =
        let same : j ≡ n = eqb-true j n (sym e) in
        let below : nat_lt j (suc n) ≡ true = grind arith in
        let many : 0 + length (hole_cells n) ≡ j = omega (arith, holes_count n) in
        ap (λ (m : ℕ). Some m) many ∙ sym (ap (λ (b : Bool). cond b (Some j) None) below)
    by_bool false e = let below : nat_lt j n ≡ nat_lt j (suc n) = grind arith in ap (λ (b : Bool). cond b (Some j) None) below

get_past : (js : List Item) (j : ℕ) → length js ≤ j → slice_get js j ≡ None
get_past [] j le = refl
get_past (i ∷ is) zero le = absurd (omega (arith, le))
get_past (i ∷ is) (suc j) le = get_past is j (omega (arith, le))

found_hole : (n j : ℕ) (js : List Item) → length js ≡ n → found (hole_cells n) js (Hole j) ≡ slice_get js j
found_hole n j js e = by_bool (nat_lt j n) refl (subst (λ (o : Option ℕ). FoundAt js o (found (hole_cells n) js (Hole j))) (hole_number n j) (found_at [] js (hole_cells n) (Hole j) 0 refl (e ∙ sym (holes_count n))))
  where
    by_bool : (b : Bool) → b ≡ nat_lt j n → FoundAt js (cond b (Some j) None) (found (hole_cells n) js (Hole j)) → found (hole_cells n) js (Hole j) ≡ slice_get js j
    by_bool true l h = h.2 ∙ sym h.1
    by_bool false l h = let past : length js ≤ j = grind arith in h ∙ sym (get_past js j past)

no_local : (n x : ℕ) → list_any (same_cell (Local x)) (hole_cells n) ≡ false
no_local zero x = refl
no_local (suc n) x = list_any-append (same_cell (Local x)) (hole_cells n) (Hole n ∷ []) ∙ ap (λ (b : Bool). b || false) (no_local n x)

-- What a quotation or fry keeps.

abbrev pub kept_items : List Cell → List Item → Item → List Item
kept_items [] is i = []
kept_items (c ∷ cs) [] i = []
kept_items (c ∷ cs) (j ∷ js) i = cond (keeps_cell i c cs) (j ∷ kept_items cs js i) (kept_items cs js i)

kept_next :
    (frame : List Item) (k : ℕ) (j : Item) (ks : List ℕ) (js : List Item) (b : Bool) → slice_get frame k ≡ Some j → items_at ks frame ≡ Some js →
    items_at (elim b [ true ↦ k ∷ ks | false ↦ ks ]) frame ≡ Some (cond b (j ∷ js) js)
kept_next frame k j ks js true e h =
    ap (λ (o : Option Item). elim o [ None ↦ None | Some i ↦ elim (items_at ks frame) [ None ↦ None | Some is ↦ Some (i ∷ is) ] ]) e
    ∙ ap (λ (o : Option (List Item)). elim o [ None ↦ None | Some is ↦ Some (j ∷ is) ]) h
kept_next frame k j ks js false e h = h

kept_at : (bs js : List Item) (cs : List Cell) (i : Item) (k : ℕ) → k ≡ length bs → length js ≡ length cs → items_at (captured_from k cs i) (bs ++ js) ≡ Some (kept_items cs js i)
kept_at bs js [] i k e n = refl
kept_at bs [] (c ∷ cs) i k e n = absurd (omega (arith, n))
kept_at bs (j ∷ js) (c ∷ cs) i k e n =
    kept_next (bs ++ j ∷ js) k j (captured_from (suc k) cs i) (kept_items cs js i) (keeps_cell i c cs) (get_behind bs j js k e)
    (subst (λ (l : List Item). items_at (captured_from (suc k) cs i) l ≡ Some (kept_items cs js i)) (append_assoc bs (j ∷ []) js) (kept_at (bs ++ j ∷ []) js cs i (suc k) (grind (arith, common_steps)) (omega (arith, n))))

pub captured_items : (cs : List Cell) (is : List Item) (i : Item) → length is ≡ length cs → items_at (captured cs i) is ≡ Some (kept_items cs is i)
captured_items cs is i n = kept_at [] is cs i 0 refl n

kept_more : (c : Cell) (cs : List Cell) (j : Item) (js : List Item) (b : Bool) → length js ≡ length cs → length (cond b (j ∷ js) js) ≡ length {A = Cell} (elim b [ true ↦ c ∷ cs | false ↦ cs ])
kept_more c cs j js true h = ap suc h
kept_more c cs j js false h = h

pub kept_count : (cs : List Cell) (is : List Item) (i : Item) → length is ≡ length cs → length (kept_items cs is i) ≡ length (kept_cells cs i)
kept_count [] is i n = refl
kept_count (c ∷ cs) [] i n = absurd (omega (arith, n))
kept_count (c ∷ cs) (j ∷ js) i n = kept_more c (kept_cells cs i) j (kept_items cs js i) (keeps_cell i c cs) (kept_count cs js i (omega (arith, n)))

captured_more : (k : ℕ) (ks : List ℕ) (c : Cell) (cs : List Cell) (b : Bool) → length ks ≡ length cs → length {A = ℕ} (elim b [ true ↦ k ∷ ks | false ↦ ks ]) ≡ length {A = Cell} (elim b [ true ↦ c ∷ cs | false ↦ cs ])
captured_more k ks c cs true h = ap suc h
captured_more k ks c cs false h = h

pub captured_count : (k : ℕ) (cs : List Cell) (i : Item) → length (captured_from k cs i) ≡ length (kept_cells cs i)
captured_count k [] i = refl
captured_count k (c ∷ cs) i = captured_more k (captured_from (suc k) cs i) c (kept_cells cs i) (keeps_cell i c cs) (captured_count (suc k) cs i)

-- it is found where it was found before
hidden_before :
    (d c : Cell) (cs : List Cell) (i j : Item) (f : Option Item) (s : Bool) → s ≡ same_cell c d → false ≡ keeps_cell i d cs → item_asks c i ≡ true →
    ((b : Bool) → list_any (same_cell c) cs ≡ b → b ≡ true → (k : Item) × (f ≡ Some k)) → f ≡ or_else f (cond s (Some j) None)
hidden_before d c cs i j f false e h a g = sym (or_none f)
hidden_before d c cs i j f true e h a g = by_bool (list_any (same_cell c) cs) refl (subst (λ (x : Cell). false ≡ keeps_cell i x cs) (sym (same_is c d (sym e))) h)
  where
    by_bool : (b : Bool) → list_any (same_cell c) cs ≡ b → false ≡ item_asks c i && not (list_any (same_cell c) cs) → f ≡ or_else f (Some j)
    by_bool true q h = let k = g true q refl in k.1 ∙ sym (ap (λ (o : Option Item). or_else o (Some j)) k.1)
    by_bool false q h = let clash : false ≡ true = h ∙ ap₂ (λ (x y : Bool). x && not y) a q in absurd cc

kept_found_next :
    (d c : Cell) (cs ks : List Cell) (i j : Item) (js is : List Item) (f : Option Item) (b : Bool) → b ≡ keeps_cell i d cs → item_asks c i ≡ true →
    ((x : Bool) → list_any (same_cell c) cs ≡ x → x ≡ true → (k : Item) × (f ≡ Some k)) → found ks is c ≡ f →
    found (elim b [ true ↦ d ∷ ks | false ↦ ks ]) (cond b (j ∷ is) is) c ≡ or_else f (cond (same_cell c d) (Some j) None)
kept_found_next d c cs ks i j js is f true e a g h = ap (λ (o : Option Item). or_else o (cond (same_cell c d) (Some j) None)) h
kept_found_next d c cs ks i j js is f false e a g h = h ∙ hidden_before d c cs i j f (same_cell c d) refl e a g

pub kept_found : (cs : List Cell) (is : List Item) (i : Item) (c : Cell) → length is ≡ length cs → item_asks c i ≡ true → found (kept_cells cs i) (kept_items cs is i) c ≡ found cs is c
kept_found [] is i c n a = refl
kept_found (d ∷ cs) [] i c n a = absurd (omega (arith, n))
kept_found (d ∷ cs) (j ∷ js) i c n a =
    let m : length js ≡ length cs = omega (arith, n) in
    kept_found_next d c cs (kept_cells cs i) i j js (kept_items cs js i) (found cs js c) (keeps_cell i d cs) refl a (λ x q t. is_found cs js c m (q ∙ t)) (kept_found cs js i c m a)

pub kept_same : (cs : List Cell) (is : List Item) (i : Item) (c : Cell) → length is ≡ length cs → item_asks c i ≡ true → item_for (kept_cells cs i) (kept_items cs is i) c ≡ item_for cs is c
kept_same cs is i c n a =
    item_found (kept_cells cs i) (kept_items cs is i) c (kept_count cs is i n) ∙ ap (item_or (cell_item c)) (kept_found cs is i c n a) ∙ sym (item_found cs is c n)

-- Frames of items that are put.

pub put_among : (is : List Item) (k : ℕ) (i : Item) → ArePut is → slice_get is k ≡ Some i → IsPut i
put_among [] k i h e = absurd cc
put_among (j ∷ js) zero i h e = let same : j ≡ i = cc in subst (λ (x : Item). IsPut x) same h.0
put_among (j ∷ js) (suc k) i h e = put_among js k i h.1 e

pub put_both : (is js : List Item) → ArePut is → ArePut js → ArePut (is ++ js)
put_both [] js h g = g
put_both (i ∷ is) js h g = (h.0, put_both is js h.1 g)

put_kept_next : (j : Item) (js : List Item) (b : Bool) → IsPut j → ArePut js → ArePut (cond b (j ∷ js) js)
put_kept_next j js true h g = (h, g)
put_kept_next j js false h g = g

pub put_kept : (cs : List Cell) (is : List Item) (i : Item) → ArePut is → ArePut (kept_items cs is i)
put_kept [] is i h = tt
put_kept (c ∷ cs) [] i h = tt
put_kept (c ∷ cs) (j ∷ js) i h = put_kept_next j (kept_items cs js i) (keeps_cell i c cs) h.0 (put_kept cs js i h.1)

found_put : (cs : List Cell) (is : List Item) (c : Cell) → ArePut is → (o : Option Item) → found cs is c ≡ o → IsPut (item_or (cell_item c) o) ⊎ (item_or (cell_item c) o ≡ cell_item c)
found_put cs is c h None e = inr refl
found_put cs is c h (Some i) e = inl (found_is_put cs is c i h e)
  where
    next : (j : Item) (b : Bool) (f : Option Item) (i : Item) → IsPut j → ((k : Item) → f ≡ Some k → IsPut k) → or_else f (cond b (Some j) None) ≡ Some i → IsPut i
    next j b (Some k) i p g e = let same : k ≡ i = cc in subst (λ (x : Item). IsPut x) same (g k refl)
    next j true None i p g e = let same : j ≡ i = cc in subst (λ (x : Item). IsPut x) same p
    next j false None i p g e = absurd cc

    found_is_put : (cs : List Cell) (is : List Item) (c : Cell) (i : Item) → ArePut is → found cs is c ≡ Some i → IsPut i
    found_is_put [] is c i h e = absurd cc
    found_is_put (d ∷ ds) [] c i h e = absurd cc
    found_is_put (d ∷ ds) (j ∷ js) c i h e = next j (same_cell c d) (found ds js c) i h.0 (λ k q. found_is_put ds js c k h.1 q) e

pub fills : (cs : List Cell) (is : List Item) → length is ≡ length cs → ArePut is → Fills (item_for cs is)
fills cs is n h c = subst (λ (i : Item). IsPut i ⊎ (i ≡ cell_item c)) (sym (item_found cs is c n)) (found_put cs is c h (found cs is c) refl)

-- A local that is bound is a cell more.

pub bound_filled :
    (x : ℕ) (v : Item) (cs : List Cell) (is : List Item) (t : Phrase) → length is ≡ length cs → ArePut is →
    put_local x v (filled_by (put_behind (item_for cs is) (bind x)) t) ≡ filled (cs ++ Local x ∷ []) (is ++ v ∷ []) t
bound_filled x v cs is t n h =
    put_filled x v (put_behind (item_for cs is) (bind x)) t (fills_behind (item_for cs is) (bind x) (fills cs is n h))
    ∙ filled_alike (λ c. put_local_item x v (put_behind (item_for cs is) (bind x) c)) (item_for (cs ++ Local x ∷ []) (is ++ v ∷ [])) t (λ c. at_cell c ∙ sym (item_last cs is (Local x) v c n))
  where
    is_put : (y : ℕ) (b : Bool) → b ≡ nat_eq y x → ◌≡◌ {A = Item} (put_local_item x v (elim b [ true ↦ local y | false ↦ item_for cs is (Local y) ])) (cond b v (item_for cs is (Local y)))
    is_put y true e = let same : nat_eq x y ≡ true = grind arith in ap (λ (b : Bool). elim b [ true ↦ v | false ↦ local y ]) same
    is_put y false e = other_stays x v (item_for cs is (Local y)) (Local y) (fills cs is n h (Local y)) (sym e)

    at_cell : (c : Cell) → put_local_item x v (put_behind (item_for cs is) (bind x) c) ≡ cond (same_cell c (Local x)) v (item_for cs is c)
    at_cell (Local y) = is_put y (nat_eq y x) refl
    at_cell (Hole k) = other_stays x v (item_for cs is (Hole k)) (Hole k) (fills cs is n h (Hole k)) refl

-- A quotation keeps what it asks for.

pub quotation_filled : (cs : List Cell) (is : List Item) (t : Phrase) → length is ≡ length cs → filled cs is t ≡ filled (inner_cells cs (quot t)) (kept_items cs is (quot t)) t
quotation_filled cs is t n =
    filled_same (item_for cs is) (item_for (kept_cells cs (quot t)) (kept_items cs is (quot t))) t (λ c a. sym (kept_same cs is (quot t) c n a))
    ∙ ap (λ (ds : List Cell). filled ds (kept_items cs is (quot t)) t) (sym (append-nil (kept_cells cs (quot t))))

-- And a fry, whose holes stand behind that.

no_hole_next : (j : ℕ) (d : Cell) (ds cs : List Cell) (t : Phrase) (n : ℕ) (b : Bool) → b ≡ keeps_cell (fry t n) d cs → list_any (same_cell (Hole j)) ds ≡ false → list_any (same_cell (Hole j)) (elim b [ true ↦ d ∷ ds | false ↦ ds ]) ≡ false
no_hole_next j d ds cs t n false e h = h
no_hole_next j (Local x) ds cs t n true e h = h
no_hole_next j (Hole k) ds cs t n true e h = absurd cc

no_hole : (j : ℕ) (cs : List Cell) (t : Phrase) (n : ℕ) → list_any (same_cell (Hole j)) (kept_cells cs (fry t n)) ≡ false
no_hole j [] t n = refl
no_hole j (d ∷ cs) t n = no_hole_next j d (kept_cells cs (fry t n)) cs t n (keeps_cell (fry t n) d cs) refl (no_hole j cs t n)

pub fry_filled :
    (cs : List Cell) (is js : List Item) (t : Phrase) (n : ℕ) → length is ≡ length cs → ArePut is → length js ≡ n →
    put_holes js (filled_by (put_in_fry (item_for cs is)) t) ≡ filled (inner_cells cs (fry t n)) (kept_items cs is (fry t n) ++ js) t
fry_filled cs is js t n m h e =
    holes_filled js (put_in_fry (item_for cs is)) t (fills_in_fry (item_for cs is) (fills cs is m h))
    ∙ filled_same (λ c. put_holes_item js (put_in_fry (item_for cs is) c)) (item_for (kept ++ hole_cells n) (items ++ js)) t at_cell
  where
    kept : List Cell
    kept = kept_cells cs (fry t n)

    items : List Item
    items = kept_items cs is (fry t n)

    many : length items ≡ length kept
    many = kept_count cs is (fry t n) m

    all : length (items ++ js) ≡ length (kept ++ hole_cells n)
    all = length-append items js ∙ ap₂ (λ (x y : ℕ). x + y) many (e ∙ sym (holes_count n)) ∙ sym (length-append kept (hole_cells n))

    longer : (c : Cell) → item_for (kept ++ hole_cells n) (items ++ js) c ≡ item_or (cell_item c) (or_else (found (hole_cells n) js c) (found kept items c))
    longer c = item_found (kept ++ hole_cells n) (items ++ js) c all ∙ ap (item_or (cell_item c)) (found_append kept (hole_cells n) items js c many)

    hole_item : (k : ℕ) (o : Option Item) → item_or_hole k o ≡ item_or (hole k) (or_else o None)
    hole_item k None = refl
    hole_item k (Some i) = refl

    at_cell : (c : Cell) → asks c t ≡ true → put_holes_item js (put_in_fry (item_for cs is) c) ≡ item_for (kept ++ hole_cells n) (items ++ js) c
    at_cell (Local x) a =
        local_stays js x (item_for cs is (Local x)) (fills cs is m h (Local x))
        ∙ sym (kept_same cs is (fry t n) (Local x) m a)
        ∙ item_found kept items (Local x) many
        ∙ ap (λ (o : Option Item). item_or (local x) (or_else o (found kept items (Local x)))) (sym (none_found (hole_cells n) js (Local x) (no_local n x)))
        ∙ sym (longer (Local x))
    at_cell (Hole k) a =
        hole_item k (slice_get js k)
        ∙ ap₂ (λ (o q : Option Item). item_or (hole k) (or_else o q)) (sym (found_hole n k js e)) (sym (none_found kept items (Hole k) (no_hole k cs t n)))
        ∙ sym (longer (Hole k))
