-- Each quotation and fry asks in its phrase for the cells with which that begins, and none of these hides another.
use Rattle.std.proofs.Common.{◌≡◌, ◌≤◌, ◌<◌, ℕ, zero, suc, ◌+◌, List, [], ◌∷◌, ◌++◌, Bool, true, false, ◌||◌, not, nat_eq, Option, Some, None, slice_get, refl, ap, subst, ◌∙◌, arith}
use Rattle.std.specs.List.{list_any}
use Rattle.std.proofs.lemmas.Bool.{eqb-true}
use Rattle.std.proofs.lemmas.List.Folds.{list_any-append}
use Rattle.fac_lang.specs.Phrases.{Phrase, end, Item, quot, fry}
use Rattle.fac_lang.specs.Whole.{has_hole, has_holes}
use Rattle.fac_locals.specs.declared.cell.Cell.{Cell}
use Rattle.fac_locals.specs.declared.cell.Cell.TheVariants.{Local, Hole}
use Rattle.fac_locals.specs.Cells.{same_cell, number_from, asks, item_asks, keeps_cell, kept_cells, hole_cells, inner_cells}
use Rattle.fac_locals.proofs.FrameLaws.{same_self}
use Rattle.fac_abs.proofs.EqualMarks.{and_first, and_second}
use Rattle.fac_check.proofs.AskedCells.{same_holes, fry_asked}
use Rattle.fac_check.proofs.ShownCells.{ShowsAll}

-- a phrase asks for each of these cells
abbrev AsksEach : Phrase → List Cell → Type 0
AsksEach t [] = Unit {0}
AsksEach t (c ∷ cs) = (asks c t ≡ true) × AsksEach t cs

both_ask : (t : Phrase) (cs ds : List Cell) → AsksEach t cs → AsksEach t ds → AsksEach t (cs ++ ds)
both_ask t [] ds h k = k
both_ask t (c ∷ cs) ds h k = (h.0, both_ask t cs ds h.1 k)

asked_at : (t : Phrase) (cs : List Cell) (k : ℕ) (c : Cell) → AsksEach t cs → slice_get cs k ≡ Some c → asks c t ≡ true
asked_at t [] k c h e = absurd (cc)
asked_at t (d ∷ ds) zero c h e = let same : d ≡ c = cc in subst (λ (x : Cell). asks x t ≡ true) same h.0
asked_at t (d ∷ ds) (suc k) c h e = asked_at t ds k c h.1 e

holes_ask : (n : ℕ) (t : Phrase) → has_holes n t ≡ true → AsksEach t (hole_cells n)
holes_ask zero t h = tt
holes_ask (suc n) t h = both_ask t (hole_cells n) (Hole n ∷ []) (holes_ask n t (and_first (has_holes n t) (has_hole n t) h)) (same_holes n t ∙ and_second (has_holes n t) (has_hole n t) h, tt)

kept_ask : (cs : List Cell) (i : Item) (t : Phrase) → ((c : Cell) → item_asks c i ≡ true → asks c t ≡ true) → AsksEach t (kept_cells cs i)
kept_ask [] i t f = tt
kept_ask (d ∷ ds) i t f = by_bool (keeps_cell i d ds) refl (kept_ask ds i t f)
  where
    by_bool : (b : Bool) → keeps_cell i d ds ≡ b → AsksEach t (kept_cells ds i) → AsksEach t (elim b [ true ↦ d ∷ kept_cells ds i | false ↦ kept_cells ds i ])
    by_bool true h later = (f d (and_first (item_asks d i) (not (list_any (same_cell d) ds)) h), later)
    by_bool false h later = later

-- no later one of these cells hides an earlier one
abbrev Distinct : List Cell → Type 0
Distinct [] = Unit {0}
Distinct (c ∷ cs) = (list_any (same_cell c) cs ≡ false) × Distinct cs

none_next : (k : ℕ) (o : Option ℕ) (a b : Bool) → (a || b) ≡ false → (b ≡ false → o ≡ None) → ◌≡◌ {A = Option ℕ} (elim o [ Some j ↦ Some j | None ↦ elim a [ true ↦ Some k | false ↦ None ] ]) None
none_next k o true b h f = absurd (cc)
none_next k None false b h f = refl
none_next k (Some j) false b h f = f h

none_numbered : (k : ℕ) (cs : List Cell) (c : Cell) → list_any (same_cell c) cs ≡ false → number_from k cs c ≡ None
none_numbered k [] c h = refl
none_numbered k (d ∷ ds) c h = none_next k (number_from (suc k) ds c) (same_cell c d) (list_any (same_cell c) ds) h (λ e. none_numbered (suc k) ds c e)

number_here : (k : ℕ) (o : Option ℕ) (a : Bool) → o ≡ None → a ≡ true → ◌≡◌ {A = Option ℕ} (elim o [ Some j ↦ Some j | None ↦ elim a [ true ↦ Some k | false ↦ None ] ]) (Some k)
number_here k None true e f = refl
number_here k None false e f = absurd (cc)
number_here k (Some j) a e f = absurd (cc)

number_later : (k n : ℕ) (o : Option ℕ) (a : Bool) → o ≡ Some n → ◌≡◌ {A = Option ℕ} (elim o [ Some j ↦ Some j | None ↦ elim a [ true ↦ Some k | false ↦ None ] ]) (Some n)
number_later k n (Some j) a e = e
number_later k n None a e = absurd (cc)

own_at : (k : ℕ) (cs : List Cell) (j n : ℕ) (c : Cell) → Distinct cs → slice_get cs j ≡ Some c → j + k ≡ n → number_from k cs c ≡ Some n
own_at k [] j n c h e s = absurd (cc)
own_at k (d ∷ ds) zero n c h e s =
    let same : d ≡ c = cc in
    let here : k ≡ n = omega (arith, s) in
    subst (λ (x : Cell). number_from k (d ∷ ds) x ≡ Some n) same (number_here k (number_from (suc k) ds d) (same_cell d d) (none_numbered (suc k) ds d h.0) (same_self d) ∙ ap (λ (m : ℕ). Some m) here)
own_at k (d ∷ ds) (suc j) n c h e s = number_later k n (number_from (suc k) ds c) (same_cell c d) (own_at (suc k) ds j n c h.1 e (omega (arith, s)))

or_none : (a l m : Bool) → (a || l) ≡ false → (l ≡ false → m ≡ false) → (a || m) ≡ false
or_none true l m h f = h
or_none false l m h f = f h

or_second : (a l : Bool) → (a || l) ≡ false → l ≡ false
or_second true l h = absurd (cc)
or_second false l h = h

neither : (a b : Bool) → a ≡ false → b ≡ false → (a || b) ≡ false
neither true b h k = h
neither false b h k = k

not_true : (b : Bool) → not b ≡ true → b ≡ false
not_true true h = absurd (cc)
not_true false h = refl

none_kept : (c d : Cell) (ks : List Cell) (b l : Bool) → (same_cell c d || l) ≡ false → (l ≡ false → list_any (same_cell c) ks ≡ false) → list_any (same_cell c) (elim b [ true ↦ d ∷ ks | false ↦ ks ]) ≡ false
none_kept c d ks true l h f = or_none (same_cell c d) l (list_any (same_cell c) ks) h f
none_kept c d ks false l h f = f (or_second (same_cell c d) l h)

kept_none : (cs : List Cell) (i : Item) (c : Cell) → list_any (same_cell c) cs ≡ false → list_any (same_cell c) (kept_cells cs i) ≡ false
kept_none [] i c h = refl
kept_none (d ∷ ds) i c h = none_kept c d (kept_cells ds i) (keeps_cell i d ds) (list_any (same_cell c) ds) h (λ e. kept_none ds i c e)

kept_distinct : (cs : List Cell) (i : Item) → Distinct (kept_cells cs i)
kept_distinct [] i = tt
kept_distinct (d ∷ ds) i = by_bool (keeps_cell i d ds) refl (kept_distinct ds i)
  where
    by_bool : (b : Bool) → keeps_cell i d ds ≡ b → Distinct (kept_cells ds i) → Distinct (elim b [ true ↦ d ∷ kept_cells ds i | false ↦ kept_cells ds i ])
    by_bool true h later = (kept_none ds i d (not_true (list_any (same_cell d) ds) (and_second (item_asks d i) (not (list_any (same_cell d) ds)) h)), later)
    by_bool false h later = later

-- none of the first cells is among the others
abbrev Clear : List Cell → List Cell → Type 0
Clear ys [] = Unit {0}
Clear ys (x ∷ xs) = (list_any (same_cell x) ys ≡ false) × Clear ys xs

clear_both : (ys xs zs : List Cell) → Clear ys xs → Clear ys zs → Clear ys (xs ++ zs)
clear_both ys [] zs h k = k
clear_both ys (x ∷ xs) zs h k = (h.0, clear_both ys xs zs h.1 k)

distinct_both : (xs ys : List Cell) → Distinct xs → Distinct ys → Clear ys xs → Distinct (xs ++ ys)
distinct_both [] ys h k f = k
distinct_both (x ∷ xs) ys h k f = (list_any-append (same_cell x) xs ys ∙ neither (list_any (same_cell x) xs) (list_any (same_cell x) ys) h.0 f.0, distinct_both xs ys h.1 k f.1)

other_hole : (j n : ℕ) → j < n → list_any (same_cell (Hole j)) (Hole n ∷ []) ≡ false
other_hole j n l = by_bool (nat_eq j n) refl
  where
    by_bool : (b : Bool) → nat_eq j n ≡ b → (b || false) ≡ false
    by_bool true e = (let same = eqb-true j n e in absurd (omega (arith, l, same)))
    by_bool false e = refl

holes_clear : (m n : ℕ) → m ≤ n → Clear (Hole n ∷ []) (hole_cells m)
holes_clear zero n l = tt
holes_clear (suc m) n l = clear_both (Hole n ∷ []) (hole_cells m) (Hole m ∷ []) (holes_clear m n (omega (arith, l))) (other_hole m n (omega (arith, l)), tt)

holes_distinct : (n : ℕ) → Distinct (hole_cells n)
holes_distinct zero = tt
holes_distinct (suc n) = distinct_both (hole_cells n) (Hole n ∷ []) (holes_distinct n) (refl, tt) (holes_clear n n (omega arith))

no_local : (n x : ℕ) → list_any (same_cell (Local x)) (hole_cells n) ≡ false
no_local zero x = refl
no_local (suc n) x = list_any-append (same_cell (Local x)) (hole_cells n) (Hole n ∷ []) ∙ ap (λ (b : Bool). b || false) (no_local n x)

-- a fry keeps locals alone
fry_clear : (cs : List Cell) (t : Phrase) (n m : ℕ) → Clear (hole_cells m) (kept_cells cs (fry t n))
fry_clear [] t n m = tt
fry_clear (Local x ∷ ds) t n m = by_bool (keeps_cell (fry t n) (Local x) ds) (fry_clear ds t n m)
  where
    by_bool : (b : Bool) → Clear (hole_cells m) (kept_cells ds (fry t n)) → Clear (hole_cells m) (elim b [ true ↦ Local x ∷ kept_cells ds (fry t n) | false ↦ kept_cells ds (fry t n) ])
    by_bool true later = (no_local m x, later)
    by_bool false later = later
fry_clear (Hole k ∷ ds) t n m = fry_clear ds t n m

no_clear : (xs : List Cell) → Clear [] xs
no_clear [] = tt
no_clear (x ∷ xs) = (refl, no_clear xs)

shows_list : (cs : List Cell) (t : Phrase) → AsksEach t cs → Distinct cs → ShowsAll cs t
shows_list cs t h d = record { asked = λ k c e. asked_at t cs k c h e; own = λ k c e. own_at 0 cs k k c d e (omega arith) }

-- a quotation asks for its cells
pub quotation_shows : (cs : List Cell) (t : Phrase) → ShowsAll (inner_cells cs (quot t)) t
quotation_shows cs t =
    shows_list (inner_cells cs (quot t)) t (both_ask t (kept_cells cs (quot t)) [] (kept_ask cs (quot t) t (λ c a. a)) tt) (distinct_both (kept_cells cs (quot t)) [] (kept_distinct cs (quot t)) tt (no_clear (kept_cells cs (quot t))))

-- and so does a fry in which each of its holes stands
pub fry_shows : (cs : List Cell) (t : Phrase) (n : ℕ) → has_holes n t ≡ true → ShowsAll (inner_cells cs (fry t n)) t
fry_shows cs t n h =
    shows_list (inner_cells cs (fry t n)) t (both_ask t (kept_cells cs (fry t n)) (hole_cells n) (kept_ask cs (fry t n) t (λ c a. fry_asked c t n a)) (holes_ask n t h))
    (distinct_both (kept_cells cs (fry t n)) (hole_cells n) (kept_distinct cs (fry t n)) (holes_distinct n) (fry_clear cs t n n))

pub no_shows : ShowsAll [] end
no_shows = shows_list [] end tt tt
