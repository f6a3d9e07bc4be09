-- A phrase under cells that hold whatever it asks for: that this is so of what is in it, and of the phrases of a whole program.
use Rattle.std.proofs.Common.{◌≡◌, ◌<◌, ◌≤◌, ◌⊎◌, inl, inr, ℕ, zero, suc, List, [], ◌∷◌, ◌++◌, Bool, true, false, Option, Some, None, refl, sym, ap, ◌∙◌, subst, arith}
use Rattle.std.specs.Prelude.{map, slice_get, nat_eq, nat_lt, ◌&&◌, ◌||◌, not}
use Rattle.std.specs.List.{list_all, list_any}
use Rattle.std.proofs.lemmas.List.Folds.{list_all-append, list_any-append}
use Rattle.std.proofs.lemmas.Bool.{eqb-true, eqb-false, eq-eqb, ltb-true, lt-ltb, cases_lt, and_parts}
use Rattle.fac_lang.specs.Phrases.{Phrase, end, then, Item, quot, bind, local, fry, hole, next_method}
use Rattle.fac_lang.specs.Substitution.{binds_local}
use Rattle.fac_base.specs.declared.place.Place.{Place}
use Rattle.fac_lang.specs.declared.program.Lit.{Lit}
use Rattle.fac_lang.specs.declared.program.Lit.TheVariants.{Int as l_int, True as l_yes, False as l_no, Str as l_str, Arr as l_arr, Wref as l_word, Quot as l_quot, Made as l_made}
use Rattle.fac_lang.specs.declared.program.Program.{Program}
use Rattle.fac_lang.specs.declared.program.WordDef.{WordDef}
use Rattle.fac_lang.specs.declared.program.Sort.{Sort}
use Rattle.fac_lang.specs.declared.program.Sort.TheVariants.{Body as body, Past as past, Method as method}
use Rattle.fac_lang.specs.Whole.{IsWhole, locals_bound, locals_bound_in, holes_within, holes_within_item, word_phrases, quotations, joined}
use Rattle.fac_locals.specs.declared.cell.Cell.{Cell}
use Rattle.fac_locals.specs.declared.cell.Cell.TheVariants.{Local, Hole}
use Rattle.fac_locals.specs.Cells.{same_cell, number_from, cell_number, cells_behind, binds_cell, is_local, asks, item_asks, keeps_cell, captured_from, captured, kept_cells, hole_cells, inner_cells}
use Rattle.fac_locals.specs.inner.Numbering.{plain_phrase, phrase_of}
use Rattle.fac_locals.proofs.LiteralArrays.{in_method, item_in}

-- A phrase asks for the same in a method.

same_either : (a b c d e : Bool) → a ≡ b → c ≡ d → (a || (not e && c)) ≡ (b || (not e && d))
same_either a b c d e f g = rw (f, g) refl

mutual
  asks_in : (m : Option ℕ) (c : Cell) (t : Phrase) → asks c (in_method m t) ≡ asks c t
  asks_in m c end = refl
  asks_in m c (then i p t) =
      ap (λ (b : Bool). item_asks c (item_in m i) || (not b && asks c (in_method m t))) (binds_in m c i) ∙ same_either (item_asks c (item_in m i)) (item_asks c i) (asks c (in_method m t)) (asks c t) (binds_cell c i) (item_asks_in m c i) (asks_in m c t)

  item_asks_in : (m : Option ℕ) (c : Cell) (i : Item) → item_asks c (item_in m i) ≡ item_asks c i
  item_asks_in m c (quot t) = asks_in m c t
  item_asks_in m c (fry t n) = ap (λ (b : Bool). is_local c && b) (asks_in m c t)
  item_asks_in None c next_method = refl
  item_asks_in (Some m) c next_method = refl
  item_asks_in m c _ = refl

  binds_in : (m : Option ℕ) (c : Cell) (i : Item) → binds_cell c (item_in m i) ≡ binds_cell c i
  binds_in m (Hole k) i = refl
  binds_in None (Local x) next_method = refl
  binds_in (Some m) (Local x) next_method = refl
  binds_in m (Local x) _ = refl

-- what asks for the same keeps the same
captured_same : (k : ℕ) (cells : List Cell) (i j : Item) → ((c : Cell) → item_asks c i ≡ item_asks c j) → captured_from k cells i ≡ captured_from k cells j
captured_same k [] i j e = refl
captured_same k (c ∷ cs) i j e =
    ap (λ (b : Bool). elim (b && not (list_any (same_cell c) cs)) [ true ↦ k ∷ captured_from (suc k) cs i | false ↦ captured_from (suc k) cs i ]) (e c)
    ∙ ap (λ (ks : List ℕ). elim (item_asks c j && not (list_any (same_cell c) cs)) [ true ↦ k ∷ ks | false ↦ ks ]) (captured_same (suc k) cs i j e)

kept_same : (cells : List Cell) (i j : Item) → ((c : Cell) → item_asks c i ≡ item_asks c j) → kept_cells cells i ≡ kept_cells cells j
kept_same [] i j e = refl
kept_same (c ∷ cs) i j e =
    ap (λ (b : Bool). elim (b && not (list_any (same_cell c) cs)) [ true ↦ c ∷ kept_cells cs i | false ↦ kept_cells cs i ]) (e c)
    ∙ ap (λ (ds : List Cell). elim (item_asks c j && not (list_any (same_cell c) cs)) [ true ↦ c ∷ ds | false ↦ ds ]) (kept_same cs i j e)

pub captured_in : (m : Option ℕ) (cells : List Cell) (i : Item) → captured cells (item_in m i) ≡ captured cells i
captured_in m cells i = captured_same 0 cells (item_in m i) i (λ (c : Cell). item_asks_in m c i)

pub quotation_cells_in : (m : Option ℕ) (cells : List Cell) (t : Phrase) → inner_cells cells (quot (in_method m t)) ≡ inner_cells cells (quot t)
quotation_cells_in m cells t = ap (λ (ds : List Cell). ds ++ []) (kept_same cells (quot (in_method m t)) (quot t) (λ (c : Cell). asks_in m c t))

pub fry_cells_in : (m : Option ℕ) (cells : List Cell) (t : Phrase) (n : ℕ) → inner_cells cells (fry (in_method m t) n) ≡ inner_cells cells (fry t n)
fry_cells_in m cells t n = ap (λ (ds : List Cell). ds ++ hole_cells n) (kept_same cells (fry (in_method m t) n) (fry t n) (λ (c : Cell). item_asks_in m c (fry t n)))

pub cells_behind_in : (m : Option ℕ) (cells : List Cell) (i : Item) → cells_behind cells (item_in m i) ≡ cells_behind cells i
cells_behind_in None cells next_method = refl
cells_behind_in (Some m) cells next_method = refl
cells_behind_in m cells _ = refl

-- Tests.

pub same_number : (n : ℕ) → nat_eq n n ≡ true
same_number n = eq-eqb n n refl

or_left : (a b : Bool) → a ≡ true → (a || b) ≡ true
or_left true b e = refl
or_left false b e = absurd cc

or_right : (a b : Bool) → b ≡ true → (a || b) ≡ true
or_right true b e = refl
or_right false b e = e

-- one that isn't there is in what comes of the other
or_parts : (C : Type 0) (a b : Bool) → (a || b) ≡ true → (a ≡ true → C) → (b ≡ true → C) → C
or_parts C true b e f g = f refl
or_parts C false b e f g = g e

-- these cells have one that holds the same
abbrev pub Holds : List Cell → Cell → Type 0
Holds cells c = list_any (same_cell c) cells ≡ true

same_is : (c d : Cell) → same_cell c d ≡ true → c ≡ d
same_is (Local x) (Local y) e = ap Local (eqb-true x y e)
same_is (Hole j) (Hole k) e = ap Hole (eqb-true j k e)
same_is (Local x) (Hole k) e = absurd cc
same_is (Hole k) (Local x) e = absurd cc

-- then it has a number
number_there : (k : ℕ) (cells : List Cell) (c : Cell) → Holds cells c → (j : ℕ) × (number_from k cells c ≡ Some j)
number_there k [] c h = absurd cc
number_there k (d ∷ ds) c h = go (number_from (suc k) ds c) (same_cell c d) (list_any (same_cell c) ds) h (λ e. number_there (suc k) ds c e)
  where
    go : (o : Option ℕ) (b e : Bool) → (b || e) ≡ true → (e ≡ true → (j : ℕ) × (o ≡ Some j)) → (j : ℕ) × ((elim o [ Some j ↦ Some j | None ↦ elim b [ true ↦ Some k | false ↦ None ] ]) ≡ Some j)
    go (Some j) b e h more = (j, refl)
    go None true e h more = (k, refl)
    go None false e h more = let found = more h in absurd (let clash : None ≡ Some found.0 = found.1 in cc)

pub numbered_there : (cells : List Cell) (c : Cell) → Holds cells c → (k : ℕ) × (cell_number cells c ≡ Some k)
numbered_there cells c h = number_there 0 cells c h

-- one that is asked for is kept
kept_there : (cells : List Cell) (i : Item) (c : Cell) → item_asks c i ≡ true → Holds cells c → Holds (kept_cells cells i) c
kept_there [] i c asked h = h
kept_there (d ∷ ds) i c asked h = by_later (list_any (same_cell c) ds) refl (λ e. kept_there ds i c asked e)
  where
    more : (b : Bool) → Holds (kept_cells ds i) c → Holds (elim b [ true ↦ d ∷ kept_cells ds i | false ↦ kept_cells ds i ]) c
    more true e = or_right (same_cell c d) (list_any (same_cell c) (kept_cells ds i)) e
    more false e = e

    this : (b : Bool) → b ≡ true → same_cell c d ≡ true → Holds (elim b [ true ↦ d ∷ kept_cells ds i | false ↦ kept_cells ds i ]) c
    this true is e = or_left (same_cell c d) (list_any (same_cell c) (kept_cells ds i)) e
    this false is e = absurd cc

    here : (e : Bool) → list_any (same_cell c) ds ≡ e → e ≡ false → (same_cell c d || e) ≡ true → same_cell c d ≡ true
    here e is none h = or_parts (same_cell c d ≡ true) (same_cell c d) e h (λ x. x) (λ x. absurd (let clash : true ≡ false = sym x ∙ none in cc))

    kept : (e : Cell) → c ≡ e → list_any (same_cell c) ds ≡ false → keeps_cell i e ds ≡ true
    kept e is none = subst (λ (x : Cell). keeps_cell i x ds ≡ true) is (rw (asked, none) refl)

    by_later : (e : Bool) → list_any (same_cell c) ds ≡ e → (Holds ds c → Holds (kept_cells ds i) c) → Holds (kept_cells (d ∷ ds) i) c
    by_later true is later = more (keeps_cell i d ds) (later is)
    by_later false is later =
        let same = here (list_any (same_cell c) ds) refl is h in
        this (keeps_cell i d ds) (kept d (same_is c d same) is) same

in_first : (c : Cell) (cs ds : List Cell) → Holds cs c → Holds (cs ++ ds) c
in_first c cs ds h = list_any-append (same_cell c) cs ds ∙ or_left (list_any (same_cell c) cs) (list_any (same_cell c) ds) h

in_second : (c : Cell) (cs ds : List Cell) → Holds ds c → Holds (cs ++ ds) c
in_second c cs ds h = list_any-append (same_cell c) cs ds ∙ or_right (list_any (same_cell c) cs) (list_any (same_cell c) ds) h

-- Under these cells a phrase has whatever it asks for, and in each of its fries the holes are those of the fry.
pub record IsUnder (cells : List Cell) (t : Phrase) : Type 0 where
  pub has : (c : Cell) → asks c t ≡ true → Holds cells c
  pub around : ℕ
  pub holes : holes_within around t ≡ true

-- likewise an item
pub record IsItemUnder (cells : List Cell) (i : Item) : Type 0 where
  pub has : (c : Cell) → item_asks c i ≡ true → Holds cells c
  pub around : ℕ
  pub holes : holes_within_item around i ≡ true

pub first_under : (cells : List Cell) (i : Item) (p : Place) (t : Phrase) → IsUnder cells (then i p t) → IsItemUnder cells i
first_under cells i p t u = record {
  has = λ (c : Cell) (e : item_asks c i ≡ true). u.has c (or_left (item_asks c i) (not (binds_cell c i) && asks c t) e);
  around = u.around;
  holes = (and_parts (holes_within_item u.around i) (holes_within u.around t) u.holes).0;
}

bound_there : (cells : List Cell) (c : Cell) (i : Item) → binds_cell c i ≡ true → Holds (cells_behind cells i) c
bound_there cells (Local x) (bind y) e = in_second (Local x) cells (Local y ∷ []) (or_left (nat_eq x y) false e)
bound_there cells (Hole k) i e = absurd cc
bound_there cells (Local x) _ e = absurd cc

still_there : (cells : List Cell) (c : Cell) (i : Item) → Holds cells c → Holds (cells_behind cells i) c
still_there cells c (bind x) h = in_first c cells (Local x ∷ []) h
still_there cells c _ h = h

unbound : (b a : Bool) → b ≡ false → a ≡ true → (not b && a) ≡ true
unbound true a e f = absurd cc
unbound false a e f = f

pub rest_under : (cells : List Cell) (i : Item) (p : Place) (t : Phrase) → IsUnder cells (then i p t) → IsUnder (cells_behind cells i) t
rest_under cells i p t u = record {
  has = λ (c : Cell) (e : asks c t ≡ true). go c (binds_cell c i) refl e;
  around = u.around;
  holes = (and_parts (holes_within_item u.around i) (holes_within u.around t) u.holes).1;
} where
  go : (c : Cell) (b : Bool) → binds_cell c i ≡ b → asks c t ≡ true → Holds (cells_behind cells i) c
  go c true is e = bound_there cells c i is
  go c false is e = still_there cells c i (u.has c (or_right (item_asks c i) (not (binds_cell c i) && asks c t) (unbound (binds_cell c i) (asks c t) is e)))

pub quotation_under : (cells : List Cell) (t : Phrase) → IsItemUnder cells (quot t) → IsUnder (inner_cells cells (quot t)) t
quotation_under cells t u = record { has = λ (c : Cell) (e : asks c t ≡ true). in_first c (kept_cells cells (quot t)) [] (kept_there cells (quot t) c e (u.has c e)); around = u.around; holes = u.holes }

-- holes are those of the fry
mutual
  holes_asked : (n h : ℕ) (t : Phrase) → holes_within n t ≡ true → asks (Hole h) t ≡ true → nat_lt h n ≡ true
  holes_asked n h end e asked = absurd cc
  holes_asked n h (then i p t) e asked =
      let both = and_parts (holes_within_item n i) (holes_within n t) e in
      or_parts (nat_lt h n ≡ true) (item_asks (Hole h) i) (asks (Hole h) t) asked (hole_asked n h i both.0) (holes_asked n h t both.1)

  hole_asked : (n h : ℕ) (i : Item) → holes_within_item n i ≡ true → item_asks (Hole h) i ≡ true → nat_lt h n ≡ true
  hole_asked n h (hole k) e asked = subst (λ (j : ℕ). nat_lt j n ≡ true) (sym (eqb-true h k asked)) e
  hole_asked n h (quot t) e asked = holes_asked n h t e asked
  hole_asked n h _ e asked = absurd cc

below : (h n : ℕ) → h < suc n → (h ≡ n → ⊥) → (h < n) ⊎ (n ≤ h) → h < n
below h n lt other (inl less) = less
below h n lt other (inr le) = absurd (other (omega (arith, lt, le)))

lower : (h n : ℕ) → nat_lt h (suc n) ≡ true → nat_eq h n ≡ false → nat_lt h n ≡ true
lower h n e is = lt-ltb h n (below h n (ltb-true h (suc n) e) (eqb-false h n is) (cases_lt h n))

hole_there : (n h : ℕ) → nat_lt h n ≡ true → Holds (hole_cells n) (Hole h)
hole_there zero h e = absurd (omega (arith, ltb-true h 0 e))
hole_there (suc n) h e = go (nat_eq h n) refl (λ f. hole_there n h f)
  where
    go : (b : Bool) → nat_eq h n ≡ b → (nat_lt h n ≡ true → Holds (hole_cells n) (Hole h)) → Holds (hole_cells n ++ Hole n ∷ []) (Hole h)
    go true is earlier = in_second (Hole h) (hole_cells n) (Hole n ∷ []) (or_left (nat_eq h n) false is)
    go false is earlier = in_first (Hole h) (hole_cells n) (Hole n ∷ []) (earlier (lower h n e is))

pub fry_under : (cells : List Cell) (t : Phrase) (n : ℕ) → IsItemUnder cells (fry t n) → IsUnder (inner_cells cells (fry t n)) t
fry_under cells t n u = record { has = go; around = n; holes = u.holes }
  where
    go : (c : Cell) → asks c t ≡ true → Holds (inner_cells cells (fry t n)) c
    go (Local x) e = in_first (Local x) (kept_cells cells (fry t n)) (hole_cells n) (kept_there cells (fry t n) (Local x) e (u.has (Local x) e))
    go (Hole h) e = in_second (Hole h) (kept_cells cells (fry t n)) (hole_cells n) (hole_there n h (holes_asked n h t u.holes e))

unhidden : (b a : Bool) → not b ≡ true → (b || a) ≡ true → a ≡ true
unhidden true a e f = absurd cc
unhidden false a e f = f

behind_asked : (xs : List ℕ) (x : ℕ) (i : Item) (t : Phrase) → locals_bound (elim i [ bind y ↦ y ∷ xs | _ ↦ xs ]) t ≡ true → (not (binds_local x i) && asks (Local x) t) ≡ true → ((ys : List ℕ) → locals_bound ys t ≡ true → asks (Local x) t ≡ true → list_any (nat_eq x) ys ≡ true) → list_any (nat_eq x) xs ≡ true
behind_asked xs x (bind y) t e later more =
    let both = and_parts (not (nat_eq x y)) (asks (Local x) t) later in
    unhidden (nat_eq x y) (list_any (nat_eq x) xs) both.0 (more (y ∷ xs) e both.1)
behind_asked xs x _ t e later more = more xs e later

-- A phrase in which each local is bound asks for none but these.
mutual
  locals_asked : (xs : List ℕ) (x : ℕ) (t : Phrase) → locals_bound xs t ≡ true → asks (Local x) t ≡ true → list_any (nat_eq x) xs ≡ true
  locals_asked xs x end e asked = absurd cc
  locals_asked xs x (then i p t) e asked =
      let both = and_parts (locals_bound_in xs i) (locals_bound (elim i [ bind y ↦ y ∷ xs | _ ↦ xs ]) t) e in
      or_parts (list_any (nat_eq x) xs ≡ true) (item_asks (Local x) i) (not (binds_local x i) && asks (Local x) t) asked (local_asked xs x i both.0) (λ later. behind_asked xs x i t both.1 later (λ ys f g. locals_asked ys x t f g))

  local_asked : (xs : List ℕ) (x : ℕ) (i : Item) → locals_bound_in xs i ≡ true → item_asks (Local x) i ≡ true → list_any (nat_eq x) xs ≡ true
  local_asked xs x (local y) e asked = subst (λ (z : ℕ). list_any (nat_eq z) xs ≡ true) (sym (eqb-true x y asked)) e
  local_asked xs x (quot t) e asked = locals_asked xs x t e asked
  local_asked xs x (fry t n) e asked = locals_asked xs x t e asked
  local_asked xs x _ e asked = absurd cc

-- such a phrase is under no cells
pub under_none : (t : Phrase) → locals_bound [] t ≡ true → holes_within 0 t ≡ true → IsUnder [] t
under_none t bound holes = record { has = go; around = 0; holes = holes }
  where
    go : (c : Cell) → asks c t ≡ true → Holds [] c
    go (Local x) e = locals_asked [] x t bound e
    go (Hole h) e = absurd (omega (arith, ltb-true h 0 (holes_asked 0 h t holes e)))

-- the phrases of words
abbrev pub AreUnder : List WordDef → Type 0
AreUnder [] = Unit {0}
AreUnder (d ∷ ds) = IsUnder [] (phrase_of d.sort) × AreUnder ds

end_under : IsUnder [] end
end_under = under_none end refl refl

words_under : (ds : List WordDef) → list_all (locals_bound []) (word_phrases ds) ≡ true → list_all (holes_within 0) (word_phrases ds) ≡ true → AreUnder ds
words_under [] e f = tt
words_under (d ∷ ds) e f = let both = go d.sort e f in (both.0, words_under ds both.1 both.2)
  where
    go :
        (s : Sort) →
        list_all (locals_bound []) (elim s [ body t ↦ t ∷ word_phrases ds | past t ↦ t ∷ word_phrases ds | method c g t ↦ t ∷ word_phrases ds | _ ↦ word_phrases ds ]) ≡ true →
        list_all (holes_within 0) (elim s [ body t ↦ t ∷ word_phrases ds | past t ↦ t ∷ word_phrases ds | method c g t ↦ t ∷ word_phrases ds | _ ↦ word_phrases ds ]) ≡ true →
        IsUnder [] (phrase_of s) × (list_all (locals_bound []) (word_phrases ds) ≡ true) × (list_all (holes_within 0) (word_phrases ds) ≡ true)
    go (body t) e f =
        let locals = and_parts (locals_bound [] t) _ e in
        let holes = and_parts (holes_within 0 t) _ f in
        (under_none t locals.0 holes.0, locals.1, holes.1)
    go (past t) e f =
        let locals = and_parts (locals_bound [] t) _ e in
        let holes = and_parts (holes_within 0 t) _ f in
        (under_none t locals.0 holes.0, locals.1, holes.1)
    go (method c g t) e f =
        let locals = and_parts (locals_bound [] t) _ e in
        let holes = and_parts (holes_within 0 t) _ f in
        (under_none t locals.0 holes.0, locals.1, holes.1)
    go _ e f = (end_under, e, f)

first_all : (f : Phrase → Bool) (ts us : List Phrase) → list_all f (ts ++ us) ≡ true → list_all f ts ≡ true
first_all f ts us e = (and_parts (list_all f ts) (list_all f us) (sym (list_all-append f ts us) ∙ e)).0

second_all : (f : Phrase → Bool) (ts us : List Phrase) → list_all f (ts ++ us) ≡ true → list_all f us ≡ true
second_all f ts us e = (and_parts (list_all f ts) (list_all f us) (sym (list_all-append f ts us) ∙ e)).1

pub program_under : (P : Program) → IsWhole P → AreUnder P.words
program_under P w = words_under P.words (first_all (locals_bound []) (word_phrases P.words) (joined (map quotations P.arrays)) w.bound) (first_all (holes_within 0) (word_phrases P.words) (joined (map quotations P.arrays)) w.holes_in_fries)

-- the elements of an array
elements_bound : (p : Place) (ls : List Lit) → list_all (locals_bound []) (quotations ls) ≡ true → locals_bound [] (plain_phrase p ls) ≡ true
elements_bound p [] e = refl
elements_bound p (l_quot t ∷ ls) e = let both = and_parts (locals_bound [] t) (list_all (locals_bound []) (quotations ls)) e in rw (both.0, elements_bound p ls both.1) refl
elements_bound p (l_int z ∷ ls) e = elements_bound p ls e
elements_bound p (l_yes ∷ ls) e = elements_bound p ls e
elements_bound p (l_no ∷ ls) e = elements_bound p ls e
elements_bound p (l_str s ∷ ls) e = elements_bound p ls e
elements_bound p (l_arr a ∷ ls) e = elements_bound p ls e
elements_bound p (l_word w ∷ ls) e = elements_bound p ls e
elements_bound p (l_made k ∷ ls) e = elements_bound p ls e

elements_holed : (p : Place) (ls : List Lit) → list_all (holes_within 0) (quotations ls) ≡ true → holes_within 0 (plain_phrase p ls) ≡ true
elements_holed p [] e = refl
elements_holed p (l_quot t ∷ ls) e = let both = and_parts (holes_within 0 t) (list_all (holes_within 0) (quotations ls)) e in rw (both.0, elements_holed p ls both.1) refl
elements_holed p (l_int z ∷ ls) e = elements_holed p ls e
elements_holed p (l_yes ∷ ls) e = elements_holed p ls e
elements_holed p (l_no ∷ ls) e = elements_holed p ls e
elements_holed p (l_str s ∷ ls) e = elements_holed p ls e
elements_holed p (l_arr a ∷ ls) e = elements_holed p ls e
elements_holed p (l_word w ∷ ls) e = elements_holed p ls e
elements_holed p (l_made k ∷ ls) e = elements_holed p ls e

array_all : (f : Phrase → Bool) (lss : List (List Lit)) (a : ℕ) (ls : List Lit) → list_all f (joined (map quotations lss)) ≡ true → slice_get lss a ≡ Some ls → list_all f (quotations ls) ≡ true
array_all f [] a ls e at = absurd cc
array_all f (xs ∷ lss) zero ls e at =
    let same : xs ≡ ls = cc in
    subst (λ (ys : List Lit). list_all f (quotations ys) ≡ true) same (first_all f (quotations xs) (joined (map quotations lss)) e)
array_all f (xs ∷ lss) (suc a) ls e at = array_all f lss a ls (second_all f (quotations xs) (joined (map quotations lss)) e) at

pub array_under : (P : Program) → IsWhole P → (a : ℕ) (p : Place) (ls : List Lit) → slice_get P.arrays a ≡ Some ls → IsUnder [] (plain_phrase p ls)
array_under P w a p ls at =
    let words = word_phrases P.words in
    let own = joined (map quotations P.arrays) in
    under_none (plain_phrase p ls) (elements_bound p ls (array_all (locals_bound []) P.arrays a ls (second_all (locals_bound []) words own w.bound) at)) (elements_holed p ls (array_all (holes_within 0) P.arrays a ls (second_all (holes_within 0) words own w.holes_in_fries) at))
