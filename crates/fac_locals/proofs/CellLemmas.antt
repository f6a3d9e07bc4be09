-- Cells of a frame, gone through from the last one.
use Rattle.std.proofs.Common.{◌≡◌, ℕ, suc, ◌+◌, ◌-◌, List, [], ◌∷◌, ◌++◌, length, Bool, true, false, cond, ◌&&◌, ◌||◌, not, Option, Some, None, slice_get, refl, sym, ap, ◌∙◌, append_assoc, arith}
use Rattle.std.specs.List.{list_any}
use Rattle.std.proofs.lemmas.List.Folds.{list_any-append}
use Rattle.std.proofs.lemmas.Grind.{common_steps}
use Rattle.fac_lang.specs.Phrases.{Item}
use Rattle.fac_locals.specs.declared.cell.Cell.{Cell}
use Rattle.fac_locals.specs.declared.asking.Asked.{Asked}
use Rattle.fac_locals.specs.Cells.{same_cell, number_from, item_asks, captured_from, kept_cells}
use Rattle.fac_locals.specs.Asked.{has_cell, kept_from, cells_of}

-- the number of a cell, where the last one holds the same or another
pub number_last : (k : ℕ) (cs : List Cell) (d c : Cell) → number_from k (cs ++ d ∷ []) c ≡ cond (same_cell c d) (Some (k + length cs)) (number_from k cs c)
number_last k [] d c = by_case (same_cell c d)
  where
    by_case : (b : Bool) → ◌≡◌ {A = Option ℕ} (elim b [ true ↦ Some k | false ↦ None ]) (cond b (Some (k + 0)) None)
    by_case true = ap (λ (n : ℕ). Some n) (omega arith)
    by_case false = refl
number_last k (e ∷ cs) d c =
    ap (λ (o : Option ℕ). elim o [ Some j ↦ Some j | None ↦ elim (same_cell c e) [ true ↦ Some k | false ↦ None ] ]) (number_last (suc k) cs d c) ∙ by_case (same_cell c d)
  where
    by_case :
        (b : Bool) →
        ◌≡◌ {A = Option ℕ}
        (elim (cond b (Some (suc k + length cs)) (number_from (suc k) cs c)) [ Some j ↦ Some j | None ↦ elim (same_cell c e) [ true ↦ Some k | false ↦ None ] ])
        (cond b (Some (k + suc (length cs))) (elim (number_from (suc k) cs c) [ Some j ↦ Some j | None ↦ elim (same_cell c e) [ true ↦ Some k | false ↦ None ] ]))
    by_case true = ap (λ (n : ℕ). Some n) (omega arith)
    by_case false = refl

-- the same cells are kept where the same are asked for
pub kept_same : (k : ℕ) (cs : List Cell) (f g : Cell → Bool) → ((c : Cell) → f c ≡ g c) → kept_from k cs f ≡ kept_from k cs g
kept_same k [] f g same = refl
kept_same k (c ∷ cs) f g same =
    ap (λ (b : Bool). elim (b && not (list_any (same_cell c) cs)) [ true ↦ k ∷ kept_from (suc k) cs f | false ↦ kept_from (suc k) cs f ]) (same c)
    ∙ ap (λ (ks : List ℕ). elim (g c && not (list_any (same_cell c) cs)) [ true ↦ k ∷ ks | false ↦ ks ]) (kept_same (suc k) cs f g same)

-- what is kept, where the last cell is asked for or not; an earlier one is then asked for where it isn't hidden by it
pub kept_last :
    (k : ℕ) (cs : List Cell) (d : Cell) (f : Cell → Bool) →
    kept_from k (cs ++ d ∷ []) f ≡ kept_from k cs (λ c. not (same_cell c d) && f c) ++ cond (f d) ((k + length cs) ∷ []) []
kept_last k [] d f = by_case (f d)
  where
    by_case : (b : Bool) → ◌≡◌ {A = List ℕ} (elim (b && true) [ true ↦ k ∷ [] | false ↦ [] ]) (cond b ((k + 0) ∷ []) [])
    by_case true = ap (λ (n : ℕ). n ∷ []) (omega arith)
    by_case false = refl
kept_last k (c ∷ cs) d f =
    ap (λ (b : Bool). elim b [ true ↦ k ∷ kept_from (suc k) (cs ++ d ∷ []) f | false ↦ kept_from (suc k) (cs ++ d ∷ []) f ]) hidden
    ∙ ap (λ (ks : List ℕ). elim here [ true ↦ k ∷ ks | false ↦ ks ]) (kept_last (suc k) cs d f)
    ∙ by_case here (f d)
  where
    here : Bool
    here = (not (same_cell c d) && f c) && not (list_any (same_cell c) cs)

    either : (a b e : Bool) → (a && not (b || (e || false))) ≡ ((not e && a) && not b)
    either true true true = refl
    either true true false = refl
    either true false true = refl
    either true false false = refl
    either false b true = refl
    either false b false = refl

    hidden : (f c && not (list_any (same_cell c) (cs ++ d ∷ []))) ≡ here
    hidden = ap (λ (b : Bool). f c && not b) (list_any-append (same_cell c) cs (d ∷ [])) ∙ either (f c) (list_any (same_cell c) cs) (same_cell c d)

    before : List ℕ
    before = kept_from (suc k) cs (λ c. not (same_cell c d) && f c)

    by_case :
        (b e : Bool) →
        ◌≡◌ {A = List ℕ}
        (elim b [ true ↦ k ∷ (before ++ cond e ((suc k + length cs) ∷ []) []) | false ↦ before ++ cond e ((suc k + length cs) ∷ []) [] ])
        (elim b [ true ↦ k ∷ before | false ↦ before ] ++ cond e ((k + suc (length cs)) ∷ []) [])
    by_case true true = ap (λ (n : ℕ). k ∷ (before ++ n ∷ [])) (omega arith)
    by_case true false = refl
    by_case false true = ap (λ (n : ℕ). before ++ n ∷ []) (omega arith)
    by_case false false = refl

-- what a quotation or fry keeps is what is asked for, where these are the cells that it asks for
pub kept_are_captured : (k : ℕ) (cs : List Cell) (i : Item) (f : Cell → Bool) → ((c : Cell) → f c ≡ item_asks c i) → kept_from k cs f ≡ captured_from k cs i
kept_are_captured k [] i f same = refl
kept_are_captured k (c ∷ cs) i f same =
    ap (λ (b : Bool). elim (b && not (list_any (same_cell c) cs)) [ true ↦ k ∷ kept_from (suc k) cs f | false ↦ kept_from (suc k) cs f ]) (same c)
    ∙ ap (λ (ks : List ℕ). elim (item_asks c i && not (list_any (same_cell c) cs)) [ true ↦ k ∷ ks | false ↦ ks ]) (kept_are_captured (suc k) cs i f same)

-- the cell behind others
pub get_behind : (before : List Cell) (c : Cell) (cs : List Cell) → slice_get (before ++ c ∷ cs) (length before) ≡ Some c
get_behind [] c cs = refl
get_behind (b ∷ bs) c cs = get_behind bs c cs

cells_of_next :
    (before : List Cell) (c : Cell) (cs : List Cell) (i : Item) (k : ℕ) (b : Bool) → k ≡ length before → cells_of ((before ++ c ∷ []) ++ cs) (captured_from (suc k) cs i) ≡ kept_cells cs i →
    ◌≡◌ {A = List Cell}
    (cells_of (before ++ c ∷ cs) (elim b [ true ↦ k ∷ captured_from (suc k) cs i | false ↦ captured_from (suc k) cs i ]))
    (elim b [ true ↦ c ∷ kept_cells cs i | false ↦ kept_cells cs i ])
cells_of_next before c cs i k false e h = ap (λ (ds : List Cell). cells_of ds (captured_from (suc k) cs i)) (sym (append_assoc before (c ∷ []) cs)) ∙ h
cells_of_next before c cs i k true e h =
    let found : slice_get (before ++ c ∷ cs) k ≡ Some c = ap (λ (n : ℕ). slice_get (before ++ c ∷ cs) n) e ∙ get_behind before c cs in
    let rest : cells_of (before ++ c ∷ cs) (captured_from (suc k) cs i) ≡ kept_cells cs i = ap (λ (ds : List Cell). cells_of ds (captured_from (suc k) cs i)) (sym (append_assoc before (c ∷ []) cs)) ∙ h in
    ap (λ (o : Option Cell). elim o [ Some d ↦ d ∷ cells_of (before ++ c ∷ cs) (captured_from (suc k) cs i) | None ↦ cells_of (before ++ c ∷ cs) (captured_from (suc k) cs i) ]) found
    ∙ ap (λ (ds : List Cell). c ∷ ds) rest

-- what the captured cells hold
pub cells_of_captured : (before cs : List Cell) (i : Item) (k : ℕ) → k ≡ length before → cells_of (before ++ cs) (captured_from k cs i) ≡ kept_cells cs i
cells_of_captured before [] i k e = refl
cells_of_captured before (c ∷ cs) i k e =
    cells_of_next before c cs i k (item_asks c i && not (list_any (same_cell c) cs)) e (cells_of_captured (before ++ c ∷ []) cs i (suc k) (grind (arith, common_steps)))

-- a number that is found, or looked for on
pub number_found : (all left earlier : List Cell) (d c : Cell) (n : ℕ) → number_from 0 all c ≡ number_from 0 left c → left ≡ earlier ++ d ∷ [] → n ≡ length left → same_cell c d ≡ true → Some (n - 1) ≡ number_from 0 all c
number_found all left earlier d c n same e count is =
    let last : n - 1 ≡ 0 + length earlier = grind (arith, common_steps) in
    ap (λ (m : ℕ). Some m) last ∙ sym (same ∙ ap (λ (cs : List Cell). number_from 0 cs c) e ∙ number_last 0 earlier d c ∙ ap (λ (b : Bool). cond b (Some (0 + length earlier)) (number_from 0 earlier c)) is)

pub number_before : (all left earlier : List Cell) (d c : Cell) → number_from 0 all c ≡ number_from 0 left c → left ≡ earlier ++ d ∷ [] → same_cell c d ≡ false → number_from 0 all c ≡ number_from 0 earlier c
number_before all left earlier d c same e is =
    same ∙ ap (λ (cs : List Cell). number_from 0 cs c) e ∙ number_last 0 earlier d c ∙ ap (λ (b : Bool). cond b (Some (0 + length earlier)) (number_from 0 earlier c)) is

-- what is kept of the cells that are left, behind the numbers that were noted
pub kept_on :
    (whole noted now : List ℕ) (left earlier : List Cell) (d : Cell) (a b : Asked) (n : ℕ) → whole ≡ kept_from 0 left (has_cell a) ++ noted → left ≡ earlier ++ d ∷ [] → n ≡ length left →
    now ≡ elim (has_cell a d) [ true ↦ (n - 1) ∷ noted | false ↦ noted ] → ((c : Cell) → has_cell b c ≡ not (same_cell c d) && has_cell a c) → whole ≡ kept_from 0 earlier (has_cell b) ++ now
kept_on whole noted now left earlier d a b n same e count noting others =
    same
    ∙ ap (λ (cs : List Cell). kept_from 0 cs (has_cell a) ++ noted) e
    ∙ ap (λ (ks : List ℕ). ks ++ noted) (kept_last 0 earlier d (has_cell a))
    ∙ append_assoc (kept_from 0 earlier (λ c. not (same_cell c d) && has_cell a c)) (cond (has_cell a d) ((0 + length earlier) ∷ []) []) noted
    ∙ ap (λ (ks : List ℕ). ks ++ (cond (has_cell a d) ((0 + length earlier) ∷ []) [] ++ noted)) (sym (kept_same 0 earlier (has_cell b) (λ c. not (same_cell c d) && has_cell a c) others))
    ∙ ap (λ (ks : List ℕ). kept_from 0 earlier (has_cell b) ++ ks) (by_case (has_cell a d) (grind (arith, common_steps)) ∙ sym noting)
  where
    by_case : (b : Bool) → n - 1 ≡ 0 + length earlier → ◌≡◌ {A = List ℕ} (cond b ((0 + length earlier) ∷ []) [] ++ noted) (elim b [ true ↦ (n - 1) ∷ noted | false ↦ noted ])
    by_case true e = ap (λ (m : ℕ). m ∷ noted) (sym e)
    by_case false e = refl
