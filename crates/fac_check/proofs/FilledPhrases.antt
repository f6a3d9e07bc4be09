-- What is put for the cells of a phrase shows in it: which items these are, and how deep their marks are.
use Rattle.std.proofs.Common.{◌≡◌, ◌≤◌, ◌⊎◌, inl, inr, ℕ, Bool, true, false, sym, subst, arith}
use Rattle.std.specs.Prelude.{◌&&◌, not, max}
use Rattle.std.proofs.lemmas.Bool.{or_cases}
use Rattle.std.proofs.Math.Nat.{le-max_left, le-max_right, max-le}
use Rattle.fac_base.specs.declared.place.Place.{Place}
use Rattle.fac_lang.specs.Phrases.{Phrase, end, then, Item, quot, local, fry, hole, made, known}
use Rattle.fac_lang.specs.declared.program.Program.{Program}
use Rattle.fac_locals.specs.declared.cell.Cell.{Cell}
use Rattle.fac_locals.specs.declared.cell.Cell.TheVariants.{Local, Hole}
use Rattle.fac_locals.specs.Cells.{asks, item_asks, is_local, binds_cell}
use Rattle.fac_locals.specs.Frames.{IsPut, cell_item, put_behind, put_in_fry, filled_by, filled_item}
use Rattle.fac_locals.proofs.FrameLaws.{Fills, same_is}
use Rattle.fac_locals.proofs.RunningPhrases.{IsRun, IsRunItem}
use Rattle.fac_abs.specs.Marks.{phrase_marks, item_marks}
use Rattle.fac_abs.proofs.EqualMarks.{and_first, and_second}

behind_apart : (f g : Cell → Item) (c : Cell) (b : Bool) → not b ≡ true → ◌≡◌ {A = Item} (elim b [ true ↦ cell_item c | false ↦ f c ]) (elim b [ true ↦ cell_item c | false ↦ g c ]) → f c ≡ g c
behind_apart f g c true n e = absurd (cc)
behind_apart f g c false n e = e

in_fry_apart : (f g : Cell → Item) (c : Cell) → is_local c ≡ true → put_in_fry f c ≡ put_in_fry g c → f c ≡ g c
in_fry_apart f g (Local x) l e = e
in_fry_apart f g (Hole k) l e = absurd (cc)

first_part : (i j : Item) (p : Place) (t u : Phrase) → then i p t ≡ then j p u → i ≡ j
first_part i j p t u e = cc

others_part : (i j : Item) (p : Place) (t u : Phrase) → then i p t ≡ then j p u → t ≡ u
others_part i j p t u e = cc

in_quot : (t u : Phrase) → quot t ≡ quot u → t ≡ u
in_quot t u e = cc

in_fry : (t u : Phrase) (n : ℕ) → fry t n ≡ fry u n → t ≡ u
in_fry t u n e = cc

-- phrases that are alike have the same items in the cells that they ask for
mutual
  pub filled_apart : (f g : Cell → Item) (t : Phrase) (c : Cell) → filled_by f t ≡ filled_by g t → asks c t ≡ true → f c ≡ g c
  filled_apart f g end c e a = absurd (cc)
  filled_apart f g (then i p t) c e a =
      elim (or_cases (item_asks c i) (not (binds_cell c i) && asks c t) a) [
        | inl h ↦ item_apart f g i c (first_part (filled_item f i) (filled_item g i) p (filled_by (put_behind f i) t) (filled_by (put_behind g i) t) e) h
        | inr h ↦ behind_apart f g c (binds_cell c i) (and_first (not (binds_cell c i)) (asks c t) h) (filled_apart (put_behind f i) (put_behind g i) t c (others_part (filled_item f i) (filled_item g i) p (filled_by (put_behind f i) t) (filled_by (put_behind g i) t) e) (and_second (not (binds_cell c i)) (asks c t) h))
      ]

  item_apart : (f g : Cell → Item) (i : Item) (c : Cell) → filled_item f i ≡ filled_item g i → item_asks c i ≡ true → f c ≡ g c
  item_apart f g (local x) c e a = subst (λ (d : Cell). f d ≡ g d) (sym (same_is c (Local x) a)) e
  item_apart f g (hole k) c e a = subst (λ (d : Cell). f d ≡ g d) (sym (same_is c (Hole k) a)) e
  item_apart f g (quot t) c e a = filled_apart f g t c (in_quot (filled_by f t) (filled_by g t) e) a
  item_apart f g (fry t n) c e a = in_fry_apart f g c (and_first (is_local c) (asks c t) a) (filled_apart (put_in_fry f) (put_in_fry g) t c (in_fry (filled_by (put_in_fry f) t) (filled_by (put_in_fry g) t) n e) (and_second (is_local c) (asks c t) a))
  item_apart f g _ c e a = absurd (cc)

-- how deep the marks are that stand in a phrase that runs, with these items put
module _ (P : Program) where
  in_fry_most : (f : Cell → Item) (n : ℕ) → ((c : Cell) → item_marks (f c) ≤ n) → (c : Cell) → item_marks (put_in_fry f c) ≤ n
  in_fry_most f n h (Local x) = h (Local x)
  in_fry_most f n h (Hole k) = omega arith

  pub own_most : (c : Cell) (n : ℕ) → item_marks (cell_item c) ≤ n
  own_most (Local x) n = omega arith
  own_most (Hole k) n = omega arith

  behind_by : (c : Cell) (j : Item) (n : ℕ) (b : Bool) → item_marks j ≤ n → item_marks (elim b [ true ↦ cell_item c | false ↦ j ]) ≤ n
  behind_by c j n true h = own_most c n
  behind_by c j n false h = h

  -- no deeper than those that are put
  mutual
    pub marks_most : (f : Cell → Item) (t : Phrase) (n : ℕ) → IsRun P t → ((c : Cell) → item_marks (f c) ≤ n) → phrase_marks (filled_by f t) ≤ n
    marks_most f end n r h = omega arith
    marks_most f (then i p t) n r h = max-le (item_most f i n r.0 h) (marks_most (put_behind f i) t n r.1 (λ c. behind_by c (f c) n (binds_cell c i) (h c)))

    item_most : (f : Cell → Item) (i : Item) (n : ℕ) → IsRunItem P i → ((c : Cell) → item_marks (f c) ≤ n) → item_marks (filled_item f i) ≤ n
    item_most f (local x) n r h = h (Local x)
    item_most f (hole k) n r h = h (Hole k)
    item_most f (quot t) n r h = marks_most f t n r h
    item_most f (fry t m) n r h = marks_most (put_in_fry f) t n r (in_fry_most f n h)
    item_most f (known m) n r h = absurd r
    item_most f _ n r h = omega arith

  -- no phrase that runs begins with a quotation by a template
  put_not_made : (c : Cell) (j : Item) (k : ℕ) → IsPut j ⊎ (j ≡ cell_item c) → j ≡ made k → ⊥
  put_not_made c j k (inl h) e = subst IsPut e h
  put_not_made (Local x) j k (inr h) e = cc
  put_not_made (Hole x) j k (inr h) e = cc

  item_not_made : (f : Cell → Item) (i : Item) (k : ℕ) → Fills f → IsRunItem P i → filled_item f i ≡ made k → ⊥
  item_not_made f (local x) k h r e = put_not_made (Local x) (f (Local x)) k (h (Local x)) e
  item_not_made f (hole x) k h r e = put_not_made (Hole x) (f (Hole x)) k (h (Hole x)) e
  item_not_made f (made j) k h r e = r
  item_not_made f _ k h r e = cc

  begins_by : (i j : Item) (p q : Place) (t u : Phrase) → then i p t ≡ then j q u → i ≡ j
  begins_by i j p q t u e = cc

  pub begins_otherwise : (f : Cell → Item) (t u : Phrase) (k : ℕ) (p : Place) → Fills f → IsRun P t → filled_by f t ≡ then (made k) p u → ⊥
  begins_otherwise f end u k p h r e = cc
  begins_otherwise f (then i q t) u k p h r e = item_not_made f i k h r.0 (begins_by (filled_item f i) (made k) q p (filled_by (put_behind f i) t) u e)

behind_shows : (f : Cell → Item) (c : Cell) (n : ℕ) (b : Bool) → not b ≡ true → item_marks (elim b [ true ↦ cell_item c | false ↦ f c ]) ≤ n → item_marks (f c) ≤ n
behind_shows f c n true h l = absurd (cc)
behind_shows f c n false h l = l

in_fry_shows : (f : Cell → Item) (c : Cell) (n : ℕ) → is_local c ≡ true → item_marks (put_in_fry f c) ≤ n → item_marks (f c) ≤ n
in_fry_shows f (Local x) n h l = l
in_fry_shows f (Hole k) n h l = absurd (cc)

least_left : (a b c : ℕ) → a ≤ b → a ≤ max b c
least_left a b c l = (let m = le-max_left b c in omega (arith, l, m))

least_right : (a b c : ℕ) → a ≤ c → a ≤ max b c
least_right a b c l = (let m = le-max_right b c in omega (arith, l, m))

-- as deep as each that is put for a cell that the phrase asks for
mutual
  pub marks_least : (f : Cell → Item) (t : Phrase) (c : Cell) → asks c t ≡ true → item_marks (f c) ≤ phrase_marks (filled_by f t)
  marks_least f end c a = absurd (cc)
  marks_least f (then i p t) c a =
      elim (or_cases (item_asks c i) (not (binds_cell c i) && asks c t) a) [
        | inl h ↦ least_left (item_marks (f c)) (item_marks (filled_item f i)) (phrase_marks (filled_by (put_behind f i) t)) (item_least f i c h)
        | inr h ↦ least_right (item_marks (f c)) (item_marks (filled_item f i)) (phrase_marks (filled_by (put_behind f i) t)) (behind_shows f c (phrase_marks (filled_by (put_behind f i) t)) (binds_cell c i) (and_first (not (binds_cell c i)) (asks c t) h) (marks_least (put_behind f i) t c (and_second (not (binds_cell c i)) (asks c t) h)))
      ]

  item_least : (f : Cell → Item) (i : Item) (c : Cell) → item_asks c i ≡ true → item_marks (f c) ≤ item_marks (filled_item f i)
  item_least f (local x) c a = subst (λ (d : Cell). item_marks (f d) ≤ item_marks (f (Local x))) (sym (same_is c (Local x) a)) (omega arith)
  item_least f (hole k) c a = subst (λ (d : Cell). item_marks (f d) ≤ item_marks (f (Hole k))) (sym (same_is c (Hole k) a)) (omega arith)
  item_least f (quot t) c a = marks_least f t c a
  item_least f (fry t n) c a = in_fry_shows f c (phrase_marks (filled_by (put_in_fry f) t)) (and_first (is_local c) (asks c t) a) (marks_least (put_in_fry f) t c (and_second (is_local c) (asks c t) a))
  item_least f _ c a = absurd (cc)
