-- Marks in a table.
use Rattle.std.proofs.Common.{◌≡◌, ◌<◌, ◌≤◌, ◌⊎◌, inl, inr, ℕ, ◌+◌, ◌*◌, List, length, get_or, set, Bool, true, false, sym, ap, ◌∙◌, subst, arith}
use Rattle.std.specs.Prelude.{nat_eq}
use Rattle.std.proofs.lemmas.List.{get_or-set_same, get_or-set_other}
use Rattle.std.proofs.lemmas.Nat.{same_from_place, row_fits}
use Rattle.std.proofs.lemmas.Bool.{cases_Bool}
use Rattle.fac_lang.specs.declared.program.ClassDef.{ClassDef}
use Rattle.fac_lang.specs.Classes.{has_kind}
use Rattle.fac_classes.specs.inner.Cells.{cell, Grows, Marks, Joins, IsRight, IsFull}
use Rattle.fac_classes.proofs.ListLemmas.{same_number, itself, not_true}

at_place : (cells : List Bool) (p q : ℕ) → nat_eq q p ≡ true → p < length cells → get_or (set cells p true) q false ≡ true
at_place cells p q e lt = ap (λ (x : ℕ). get_or (set cells p true) x false) (same_number q p e) ∙ get_or-set_same cells p true false lt

elsewhere : (cells : List Bool) (p q : ℕ) → nat_eq q p ≡ false → get_or (set cells p true) q false ≡ get_or cells q false
elsewhere cells p q e = get_or-set_other cells p q true false (λ same. not_true (sym e ∙ ap (λ (x : ℕ). nat_eq x p) same ∙ itself p))

pub cell_set : (w : ℕ) (cells : List Bool) (c k : ℕ) → c * w + w ≤ length cells → k < w → Marks w c k cells (set cells (c * w + k) true)
unfolding cell
cell_set w cells c k row lt =
    record {
      grows = λ d j under h. elim (cases_Bool (nat_eq (d * w + j) (c * w + k))) [ inl e ↦ at_place cells (c * w + k) (d * w + j) e (omega (arith, row, lt)) | inr e ↦ elsewhere cells (c * w + k) (d * w + j) e ∙ h ];
      only = λ d j under h. elim (cases_Bool (nat_eq (d * w + j) (c * w + k))) [
        | inl e ↦ inr (same_from_place d j c k w under lt (same_number (d * w + j) (c * w + k) e))
        | inr e ↦ inl (sym (elsewhere cells (c * w + k) (d * w + j) e) ∙ h)
      ];
      marked = at_place cells (c * w + k) (c * w + k) (itself (c * w + k)) (omega (arith, row, lt));
    }

pub row_within : (n w c : ℕ) (cells : List Bool) → length cells ≡ n * w → c < n → c * w + w ≤ length cells
row_within n w c cells e lt = let fits : c * w + w ≤ n * w = row_fits c w n w lt (omega arith) in omega (arith, fits, e)

pub grows_on : (w : ℕ) (a b c : List Bool) → Grows w a b → Grows w b c → Grows w a c
grows_on w a b c f g d j lt h = g d j lt (f d j lt h)

-- The loop of `join`, which has come to kind i: a cell that isn't marked for the one class, and one that is.
pub record JoinsBelow (w to from i : ℕ) (before after : List Bool) : Type 0 where
  pub grows : Grows w before after
  pub only : (d j : ℕ) → j < w → cell w after d j ≡ true → (cell w before d j ≡ true) ⊎ ((d ≡ to) × (cell w before from j ≡ true))
  pub joined : (j : ℕ) → j < i → j < w → cell w before from j ≡ true → cell w after to j ≡ true

pub joins_start : (w to from : ℕ) (cells : List Bool) → JoinsBelow w to from 0 cells cells
joins_start w to from cells = record { grows = λ d j lt h. h; only = λ d j lt h. inl h; joined = λ j low lt h. absurd (omega (arith, low)) }

in_source : (w to from j : ℕ) (before after : List Bool) → (cell w before from j ≡ true) ⊎ ((from ≡ to) × (cell w before from j ≡ true)) → cell w before from j ≡ true
in_source w to from j before after (inl h) = h
in_source w to from j before after (inr h) = h.1

below_next : (j i : ℕ) → j < i + 1 → nat_eq j i ≡ false → j < i
below_next j i lt e = grind arith

pub joins_marked : (w to from i : ℕ) (a b c : List Bool) → i < w → JoinsBelow w to from i a b → cell w b from i ≡ true → Marks w to i b c → JoinsBelow w to from (i + 1) a c
joins_marked w to from i a b c lt l h m =
    record {
      grows = grows_on w a b c l.grows m.grows;
      only = λ d j under q. elim (m.only d j under q) [ inl p ↦ l.only d j under p | inr p ↦ inr (p.0, subst (λ (x : ℕ). cell w a from x ≡ true) (sym p.1) (in_source w to from i a b (l.only from i lt h))) ];
      joined = λ j low under q. elim (cases_Bool (nat_eq j i)) [
        | inl e ↦ subst (λ (x : ℕ). cell w c to x ≡ true) (sym (same_number j i e)) m.marked
        | inr e ↦ m.grows to j under (l.joined j (below_next j i low e) under q)
      ];
    }

pub joins_passed : (w to from i : ℕ) (a b : List Bool) → i < w → JoinsBelow w to from i a b → cell w b from i ≡ false → JoinsBelow w to from (i + 1) a b
joins_passed w to from i a b lt l h =
    record {
      grows = l.grows;
      only = l.only;
      joined = λ j low under q. elim (cases_Bool (nat_eq j i)) [
        | inl e ↦ not_true (sym h ∙ l.grows from i lt (subst (λ (x : ℕ). cell w a from x ≡ true) (same_number j i e) q))
        | inr e ↦ l.joined j (below_next j i low e) under q
      ];
    }

pub joins_all : (w to from i : ℕ) (a b : List Bool) → w ≤ i → JoinsBelow w to from i a b → Joins w to from a b
joins_all w to from i a b le l = record { grows = l.grows; only = l.only; joined = λ j lt h. l.joined j (omega (arith, le, lt)) lt h }

-- What is right stays right.
pub marks_right : (cs : List ClassDef) (w c k : ℕ) (a b : List Bool) → IsRight cs w a → has_kind cs c k ≡ true → Marks w c k a b → IsRight cs w b
marks_right cs w c k a b right h m d j low lt q =
    elim (m.only d j lt q) [ inl p ↦ right d j low lt p | inr p ↦ ap (λ (x : ℕ). has_kind cs x j) p.0 ∙ ap (λ (x : ℕ). has_kind cs c x) p.1 ∙ h ]

pub joins_right : (cs : List ClassDef) (w to from : ℕ) (a b : List Bool) → IsRight cs w a → from < length cs → ((k : ℕ) → has_kind cs from k ≡ true → has_kind cs to k ≡ true) → Joins w to from a b → IsRight cs w b
joins_right cs w to from a b right low h m d j lower lt q =
    elim (m.only d j lt q) [ inl p ↦ right d j lower lt p | inr p ↦ ap (λ (x : ℕ). has_kind cs x j) p.0 ∙ h j (right from j low lt p.1) ]

pub full_grows : (cs : List ClassDef) (w c : ℕ) (a b : List Bool) → Grows w a b → IsFull cs w a c → IsFull cs w b c
full_grows cs w c a b g full k lt h = g c k lt (full k lt h)
