-- Where no class leads back to itself, each way up ends, and more steps up find no more slots.
use Rattle.std.proofs.Common.{◌≡◌, ◌<◌, ◌≤◌, inl, inr, ℕ, zero, suc, ◌+◌, List, length, Bool, true, false, Option, Some, None, refl, sym, ap, ◌∙◌, subst, arith}
use Rattle.std.specs.Prelude.{nat_eq, ◌||◌}
use Rattle.std.proofs.lemmas.Bool.{or_left, or_right, or_cases}
use Rattle.fac_lang.specs.declared.program.ClassDef.{ClassDef}
use Rattle.fac_lang.specs.Classes.{shape_at, parent_in, slots_within}
use Rattle.fac_graph.specs.Paths.{LeadsTo, by_edge, and_edge}
use Rattle.fac_graph.specs.Laws.{class_edges}
use Rattle.fac_graph.specs.inner.Climbing.{of_parent, ends}
use Rattle.fac_graph.proofs.NumberLists.{same_number, at_or_behind}
use Rattle.fac_graph.proofs.Settling.{count, count_full, count_more}
use Rattle.fac_graph.proofs.SlotLemmas.{ends_soon, is_least, none_ends, parent_edge, steps_same}

by_test : (b : Bool) → (b ≡ true → ⊥) → b ≡ false
by_test true h = absurd (h refl)
by_test false h = refl

same_here : (c : ℕ) → nat_eq c c ≡ true
same_here c = grind arith

module _ (cs : List ClassDef) (round : (c : ℕ) → LeadsTo (class_edges cs) c c → ⊥) where
  -- one class further up
  further : (c : ℕ) (o : Option ℕ) → parent_in (shape_at cs c) ≡ o → ((p : ℕ) → o ≡ Some p → (k : ℕ) × (ends k cs p ≡ true)) → (k : ℕ) × (ends k cs c ≡ true)
  further c None is rest = (1, ap (of_parent (ends 0 cs)) is)
  further c (Some p) is rest = let up = rest p refl in (suc up.0, ap (of_parent (ends up.0 cs)) is ∙ up.1)

  -- the classes that were met lead to this one, and at most m others were not
  way_ends : (m : ℕ) (met : ℕ → Bool) (c : ℕ) → length cs ≤ count met (length cs) + m → ((x : ℕ) → met x ≡ true → LeadsTo (class_edges cs) x c) → (k : ℕ) × (ends k cs c ≡ true)
  way_ends zero met c few leads = elim (at_or_behind (length cs) c) [
    | inl lt ↦ absurd (round c (leads c (count_full met (length cs) c (omega (arith, few)) lt)))
    | inr le ↦ (0, is_least (length cs) c le)
  ]
  way_ends (suc m) met c few leads = elim (at_or_behind (length cs) c) [
    | inl lt ↦ further c (parent_in (shape_at cs c)) refl (λ p is.
        let more = count_more met (λ x. nat_eq x c || met x) (length cs) (λ x e. or_right (nat_eq x c) (met x) e) (record { at = c; low = lt; fails = by_test (met c) (λ e. round c (leads c e)); passes = or_left (nat_eq c c) (met c) (same_here c) }) in
        way_ends m (λ x. nat_eq x c || met x) p (omega (arith, few, more)) (λ x e. elim (or_cases (nat_eq x c) (met x) e) [
          | inl same ↦ by_edge (parent_edge cs x p (ap (λ (y : ℕ). parent_in (shape_at cs y)) (same_number x c same) ∙ is))
          | inr before ↦ and_edge c (leads x before) (parent_edge cs c p is)
        ]))
    | inr le ↦ (0, is_least (length cs) c le)
  ]

  all_end : (c : ℕ) → ends (length cs) cs c ≡ true
  all_end c = elim (at_or_behind (length cs) c) [
    | inl lt ↦ let way = way_ends (length cs) (λ x. false) c (omega arith) (λ x e. absurd (let clash : false ≡ true = e in cc)) in ends_soon cs way.0 c lt way.1
    | inr le ↦ none_ends cs (length cs) c le
  ]

  -- more steps than there are classes find what so many do
  pub slots_settle : (j n c : ℕ) → n ≡ length cs + j → slots_within n cs c ≡ slots_within (length cs) cs c
  slots_settle j n c is = sym (steps_same cs j (length cs) n c is (all_end c))
