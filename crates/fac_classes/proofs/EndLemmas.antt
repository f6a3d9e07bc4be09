-- Where no class reaches itself, all ways down by members end.
use Rattle.std.proofs.Common.{◌≡◌, ◌<◌, ◌≤◌, inl, inr, ℕ, zero, suc, ◌+◌, List, [], ◌∷◌, length, Bool, true, false, cond, not, refl, sym, ap, ◌∙◌, subst, arith}
use Rattle.std.specs.Prelude.{nat_eq, ◌||◌, Option, Some, None}
use Rattle.std.specs.List.{list_any, list_all}
use Rattle.std.proofs.lemmas.Bool.{cases_Bool, false_from_ne_true, or_cases, or_left, or_right}
use Rattle.fac_lang.specs.declared.program.Program.{Program}
use Rattle.fac_lang.specs.declared.program.ClassDef.{ClassDef}
use Rattle.fac_lang.specs.declared.program.Shape.{Shape}
use Rattle.fac_lang.specs.declared.program.Shape.TheVariants.{Kind as built_in, Tuple as tuple_class, Union as union, Single as single}
use Rattle.fac_lang.specs.Classes.{shape_at, parent_in, is_tuple}
use Rattle.fac_lang.specs.Whole.{reaches, parts_of, each_below, shape_fits, is_class}
use Rattle.fac_classes.specs.ClassKinds.{CanBeBuilt}
use Rattle.fac_classes.specs.inner.Members.{IsIn, members_in, members, ends, AreSound}
use Rattle.fac_classes.proofs.ListLemmas.{both_first, both_second, same_number, itself, at_most, among, in_among, all_true, true_of_all, not_true}

-- How many numbers below n aren't in a list.
abbrev free : List ℕ → ℕ → ℕ
free vs zero = zero
free vs (suc m) = cond (among m vs) (free vs m) (suc (free vs m))

free_all : (n : ℕ) → free [] n ≡ n
free_all zero = refl
free_all (suc n) = ap suc (free_all n)

free_step : (c : ℕ) (vs : List ℕ) (m : ℕ) (b a : Bool) → free (c ∷ vs) m ≤ free vs m → cond (b || a) (free (c ∷ vs) m) (suc (free (c ∷ vs) m)) ≤ cond a (free vs m) (suc (free vs m))
free_step c vs m true true h = h
free_step c vs m true false h = omega (arith, h)
free_step c vs m false true h = h
free_step c vs m false false h = omega (arith, h)

free_falls : (c : ℕ) (vs : List ℕ) (n : ℕ) → free (c ∷ vs) n ≤ free vs n
free_falls c vs zero = omega arith
free_falls c vs (suc m) = free_step c vs m (nat_eq m c) (among m vs) (free_falls c vs m)

free_here : (c : ℕ) (vs : List ℕ) (m : ℕ) (b a : Bool) → b ≡ true → a ≡ false → free (c ∷ vs) m ≤ free vs m → suc (cond (b || a) (free (c ∷ vs) m) (suc (free (c ∷ vs) m))) ≤ cond a (free vs m) (suc (free vs m))
free_here c vs m true true e f h = not_true (sym f)
free_here c vs m true false e f h = omega (arith, h)
free_here c vs m false a e f h = not_true e

free_there : (c : ℕ) (vs : List ℕ) (m : ℕ) (b a : Bool) → b ≡ false → suc (free (c ∷ vs) m) ≤ free vs m → suc (cond (b || a) (free (c ∷ vs) m) (suc (free (c ∷ vs) m))) ≤ cond a (free vs m) (suc (free vs m))
free_there c vs m true a e h = not_true (sym e)
free_there c vs m false true e h = h
free_there c vs m false false e h = omega (arith, h)

free_less : (c : ℕ) (vs : List ℕ) (n : ℕ) → c < n → among c vs ≡ false → suc (free (c ∷ vs) n) ≤ free vs n
free_less c vs zero lt new = absurd (omega (arith, lt))
free_less c vs (suc m) lt new =
    elim (cases_Bool (nat_eq m c)) [
      | inl e ↦ free_here c vs m (nat_eq m c) (among m vs) e (ap (λ (x : ℕ). among x vs) (same_number m c e) ∙ new) (free_falls c vs m)
      | inr e ↦ free_there c vs m (nat_eq m c) (among m vs) e (free_less c vs m (below m c lt e) new)
    ]
  where
    below : (m c : ℕ) → c < suc m → nat_eq m c ≡ false → c < m
    below m c lt e = grind arith

-- Ways by parents and members: one more step at the end, and a greater bound.
one_part : (f : ℕ) (cs : List ClassDef) (c : ℕ) (es : List ℕ) (m : ℕ) → IsIn m es → ((nat_eq c m || reaches f cs c m) ≡ true) → list_any (λ e. nat_eq c e || reaches f cs c e) es ≡ true
one_part f cs c [] m q h = absurd q
one_part f cs c (e ∷ es) m (inl same) h = or_left (nat_eq c e || reaches f cs c e) (list_any (λ x. nat_eq c x || reaches f cs c x) es) (ap (λ (x : ℕ). nat_eq c x || reaches f cs c x) (sym same) ∙ h)
one_part f cs c (e ∷ es) m (inr q) h = or_right (nat_eq c e || reaches f cs c e) (list_any (λ x. nat_eq c x || reaches f cs c x) es) (one_part f cs c es m q h)

further_parts : (f : ℕ) (cs : List ClassDef) (c : ℕ) → ((e : ℕ) → reaches f cs c e ≡ true → reaches (suc f) cs c e ≡ true) → (es : List ℕ) → list_any (λ e. nat_eq c e || reaches f cs c e) es ≡ true → list_any (λ e. nat_eq c e || reaches (suc f) cs c e) es ≡ true
further_parts f cs c more [] h = h
further_parts f cs c more (e ∷ es) h =
    elim (or_cases (nat_eq c e || reaches f cs c e) (list_any (λ x. nat_eq c x || reaches f cs c x) es) h) [
      | inl p ↦ or_left (nat_eq c e || reaches (suc f) cs c e) (list_any (λ x. nat_eq c x || reaches (suc f) cs c x) es)
          (elim (or_cases (nat_eq c e) (reaches f cs c e) p) [ inl q ↦ or_left (nat_eq c e) (reaches (suc f) cs c e) q | inr q ↦ or_right (nat_eq c e) (reaches (suc f) cs c e) (more e q) ])
      | inr p ↦ or_right (nat_eq c e || reaches (suc f) cs c e) (list_any (λ x. nat_eq c x || reaches (suc f) cs c x) es) (further_parts f cs c more es p)
    ]

further : (f : ℕ) (cs : List ClassDef) (c d : ℕ) → reaches f cs c d ≡ true → reaches (suc f) cs c d ≡ true
further zero cs c d h = not_true h
further (suc f) cs c d h = further_parts f cs c (λ e q. further f cs c e q) (parts_of (shape_at cs d)) h

further_to : (f g : ℕ) (cs : List ClassDef) (c d : ℕ) → f ≤ g → reaches f cs c d ≡ true → reaches g cs c d ≡ true
further_to f zero cs c d le h = let e : f ≡ 0 = omega (arith, le) in subst (λ (n : ℕ). reaches n cs c d ≡ true) e h
further_to f (suc g) cs c d le h =
    elim (cases_Bool (nat_eq f (suc g))) [
      | inl e ↦ subst (λ (n : ℕ). reaches n cs c d ≡ true) (same_number f (suc g) e) h
      | inr e ↦ further g cs c d (further_to f g cs c d (less f g le e) h)
    ]
  where
    less : (f g : ℕ) → f ≤ suc g → nat_eq f (suc g) ≡ false → f ≤ g
    less f g le e = grind arith

one_step : (f : ℕ) (cs : List ClassDef) (c m : ℕ) → IsIn m (parts_of (shape_at cs c)) → reaches (suc f) cs m c ≡ true
one_step f cs c m q = one_part f cs m (parts_of (shape_at cs c)) m q (or_left (nat_eq m m) (reaches f cs m m) (itself m))

step_parts : (f : ℕ) (cs : List ClassDef) (c m : ℕ) → IsIn m (parts_of (shape_at cs c)) → ((e : ℕ) → reaches f cs c e ≡ true → reaches (suc f) cs m e ≡ true) → (es : List ℕ) → list_any (λ e. nat_eq c e || reaches f cs c e) es ≡ true → list_any (λ e. nat_eq m e || reaches (suc f) cs m e) es ≡ true
step_parts f cs c m q more [] h = h
step_parts f cs c m q more (e ∷ es) h =
    elim (or_cases (nat_eq c e || reaches f cs c e) (list_any (λ x. nat_eq c x || reaches f cs c x) es) h) [
      | inl p ↦ or_left (nat_eq m e || reaches (suc f) cs m e) (list_any (λ x. nat_eq m x || reaches (suc f) cs m x) es)
          (or_right (nat_eq m e) (reaches (suc f) cs m e)
          (elim (or_cases (nat_eq c e) (reaches f cs c e) p) [ inl same ↦ subst (λ (x : ℕ). reaches (suc f) cs m x ≡ true) (same_number c e same) (one_step f cs c m q) | inr r ↦ more e r ]))
      | inr p ↦ or_right (nat_eq m e || reaches (suc f) cs m e) (list_any (λ x. nat_eq m x || reaches (suc f) cs m x) es) (step_parts f cs c m q more es p)
    ]

last_step : (f : ℕ) (cs : List ClassDef) (v c m : ℕ) → reaches f cs c v ≡ true → IsIn m (parts_of (shape_at cs c)) → reaches (suc f) cs m v ≡ true
last_step zero cs v c m h q = not_true h
last_step (suc f) cs v c m h q = step_parts f cs c m q (λ e r. last_step f cs e c m r q) (parts_of (shape_at cs v)) h

member_is_part : (s : Option Shape) (m : ℕ) → IsIn m (members_in s) → IsIn m (parts_of s)
member_is_part None m q = q
member_is_part (Some (built_in j)) m q = q
member_is_part (Some (tuple_class p ss)) m q = absurd q
member_is_part (Some (union ms)) m q = q
member_is_part (Some single) m q = q

-- A way down that comes from the classes of a list can't come back to one of them, so it ends before all classes are on it.
pub ends_from : (cs : List ClassDef) → ((c : ℕ) → c < length cs → reaches (length cs) cs c c ≡ false) → ((c m : ℕ) → IsIn m (members cs c) → m < length cs) →
    (f : ℕ) (vs : List ℕ) (c : ℕ) → c < length cs → among c vs ≡ false → free vs (length cs) ≤ f → length vs + f ≡ length cs → ((v : ℕ) → IsIn v vs → reaches (length vs) cs c v ≡ true) → ends f cs c ≡ true
ends_from cs straight low zero vs c lt new fr len back = let less = free_less c vs (length cs) lt new in absurd (omega (arith, less, fr))
ends_from cs straight low (suc f) vs c lt new fr len back =
    let less : suc (free (c ∷ vs) (length cs)) ≤ free vs (length cs) = free_less c vs (length cs) lt new in
    all_true (λ m. ends f cs m) (members cs c) (λ m q. ends_from cs straight low f (c ∷ vs) m (low c m q) (false_from_ne_true (among m (c ∷ vs)) (other m q)) (omega (arith, less, fr)) (omega (arith, len)) (behind m q))
  where
    part : (m : ℕ) → IsIn m (members cs c) → IsIn m (parts_of (shape_at cs c))
    part m q = member_is_part (shape_at cs c) m q

    behind : (m : ℕ) → IsIn m (members cs c) → (v : ℕ) → IsIn v (c ∷ vs) → reaches (suc (length vs)) cs m v ≡ true
    behind m q v (inl e) = subst (λ (x : ℕ). reaches (suc (length vs)) cs m x ≡ true) (sym e) (one_step (length vs) cs c m (part m q))
    behind m q v (inr r) = last_step (length vs) cs v c m (back v r) (part m q)

    other : (m : ℕ) → IsIn m (members cs c) → among m (c ∷ vs) ≡ true → ⊥
    other m q e = not_true (sym (straight m (low c m q)) ∙ further_to (suc (length vs)) (length cs) cs m m (omega (arith, len)) (behind m q m (in_among m (c ∷ vs) e)))

pub all_end : (cs : List ClassDef) → ((c : ℕ) → c < length cs → reaches (length cs) cs c c ≡ false) → ((c m : ℕ) → IsIn m (members cs c) → m < length cs) → (c : ℕ) → c < length cs → ends (length cs) cs c ≡ true
all_end cs straight low c lt = let all = free_all (length cs) in ends_from cs straight low (length cs) [] c lt refl (omega (arith, all)) (omega arith) (λ v q. absurd q)

-- What can be built is sound.
below_true : (test : ℕ → Bool) (n k : ℕ) → each_below test n ≡ true → k < n → test k ≡ true
below_true test zero k h lt = absurd (omega (arith, lt))
below_true test (suc n) k h lt =
    elim (cases_Bool (nat_eq k n)) [
      | inl e ↦ ap test (same_number k n e) ∙ both_first (test n) (each_below test n) h
      | inr e ↦ below_true test n k (both_second (test n) (each_below test n) h) (less k n lt e)
    ]
  where
    less : (k n : ℕ) → k < suc n → nat_eq k n ≡ false → k < n
    less k n lt e = grind arith

not_so : (b : Bool) → not b ≡ true → b ≡ false
not_so true h = not_true h
not_so false h = refl

fits_at : (P : Program) (ds : List ClassDef) (c : ℕ) (s : Shape) → list_all (λ d. shape_fits P d.shape) ds ≡ true → shape_at ds c ≡ Some s → shape_fits P s ≡ true
fits_at P [] c s h e = absurd cc
fits_at P (d ∷ ds) zero s h e = let same : d.shape ≡ s = cc in ap (shape_fits P) (sym same) ∙ both_first (shape_fits P d.shape) (list_all (λ x. shape_fits P x.shape) ds) h
fits_at P (d ∷ ds) (suc c) s h e = fits_at P ds c s (both_second (shape_fits P d.shape) (list_all (λ x. shape_fits P x.shape) ds) h) e

parent_fits : (P : Program) (c p : ℕ) → list_all (λ d. shape_fits P d.shape) P.classes ≡ true → (o : Option Shape) → shape_at P.classes c ≡ o → parent_in o ≡ Some p → is_tuple (shape_at P.classes p) ≡ true
parent_fits P c p h None e q = absurd cc
parent_fits P c p h (Some (built_in j)) e q = absurd cc
parent_fits P c p h (Some (tuple_class None ss)) e q = absurd cc
parent_fits P c p h (Some (tuple_class (Some r) ss)) e q =
    let same : r ≡ p = cc in
    subst (λ (x : ℕ). is_tuple (shape_at P.classes x) ≡ true) same (fits_at P P.classes c (tuple_class (Some r) ss) h e)
parent_fits P c p h (Some (union ms)) e q = absurd cc
parent_fits P c p h (Some single) e q = absurd cc

member_fits : (P : Program) (c m : ℕ) → list_all (λ d. shape_fits P d.shape) P.classes ≡ true → (o : Option Shape) → shape_at P.classes c ≡ o → IsIn m (members_in o) → m < length P.classes
member_fits P c m h None e q = absurd q
member_fits P c m h (Some (built_in j)) e q = absurd q
member_fits P c m h (Some (tuple_class p ss)) e q = absurd q
member_fits P c m h (Some (union ms)) e q = at_most m (length P.classes) (true_of_all (is_class P) ms m (fits_at P P.classes c (union ms) h e) q)
member_fits P c m h (Some single) e q = absurd q

pub built_sound : (P : Program) → CanBeBuilt P → AreSound P.classes
built_sound P can =
    let low = λ (c m : ℕ) (q : IsIn m (members P.classes c)). member_fits P c m can.shapes_fit (shape_at P.classes c) refl q in
    let straight = λ (c : ℕ) (lt : c < length P.classes). not_so (reaches (length P.classes) P.classes c c) (below_true (λ x. not (reaches (length P.classes) P.classes x x)) (length P.classes) c can.classes_end lt) in
    record {
      parents = λ c p q. parent_fits P c p can.shapes_fit (shape_at P.classes c) refl q;
      member_classes = low;
      ending = all_end P.classes straight low;
    }
