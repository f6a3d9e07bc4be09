-- A class set has the kinds of its class.
use Rattle.std.proofs.Common.{◌≡◌, ◌<◌, ◌≤◌, ◌⊎◌, inl, inr, ℕ, zero, suc, ◌+◌, ◌-◌, List, [], ◌∷◌, ◌++◌, length, Bool, true, false, Option, Some, None, refl, ap, sym, ◌∙◌, arith, true≢false}
use Rattle.std.proofs.lemmas.Bool.{ltb-true, cases_lt}
use Rattle.std.proofs.lemmas.List.Folds.{list_any-append}
use Rattle.std.specs.Prelude.{◌||◌, ◌&&◌, nat_eq, nat_lt, nat_le, slice_get}
use Rattle.std.specs.List.{list_any}
use Rattle.fac_lang.specs.declared.program.ClassDef.{ClassDef}
use Rattle.fac_lang.specs.declared.program.Shape.{Shape}
use Rattle.fac_lang.specs.declared.program.Shape.TheVariants.{Kind as built_in, Tuple as tuple_class, Union as union, Single as single}
use Rattle.fac_lang.specs.Classes.{has_own, own_kind, class_with, shape_at, descends_if, is_single, is_tuple, shape_with, own_count, any, shape_has, has_kind_within, has_kind}
use Rattle.fac_classes.specs.ClassKinds.{kind_total, kinds_below, kinds_of}
use Rattle.fac_machine.specs.Machine.{set_has}
use Rattle.fac_emit.specs.ProgramTables.{sets_from}
use Rattle.fac_emit.proofs.TextLemmas.{or_left, or_right}

never_true : {A : Type 0} → false ≡ true → A
never_true h = absurd (true≢false (sym h))

both_true : (a b : Bool) → (a && b) ≡ true → (a ≡ true) × (b ≡ true)
both_true true b h = (refl, h)
both_true false b h = never_true h

or_true : (a b : Bool) → (a || b) ≡ true → (a ≡ true) ⊎ (b ≡ true)
or_true true b h = inl refl
or_true false b h = inr h

same_bool : (a b : Bool) → (a ≡ true → b ≡ true) → (b ≡ true → a ≡ true) → a ≡ b
same_bool true true f g = refl
same_bool false false f g = refl
same_bool true false f g = sym (f refl)
same_bool false true f g = g refl

same_number : (j k : ℕ) → nat_eq j k ≡ true → j ≡ k
same_number j k h = grind arith

itself : (j : ℕ) → nat_eq j j ≡ true
itself j = grind arith

-- A kind that is the own one of a class is below the number of all kinds.
own_by : (c k : ℕ) (ds : List ClassDef) (b e : Bool) (x : ℕ) → nat_eq k 8 ≡ e → ((y : ℕ) → class_with (suc c) ds (k - 1) ≡ Some y → k - 1 < 8 + own_count ds) → ((y : ℕ) → class_with (suc c) ds k ≡ Some y → k < 8 + own_count ds) →
    (let o : Option ℕ = elim b [ true ↦ elim e [ true ↦ Some c | false ↦ class_with (suc c) ds (k - 1) ] | false ↦ class_with (suc c) ds k ] in o ≡ Some x) → k < 8 + elim b [ true ↦ suc (own_count ds) | false ↦ own_count ds ]
own_by c k ds true true x is f g h = let same = same_number k 8 is in omega (arith, same)
own_by c k ds true false x is f g h = let lt = f x h in omega (arith, lt)
own_by c k ds false e x is f g h = g x h

class_with_below : (c k : ℕ) (ds : List ClassDef) (x : ℕ) → class_with c ds k ≡ Some x → k < 8 + own_count ds
class_with_below c k [] x h = absurd (cc)
class_with_below c k (d ∷ ds) x h = own_by c k ds (has_own d.shape) (nat_eq k 8) x refl (λ y e. class_with_below (suc c) (k - 1) ds y e) (λ y e. class_with_below (suc c) k ds y e) h

kind_by : (n : ℕ) (ds : List ClassDef) (b : Bool) (x : ℕ) → (let o : Option ℕ = elim b [ true ↦ Some n | false ↦ None ] in o ≡ Some x) → x < n + elim b [ true ↦ suc (own_count ds) | false ↦ own_count ds ]
kind_by n ds true x h = let same : n ≡ x = cc in omega (arith, same)
kind_by n ds false x h = absurd (cc)

later_by : (n c : ℕ) (ds : List ClassDef) (b : Bool) (x : ℕ) → (own_kind (suc n) ds c ≡ Some x → x < suc n + own_count ds) → (own_kind n ds c ≡ Some x → x < n + own_count ds) →
    elim b [ true ↦ own_kind (suc n) ds c | false ↦ own_kind n ds c ] ≡ Some x → x < n + elim b [ true ↦ suc (own_count ds) | false ↦ own_count ds ]
later_by n c ds true x f g h = let lt = f h in omega (arith, lt)
later_by n c ds false x f g h = g h

own_kind_below : (n c : ℕ) (ds : List ClassDef) (x : ℕ) → own_kind n ds c ≡ Some x → x < n + own_count ds
own_kind_below n c [] x h = absurd (cc)
own_kind_below n zero (d ∷ ds) x h = kind_by n ds (has_own d.shape) x h
own_kind_below n (suc c) (d ∷ ds) x h = later_by n c ds (has_own d.shape) x (own_kind_below (suc n) c ds x) (own_kind_below n c ds x) h

module _ (cs : List ClassDef) where
  abbrev IsBelow : ℕ → Type 0
  IsBelow k = k < 8 + own_count cs

  -- the shape of the class that has a kind as its own
  with_shape : (test : Option Shape → Bool) (k : ℕ) (o : Option ℕ) → class_with 0 cs k ≡ o → test None ≡ false → test (elim o [ Some d ↦ shape_at cs d | None ↦ None ]) ≡ true → IsBelow k
  with_shape test k (Some d) e none h = class_with_below 0 k cs d e
  with_shape test k None e none h = never_true (sym none ∙ h)

  descending : (n c k : ℕ) (o : Option ℕ) → class_with 0 cs k ≡ o → descends_if n cs c o ≡ true → IsBelow k
  descending n c k (Some d) e h = class_with_below 0 k cs d e
  descending n c k None e h = never_true h

  owned : (c k : ℕ) (o : Option ℕ) → own_kind 8 cs c ≡ o → elim o [ None ↦ false | Some j ↦ nat_eq j k ] ≡ true → IsBelow k
  owned c k None e h = never_true h
  owned c k (Some j) e h = let same = same_number j k h in let lt = own_kind_below 8 c cs j e in omega (arith, same, lt)

  single_or : (j k : ℕ) → nat_lt j 8 ≡ true → (nat_eq j k || (nat_eq j 5 && nat_le 8 k && is_single (shape_with cs k))) ≡ true → IsBelow k
  single_or j k small h =
      elim (or_true (nat_eq j k) (nat_eq j 5 && nat_le 8 k && is_single (shape_with cs k)) h) [
        | inl e ↦ (let same = same_number j k e in let lt = ltb-true j 8 small in omega (arith, same, lt))
        | inr e ↦ with_shape is_single k (class_with 0 cs k) refl refl (both_true (nat_eq j 5 && nat_le 8 k) (is_single (shape_with cs k)) e).1
      ]

  one_of_two : (k : ℕ) → (nat_eq k 1 || nat_eq k 2) ≡ true → IsBelow k
  one_of_two k h =
      elim (or_true (nat_eq k 1) (nat_eq k 2) h) [ inl e ↦ (let same = same_number k 1 e in omega (arith, same)) | inr e ↦ (let same = same_number k 2 e in omega (arith, same)) ]

  one_of_three : (k : ℕ) → (nat_eq k 3 || nat_eq k 4 || nat_eq k 6) ≡ true → IsBelow k
  one_of_three k h =
      elim (or_true (nat_eq k 3 || nat_eq k 4) (nat_eq k 6) h) [
        | inl f ↦ elim (or_true (nat_eq k 3) (nat_eq k 4) f) [ inl e ↦ (let same = same_number k 3 e in omega (arith, same)) | inr e ↦ (let same = same_number k 4 e in omega (arith, same)) ]
        | inr e ↦ (let same = same_number k 6 e in omega (arith, same))
      ]

  built_in_by :
      (j k : ℕ) (a b c d : Bool) → nat_lt j 8 ≡ a →
      elim a [ true ↦ nat_eq j k || (nat_eq j 5 && nat_le 8 k && is_single (shape_with cs k)) | false ↦ elim b [ true ↦ nat_eq k 1 || nat_eq k 2 | false ↦ elim c [ true ↦ nat_eq k 3 || nat_eq k 4 || nat_eq k 6 | false ↦ elim d [ true ↦ nat_le 8 k && is_tuple (shape_with cs k) | false ↦ nat_lt k (8 + own_count cs) ] ] ] ] ≡ true → IsBelow k
  built_in_by j k true b c d e h = single_or j k e h
  built_in_by j k false true c d e h = one_of_two k h
  built_in_by j k false false true d e h = one_of_three k h
  built_in_by j k false false false true e h = with_shape is_tuple k (class_with 0 cs k) refl refl (both_true (nat_le 8 k) (is_tuple (shape_with cs k)) h).1
  built_in_by j k false false false false e h = ltb-true k (8 + own_count cs) h

  any_below : (member : ℕ → Bool) (k : ℕ) (ms : List ℕ) → ((m : ℕ) → member m ≡ true → IsBelow k) → any member ms ≡ true → IsBelow k
  any_below member k [] f h = never_true h
  any_below member k (m ∷ ms) f h = by (member m) refl (any_below member k ms f) h
    where
      by : (b : Bool) → member m ≡ b → (any member ms ≡ true → IsBelow k) → elim b [ true ↦ true | false ↦ any member ms ] ≡ true → IsBelow k
      by true e more h = f m e
      by false e more h = more h

  shape_below : (member : ℕ → Bool) (c k : ℕ) (o : Option Shape) → ((m : ℕ) → member m ≡ true → IsBelow k) → shape_has member cs c o k ≡ true → IsBelow k
  shape_below member c k None f h = never_true h
  shape_below member c k (Some (built_in j)) f h = built_in_by j k (nat_lt j 8) (nat_eq j 8) (nat_eq j 9) (nat_eq j 10) refl h
  shape_below member c k (Some (tuple_class p ss)) f h = descending (length cs) c k (class_with 0 cs k) refl (both_true (nat_le 8 k) (descends_if (length cs) cs c (class_with 0 cs k)) h).1
  shape_below member c k (Some (union ms)) f h = any_below member k ms f h
  shape_below member c k (Some single) f h = owned c k (own_kind 8 cs c) refl h

  within_below : (n c k : ℕ) → has_kind_within n cs c k ≡ true → IsBelow k
  within_below zero c k h = never_true h
  within_below (suc n) c k h = shape_below (λ m. has_kind_within n cs m k) c k (shape_at cs c) (λ m e. within_below n m k e) h

  -- A class has no kind but those that there are.
  pub kind_below : (c k : ℕ) → has_kind cs c k ≡ true → k < kind_total cs
  kind_below c k h = within_below (length cs) c k h

  -- The list of a class's kinds.
  listed_by : (c n j : ℕ) (b : Bool) → has_kind cs c n ≡ b → (list_any (nat_eq j) (kinds_below cs c n) ≡ true → has_kind cs c j ≡ true) →
      list_any (nat_eq j) (elim b [ true ↦ kinds_below cs c n ++ n ∷ [] | false ↦ kinds_below cs c n ]) ≡ true → has_kind cs c j ≡ true
  listed_by c n j true e more h =
      elim (or_true (list_any (nat_eq j) (kinds_below cs c n)) (nat_eq j n || false) (sym (list_any-append (nat_eq j) (kinds_below cs c n) (n ∷ [])) ∙ h)) [
        | inl q ↦ more q
        | inr q ↦ elim (or_true (nat_eq j n) false q) [ inl r ↦ ap (has_kind cs c) (same_number j n r) ∙ e | inr r ↦ never_true r ]
      ]
  listed_by c n j false e more h = more h

  listed : (c n j : ℕ) → list_any (nat_eq j) (kinds_below cs c n) ≡ true → has_kind cs c j ≡ true
  listed c zero j h = never_true h
  listed c (suc n) j h = listed_by c n j (has_kind cs c n) refl (listed c n j) h

  lists_by : (c n j : ℕ) (b : Bool) → has_kind cs c n ≡ b → has_kind cs c j ≡ true → (j < n) ⊎ (n ≤ j) → j < suc n → (j < n → list_any (nat_eq j) (kinds_below cs c n) ≡ true) →
      list_any (nat_eq j) (elim b [ true ↦ kinds_below cs c n ++ n ∷ [] | false ↦ kinds_below cs c n ]) ≡ true
  lists_by c n j true e h (inl lt) under more = list_any-append (nat_eq j) (kinds_below cs c n) (n ∷ []) ∙ or_left (list_any (nat_eq j) (kinds_below cs c n)) (nat_eq j n || false) (more lt)
  lists_by c n j true e h (inr ge) under more =
      let same : j ≡ n = omega (arith, ge, under) in
      list_any-append (nat_eq j) (kinds_below cs c n) (n ∷ []) ∙ or_right (list_any (nat_eq j) (kinds_below cs c n)) (nat_eq j n || false) (or_left (nat_eq j n) false (rw same (itself n)))
  lists_by c n j false e h (inl lt) under more = more lt
  lists_by c n j false e h (inr ge) under more = let same : j ≡ n = omega (arith, ge, under) in never_true (sym e ∙ ap (has_kind cs c) (sym same) ∙ h)

  lists : (c n j : ℕ) → j < n → has_kind cs c j ≡ true → list_any (nat_eq j) (kinds_below cs c n) ≡ true
  lists c zero j lt h = absurd (omega (arith, lt))
  lists c (suc n) j lt h = lists_by c n j (has_kind cs c n) refl h (cases_lt j n) lt (λ less. lists c n j less h)

  pub kinds_same : (c j : ℕ) → list_any (nat_eq j) (kinds_of cs c) ≡ has_kind cs c j
  kinds_same c j = same_bool (list_any (nat_eq j) (kinds_of cs c)) (has_kind cs c j) (listed c (kind_total cs) j) (λ h. lists c (kind_total cs) j (kind_below c j h) h)

  -- that of a number that no class has
  nothing : (n c j : ℕ) → slice_get cs c ≡ None → has_kind_within n cs c j ≡ false
  nothing zero c j e = refl
  nothing (suc n) c j e = ap (λ (o : Option ClassDef). shape_has (λ m. has_kind_within n cs m j) cs c (elim o [ Some d ↦ Some d.shape | None ↦ None ]) j) e

  sets_at : (v : ℕ) (ds : List ClassDef) (c : ℕ) → slice_get (sets_from cs v ds) c ≡ elim (slice_get ds c) [ Some d ↦ Some (kinds_of cs (v + c)) | None ↦ None ]
  sets_at v [] c = refl
  sets_at v (d ∷ ds) zero = let n : v + 0 ≡ v = omega arith in rw n refl
  sets_at v (d ∷ ds) (suc c) =
      let n : suc v + c ≡ v + suc c = omega arith in sets_at (suc v) ds c ∙ ap (λ (n : ℕ). elim (slice_get ds c) [ Some d ↦ Some (kinds_of cs n) | None ↦ None ]) n

  -- A set with the number of its class has just the kinds of that class.
  pub set_same : (c j : ℕ) → set_has (slice_get (sets_from cs 0 cs) c) j ≡ has_kind cs c j
  set_same c j = ap (λ (o : Option (List ℕ)). set_has o j) (sets_at 0 cs c) ∙ by (slice_get cs c) refl
    where
      by : (o : Option ClassDef) → slice_get cs c ≡ o → set_has (elim o [ Some d ↦ Some (kinds_of cs (0 + c)) | None ↦ None ]) j ≡ has_kind cs c j
      by None e = sym (nothing (length cs) c j e)
      by (Some d) e = let n : 0 + c ≡ c = omega arith in rw n (kinds_same c j)
