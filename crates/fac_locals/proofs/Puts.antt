-- What stands in a list after elements were put at numbers.
use Rattle.std.proofs.Common.{◌≡◌, ◌<◌, ◌≤◌, ◌⊎◌, inl, inr, ℕ, zero, suc, ◌+◌, List, [], ◌∷◌, ◌++◌, length, set, Bool, true, false, Some, refl, sym, ap, ◌∙◌, subst, length-set, arith}
use Rattle.std.specs.Prelude.{slice_get, nat_eq}
use Rattle.std.proofs.lemmas.Bool.{eqb-true, eqb-false, cases_eq}
use Rattle.fac_lang.specs.Whole.{times_in}
use Rattle.fac_locals.specs.inner.Numbering.{put_all}

-- the numbers at which elements are put
abbrev pub keys : {A : Type 0} → List (ℕ × A) → List ℕ
keys [] = []
keys (w ∷ ws) = w.0 ∷ keys ws

-- all of them are as they are to be
abbrev pub AllOf : {A : Type 0} → (ℕ → A → Type 0) → List (ℕ × A) → Type 0
AllOf R [] = Unit {0}
AllOf R (w ∷ ws) = R w.0 w.1 × AllOf R ws

-- one is put at this number
abbrev pub IsPut : {A : Type 0} → ℕ → List (ℕ × A) → Type 0
IsPut k [] = ⊥
IsPut k (w ∷ ws) = (k ≡ w.0) ⊎ IsPut k ws

-- this one is put at this number
abbrev pub IsEntry : {A : Type 0} → ℕ → A → List (ℕ × A) → Type 0
IsEntry k x [] = ⊥
IsEntry k x (w ∷ ws) = ((k ≡ w.0) × (x ≡ w.1)) ⊎ IsEntry k x ws

-- what stands at this number is as it is to be
abbrev pub Has : {A : Type 0} → (ℕ → A → Type 0) → List A → ℕ → Type 0
Has {A} R xs k = (x : A) × (slice_get xs k ≡ Some x) × R k x

pub all_both : {A : Type 0} (R : ℕ → A → Type 0) (vs ws : List (ℕ × A)) → AllOf R vs → AllOf R ws → AllOf R (vs ++ ws)
all_both R [] ws h k = k
all_both R (v ∷ vs) ws h k = (h.0, all_both R vs ws h.1 k)

pub put_left : {A : Type 0} (k : ℕ) (vs ws : List (ℕ × A)) → IsPut k vs → IsPut k (vs ++ ws)
put_left k [] ws h = absurd h
put_left k (v ∷ vs) ws (inl e) = inl e
put_left k (v ∷ vs) ws (inr h) = inr (put_left k vs ws h)

pub put_right : {A : Type 0} (k : ℕ) (vs ws : List (ℕ × A)) → IsPut k ws → IsPut k (vs ++ ws)
put_right k [] ws h = h
put_right k (v ∷ vs) ws h = inr (put_right k vs ws h)

pub entry_left : {A : Type 0} (k : ℕ) (x : A) (vs ws : List (ℕ × A)) → IsEntry k x vs → IsEntry k x (vs ++ ws)
entry_left k x [] ws h = absurd h
entry_left k x (v ∷ vs) ws (inl e) = inl e
entry_left k x (v ∷ vs) ws (inr h) = inr (entry_left k x vs ws h)

pub entry_right : {A : Type 0} (k : ℕ) (x : A) (vs ws : List (ℕ × A)) → IsEntry k x ws → IsEntry k x (vs ++ ws)
entry_right k x [] ws h = h
entry_right k x (v ∷ vs) ws h = inr (entry_right k x vs ws h)

pub set_here : {A : Type 0} (xs : List A) (k : ℕ) (y : A) → k < length xs → slice_get (set xs k y) k ≡ Some y
set_here [] k y lt = absurd (omega (arith, lt))
set_here (x ∷ xs) zero y lt = refl
set_here (x ∷ xs) (suc k) y lt = set_here xs k y (omega (arith, lt))

pub set_other : {A : Type 0} (xs : List A) (k v : ℕ) (y : A) → (v ≡ k → ⊥) → slice_get (set xs k y) v ≡ slice_get xs v
set_other [] k v y other = refl
set_other (c ∷ xs) zero zero y other = absurd (other refl)
set_other (c ∷ xs) zero (suc v) y other = refl
set_other (c ∷ xs) (suc k) zero y other = refl
set_other (c ∷ xs) (suc k) (suc v) y other = set_other xs k v y (λ (e : v ≡ k). other (ap suc e))

inside : {A : Type 0} (xs : List A) (k : ℕ) (x : A) → slice_get xs k ≡ Some x → k < length xs
inside [] k x e = absurd cc
inside (y ∷ xs) zero x e = omega arith
inside (y ∷ xs) (suc k) x e = let lt = inside xs k x e in omega (arith, lt)

set_has : {A : Type 0} (R : ℕ → A → Type 0) (xs : List A) (j k : ℕ) (y : A) → Has R xs k → R j y → Has R (set xs j y) k
set_has R xs j k y h r = go (cases_eq k j) where
  go : (k ≡ j) ⊎ (k ≡ j → ⊥) → Has R (set xs j y) k
  go (inl e) = subst (λ (n : ℕ). Has R (set xs n y) k) e (y, set_here xs k y (inside xs k h.0 h.1), subst (λ (n : ℕ). R n y) (sym e) r)
  go (inr ne) = (h.0, set_other xs j k y ne ∙ h.1, h.2)

-- what is as it is to be stays so
pub put_keeps : {A : Type 0} (R : ℕ → A → Type 0) (xs : List A) (ws : List (ℕ × A)) (k : ℕ) → AllOf R ws → Has R xs k → Has R (put_all xs ws) k
put_keeps R xs [] k all h = h
put_keeps R xs (w ∷ ws) k all h = put_keeps R (set xs w.0 w.1) ws k all.1 (set_has R xs w.0 k w.1 h all.0)

-- where one is put, it is as it is to be
pub put_there : {A : Type 0} (R : ℕ → A → Type 0) (xs : List A) (ws : List (ℕ × A)) (k : ℕ) → AllOf R ws → IsPut k ws → k < length xs → Has R (put_all xs ws) k
put_there R xs [] k all h lt = absurd h
put_there R xs (w ∷ ws) k all (inl e) lt =
    put_keeps R (set xs w.0 w.1) ws k all.1 (subst (λ (n : ℕ). Has R (set xs n w.1) k) e (w.1, set_here xs k w.1 lt, subst (λ (n : ℕ). R n w.1) (sym e) all.0))
put_there R xs (w ∷ ws) k all (inr h) lt = put_there R (set xs w.0 w.1) ws k all.1 h (omega (arith, lt, length-set xs w.0 w.1))

abbrev pub counted : Bool → ℕ → ℕ
counted b n = elim b [ true ↦ suc n | false ↦ n ]

none_here : (k m n : ℕ) (b : Bool) → nat_eq k m ≡ b → counted b n ≡ 0 → (k ≡ m → ⊥) × (n ≡ 0)
none_here k m n true e h = absurd (omega (arith, h))
none_here k m n false e h = (eqb-false k m e, h)

-- what no number names stays as it was
pub put_elsewhere : {A : Type 0} (xs : List A) (ws : List (ℕ × A)) (k : ℕ) → times_in k (keys ws) ≡ 0 → slice_get (put_all xs ws) k ≡ slice_get xs k
put_elsewhere xs [] k h = refl
put_elsewhere xs (w ∷ ws) k h =
    let none = none_here k w.0 (times_in k (keys ws)) (nat_eq k w.0) refl h in
    put_elsewhere (set xs w.0 w.1) ws k none.1 ∙ set_other xs w.0 k w.1 none.0

some_here : (k m n : ℕ) (b : Bool) → nat_eq k m ≡ b → 0 < counted b n → (k ≡ m) ⊎ (0 < n)
some_here k m n true e h = inl (eqb-true k m e)
some_here k m n false e h = inr h

here_or : (A B C : Type 0) → (B → C) → A ⊎ B → A ⊎ C
here_or A B C f (inl a) = inl a
here_or A B C f (inr b) = inr (f b)

-- a number that is named is put
pub named_put : {A : Type 0} (ws : List (ℕ × A)) (k : ℕ) → 0 < times_in k (keys ws) → IsPut k ws
named_put [] k h = absurd (omega (arith, h))
named_put (w ∷ ws) k h = here_or (k ≡ w.0) (0 < times_in k (keys ws)) (IsPut k ws) (named_put ws k) (some_here k w.0 (times_in k (keys ws)) (nat_eq k w.0) refl h)

itself_counted : (k m n : ℕ) (b : Bool) → nat_eq k m ≡ b → k ≡ m → counted b n ≡ suc n
itself_counted k m n true e h = refl
itself_counted k m n false e h = absurd (eqb-false k m e h)

at_least : (n : ℕ) (b : Bool) → n ≤ counted b n
at_least n true = omega arith
at_least n false = omega arith

-- an entry's number is named
pub entry_named : {A : Type 0} (ws : List (ℕ × A)) (k : ℕ) (x : A) → IsEntry k x ws → 0 < times_in k (keys ws)
entry_named [] k x h = absurd h
entry_named (w ∷ ws) k x (inl e) = let one = itself_counted k w.0 (times_in k (keys ws)) (nat_eq k w.0) refl e.0 in omega (arith, one)
entry_named (w ∷ ws) k x (inr h) =
    let more = entry_named ws k x h in
    let least = at_least (times_in k (keys ws)) (nat_eq k w.0) in
    omega (arith, more, least)

-- what is put at a number that is named once stands there
pub put_once : {A : Type 0} (xs : List A) (ws : List (ℕ × A)) (k : ℕ) (x : A) → IsEntry k x ws → times_in k (keys ws) ≤ 1 → k < length xs → slice_get (put_all xs ws) k ≡ Some x
put_once xs [] k x h once lt = absurd h
put_once {A = A} xs (w ∷ ws) k x (inl e) once lt =
    let one = itself_counted k w.0 (times_in k (keys ws)) (nat_eq k w.0) refl e.0 in
    let none : times_in k (keys ws) ≡ 0 = omega (arith, one, once) in
    put_elsewhere (set xs w.0 w.1) ws k none ∙ subst (λ (n : ℕ). slice_get (set xs n w.1) k ≡ Some x) e.0 (set_here xs k w.1 lt ∙ ap (λ (y : A). Some y) (sym e.1))
put_once xs (w ∷ ws) k x (inr h) once lt =
    let least = at_least (times_in k (keys ws)) (nat_eq k w.0) in
    put_once (set xs w.0 w.1) ws k x h (omega (arith, once, least)) (omega (arith, lt, length-set xs w.0 w.1))

one_or_none : (n m k : ℕ) (b : Bool) → n ≡ m + k → counted b n ≡ counted b m + k
one_or_none n m k true e = omega (arith, e)
one_or_none n m k false e = e

-- numbers in two lists
pub times_both : (k : ℕ) (xs ys : List ℕ) → times_in k (xs ++ ys) ≡ times_in k xs + times_in k ys
times_both k [] ys = omega arith
times_both k (x ∷ xs) ys = one_or_none (times_in k (xs ++ ys)) (times_in k xs) (times_in k ys) (nat_eq k x) (times_both k xs ys)

pub keys_both : {A : Type 0} (vs ws : List (ℕ × A)) → keys (vs ++ ws) ≡ keys vs ++ keys ws
keys_both [] ws = refl
keys_both (v ∷ vs) ws = ap (λ (ks : List ℕ). v.0 ∷ ks) (keys_both vs ws)
