-- All of the bytes: the value, or the exact place.
use Rattle.std.proofs.Common.{◌≡◌, ℕ, suc, ◌-◌, ◌<◌, Bool, true, false, cond, List, [], ◌∷◌, ◌++◌, length, Result, Ok, Err, refl, sym, ap, subst, ◌∙◌, append_assoc, arith, ◌⊎◌, inl, inr}
use Rattle.std.proofs.lemmas.List.{append-nil, length-append, nil_from_length}
use Rattle.std.proofs.lemmas.Bool.{cases_lt, both_ways}
use Rattle.fac_spelling.proofs.FormatLaws.{one_front, none_at_front, compare}
use Rattle.fac_spelling.specs.Formats.{Format, Begins, Ends, Refused, Right, Exact}
use Rattle.fac_spelling.specs.Whole.{Spells, IsBroken, Says}
use Rattle.fac_spelling.specs.inner.WholeReading.{finish, placed, all_of}

-- no two values have the same bytes
pub one_value : {A : Type 0} (f : Format A) → Exact f → (x y : A) → f.Fits x → f.Fits y → f.spell x ≡ f.spell y → x ≡ y
one_value f e x y hx hy same = (one_front f e x y [] [] hx hy (ap (λ (z : List ℕ). z ++ []) same)).0

abbrev failed : (A : Type 0) → ℕ → Result A ℕ
failed A left = Err left

broken_by : {A : Type 0} (f : Format A) → Exact f → (bytes : List ℕ) (left : ℕ) → f.read bytes ≡ failed (A × List ℕ) left → Refused f bytes left → IsBroken f bytes (length bytes - left)
broken_by f e bytes left is r = record {
  front = r.front;
  rest = r.rest;
  parts = r.parts;
  size = omega (arith, ap length r.parts, length-append r.front r.rest, r.size);
  begins = r.begins;
  ends = r.ends;
  none = λ y h same. none_at_front f e bytes left y [] is h (same ∙ sym (append-nil (f.spell y)));
}

-- bytes after a value's
after_ends : {A : Type 0} (f : Format A) → Exact f → (x : A) → f.Fits x → (c : ℕ) → Begins f (f.spell x ++ c ∷ []) → ⊥
after_ends f e x h c w =
    let r = one_front f e w.value x [] (c ∷ w.more) w.fits h (append-nil (f.spell w.value) ∙ w.is ∙ append_assoc (f.spell x) (c ∷ []) w.more) in
    let n : 0 ≡ length (c ∷ w.more) = ap length r.1 in
    omega arith

broken_after : {A : Type 0} (f : Format A) → Exact f → (bytes : List ℕ) (x : A) (c : ℕ) (cs : List ℕ) → f.Fits x → bytes ≡ f.spell x ++ c ∷ cs → IsBroken f bytes (length bytes - suc (length cs))
broken_after f e bytes x c cs h parts = record {
  front = f.spell x;
  rest = c ∷ cs;
  parts = parts;
  size = omega (arith, ap length parts, length-append (f.spell x) (c ∷ cs));
  begins = record { value = x; fits = h; more = []; is = sym (append-nil (f.spell x)) };
  ends = after_ends f e x h c;
  none = λ y k same. let r = one_front f e x y (c ∷ cs) [] h k (sym parts ∙ same ∙ sym (append-nil (f.spell y))) in
      omega (arith, ap length r.1);
}

by_rule : {A : Type 0} (f : Format A) (rule : A → Bool) (bytes : List ℕ) (x : A) → f.Fits x → bytes ≡ f.spell x → (t : Bool) → rule x ≡ t → Says f rule bytes (cond t (Ok x) (Err (length bytes)))
by_rule f rule bytes x h is true e = record { fits = h; kept = e; is = is }
by_rule f rule bytes x h is false e = inr (record { value = x; fits = h; is = is; broken = e; size = refl })

finish_says : {A : Type 0} (f : Format A) (rule : A → Bool) → Exact f → (bytes : List ℕ) (x : A) (rest : List ℕ) → f.Fits x → bytes ≡ f.spell x ++ rest → Says f rule bytes (finish rule (length bytes) x rest)
finish_says f rule e bytes x [] h parts = by_rule f rule bytes x h (parts ∙ append-nil (f.spell x)) (rule x) refl
finish_says f rule e bytes x (c ∷ cs) h parts = inl (broken_after f e bytes x c cs h parts)

placed_says : {A : Type 0} (f : Format A) (rule : A → Bool) → Exact f → (bytes : List ℕ) (r : Result (A × List ℕ) ℕ) → f.read bytes ≡ r → Right f bytes r → Says f rule bytes (placed rule (length bytes) r)
placed_says f rule e bytes (Ok p) is h = finish_says f rule e bytes p.0 p.1 h.fits h.parts
placed_says f rule e bytes (Err left) is h = inl (broken_by f e bytes left is h)

-- What reading all of the bytes answers is so.
pub all_says : {A : Type 0} (f : Format A) (rule : A → Bool) → Exact f → (bytes : List ℕ) → Says f rule bytes (all_of f rule bytes)
all_says f rule e bytes = placed_says f rule e bytes (f.read bytes) refl (e.right bytes)

-- What is spelled is read again.
pub all_again : {A : Type 0} (f : Format A) (rule : A → Bool) → Exact f → (x : A) → f.Fits x → rule x ≡ true → all_of f rule (f.spell x) ≡ Ok x
all_again {A = A} f rule e x h k =
    let r : f.read (f.spell x) ≡ Ok (x, []) = ap f.read (sym (append-nil (f.spell x))) ∙ e.again x [] h in
    rw (r, k) refl

-- No other bytes give it.
pub all_only : {A : Type 0} (f : Format A) (rule : A → Bool) → Exact f → (bytes : List ℕ) (x : A) → all_of f rule bytes ≡ Ok x → bytes ≡ f.spell x
all_only {A = A} f rule e bytes x is = (subst (Says f rule bytes) is (all_says f rule e bytes)).is

-- ---- one place, and each proper front

-- what begins goes on along its own bytes
begins_shorter : {A : Type 0} (f : Format A) (a b : List ℕ) → Begins f (a ++ b) → Begins f a
begins_shorter f a b w = record { value = w.value; fits = w.fits; more = b ++ w.more; is = w.is ∙ append_assoc a b w.more }

-- a place is never past another: with its next byte nothing goes on
not_past : {A : Type 0} (f : Format A) (bytes : List ℕ) (m n : ℕ) → IsBroken f bytes m → IsBroken f bytes n → m < n → ⊥
not_past f bytes m n p q lt = go p.rest p.parts p.ends
  where
    go : (rest : List ℕ) → bytes ≡ p.front ++ rest → Ends f p.front rest → ⊥
    go [] parts ends =
        omega (arith, ap length parts, length-append p.front [], p.size, ap length q.parts, length-append q.front q.rest, q.size)
    go (b ∷ bs) parts ends =
        elim (compare (p.front ++ b ∷ []) bs q.front q.rest (append_assoc p.front (b ∷ []) bs ∙ sym parts ∙ q.parts)) as (λ _. ⊥) [
          | inl k ↦ ends (begins_shorter f (p.front ++ b ∷ []) k.0 (subst (Begins f) k.1 q.begins))
          | inr k ↦ let e : k.0 ≡ [] = nil_from_length k.0 (omega (arith, ap length k.1, length-append q.front k.0, length-append p.front (b ∷ []), p.size, q.size)) in
              ends (subst (Begins f) (sym (k.1 ∙ ap (λ (z : List ℕ). q.front ++ z) e ∙ append-nil q.front)) q.begins)
        ]

pub one_place : {A : Type 0} (f : Format A) (bytes : List ℕ) (m n : ℕ) → IsBroken f bytes m → IsBroken f bytes n → m ≡ n
one_place f bytes m n p q = elim (cases_lt m n) [
  | inl lt ↦ absurd (not_past f bytes m n p q lt)
  | inr le ↦ elim (cases_lt n m) [
    | inl lt ↦ absurd (not_past f bytes n m q p lt)
    | inr ge ↦ omega arith
  ]
]

-- a proper front of a value's bytes is refused at its own length
pub front_broken : {A : Type 0} (f : Format A) → Exact f → (x : A) (front : List ℕ) (b : ℕ) (bs : List ℕ) → f.Fits x → f.spell x ≡ front ++ b ∷ bs → IsBroken f front (length front)
front_broken f e x front b bs h is = record {
  front = front;
  rest = [];
  parts = sym (append-nil front);
  size = refl;
  begins = record { value = x; fits = h; more = b ∷ bs; is = is };
  ends = tt;
  none = λ y k same. let r = one_front f e x y [] (b ∷ bs) h k (append-nil (f.spell x) ∙ is ∙ ap (λ (z : List ℕ). z ++ b ∷ bs) same) in
      omega (arith, ap length r.1);
}

-- ---- as the laws of the code say it

pub spelled_once : {A : Type 0} (f : Format A) → Exact f → (bytes : List ℕ) (x y : A) → Spells f bytes x → Spells f bytes y → x ≡ y
spelled_once f e bytes x y p q = one_value f e x y p.fits q.fits (sym p.is ∙ q.is)

no_rule : {A : Type 0} (f : Format A) (bytes : List ℕ) (r : Result A ℕ) → Says f (λ _. true) bytes r → ((x : A) × Spells f bytes x) ⊎ ((at : ℕ) × IsBroken f bytes at)
no_rule f bytes (Ok x) h = inl (x, record { fits = h.fits; is = h.is })
no_rule f bytes (Err at) (inl h) = inr (at, h)
no_rule f bytes (Err at) (inr h) = absurd (both_ways true h.broken refl)

pub spelled_or_broken : {A : Type 0} (f : Format A) → Exact f → (bytes : List ℕ) → ((x : A) × Spells f bytes x) ⊎ ((at : ℕ) × IsBroken f bytes at)
spelled_or_broken f e bytes = no_rule f bytes (all_of f (λ _. true) bytes) (all_says f (λ _. true) e bytes)
