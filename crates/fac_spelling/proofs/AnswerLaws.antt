-- From what reading answers to what a call on all of the bytes ensures.
use Rattle.std.proofs.Common.{◌≡◌, ℕ, ◌≤◌, Bool, true, false, cond, List, [], ◌∷◌, length, Result, Ok, Err, refl, sym, ap, subst, ◌∙◌, arith, inl, inr}
use Rattle.std.proofs.lemmas.Bool.{both_ways}
use Rattle.std.proofs.lemmas.List.{length-append}
use Rattle.fac_spelling.specs.declared.whole.WholeFault.{WholeFault}
use Rattle.fac_spelling.specs.declared.whole.WholeFault.TheVariants as faults
use Rattle.fac_spelling.specs.Formats.{Format, Exact, Right}
use Rattle.fac_spelling.specs.Whole.{Spells, SpellsBy, IsBroken, IsRefused, Says}
use Rattle.fac_spelling.specs.Answers.{IsFound, IsOnly, IsPlace}
use Rattle.fac_spelling.specs.inner.WholeReading.{finish, placed, all_of, IsAnswer}
use Rattle.fac_spelling.proofs.FormatLaws.{ok_is, not_both}
use Rattle.fac_spelling.proofs.WholeLaws.{all_says, all_again}

-- no rule
abbrev pub any : {A : Type 0} → A → Bool
any x = true

-- no more is left than there is
pub left_le : {A : Type 0} (f : Format A) → Exact f → (bytes : List ℕ) (left : ℕ) → f.read bytes ≡ Err left → left ≤ length bytes
left_le f e bytes left is =
    let r : Right f bytes (Err left) = subst (Right f bytes) is (e.right bytes) in
    omega (arith, ap length r.parts, length-append r.front r.rest, r.size)

pub rest_le : {A : Type 0} (f : Format A) → Exact f → (bytes : List ℕ) (x : A) (rest : List ℕ) → f.read bytes ≡ Ok (x, rest) → length rest ≤ length bytes
rest_le f e bytes x rest is =
    let r : Right f bytes (Ok (x, rest)) = subst (Right f bytes) is (e.right bytes) in
    omega (arith, ap length r.parts, length-append (f.spell x) rest)

-- ---- with a rule

pub found_by : {A : Type 0} (f : Format A) (rule : A → Bool) → Exact f → (bytes : List ℕ) (result : Result A WholeFault) → IsAnswer result (all_of f rule bytes) → IsFound result (λ x. SpellsBy f rule bytes x)
found_by f rule e bytes (Ok x) h = subst (Says f rule bytes) h (all_says f rule e bytes)
found_by f rule e bytes (Err fault) h = tt

pub only_by : {A : Type 0} (f : Format A) (rule : A → Bool) → Exact f → (bytes : List ℕ) (result : Result A WholeFault) → IsAnswer result (all_of f rule bytes) → (x : A) → SpellsBy f rule bytes x → IsOnly result x
only_by f rule e bytes (Ok y) h x w = ok_is y x (sym h ∙ (ap (all_of f rule) w.is ∙ all_again f rule e x w.fits w.kept))
only_by f rule e bytes (Err faults.Memory) h x w = tt
only_by f rule e bytes (Err (faults.Broken at)) h x w = not_both x at (sym (ap (all_of f rule) w.is ∙ all_again f rule e x w.fits w.kept) ∙ h)

pub place_by : {A : Type 0} (f : Format A) (rule : A → Bool) → Exact f → (bytes : List ℕ) (result : Result A WholeFault) → IsAnswer result (all_of f rule bytes) → IsPlace result (λ at. IsRefused f rule bytes at)
place_by f rule e bytes (Ok x) h = tt
place_by f rule e bytes (Err faults.Memory) h = tt
place_by f rule e bytes (Err (faults.Broken at)) h = subst (Says f rule bytes) h (all_says f rule e bytes)

-- ---- without a rule

broken : {A : Type 0} (f : Format A) (bytes : List ℕ) (at : ℕ) → IsRefused f any bytes at → IsBroken f bytes at
broken f bytes at (inl h) = h
broken f bytes at (inr h) = absurd (both_ways true h.broken refl)

pub found : {A : Type 0} (f : Format A) → Exact f → (bytes : List ℕ) (result : Result A WholeFault) → IsAnswer result (all_of f any bytes) → IsFound result (λ x. Spells f bytes x)
found f e bytes (Ok x) h = let s = found_by f any e bytes (Ok x) h in record { fits = s.fits; is = s.is }
found f e bytes (Err fault) h = tt

pub only : {A : Type 0} (f : Format A) → Exact f → (bytes : List ℕ) (result : Result A WholeFault) → IsAnswer result (all_of f any bytes) → (x : A) → Spells f bytes x → IsOnly result x
only f e bytes result h x w = only_by f any e bytes result h x (record { fits = w.fits; kept = refl; is = w.is })

pub place : {A : Type 0} (f : Format A) → Exact f → (bytes : List ℕ) (result : Result A WholeFault) → IsAnswer result (all_of f any bytes) → IsPlace result (λ at. IsBroken f bytes at)
place f e bytes (Ok x) h = tt
place f e bytes (Err faults.Memory) h = tt
place f e bytes (Err (faults.Broken at)) h = broken f bytes at (place_by f any e bytes (Err (faults.Broken at)) h)

-- ---- from the answer without a rule to that with one

ruled : {A : Type 0} (rule : A → Bool) (total : ℕ) (x : A) (r : Result (A × List ℕ) ℕ) → placed any total r ≡ Ok x → placed rule total r ≡ cond (rule x) (Ok x) (Err total)
ruled {A = A} rule total x (Ok p) h = at p.0 p.1 h
  where
    at : (y : A) (rest : List ℕ) → finish any total y rest ≡ Ok x → finish rule total y rest ≡ cond (rule x) (Ok x) (Err total)
    at y [] h = ap (λ (z : A). cond (rule z) (Ok z) (Err total)) (ok_is y x h)
    at y (c ∷ cs) h = absurd (not_both x _ (sym h))
ruled rule total x (Err left) h = absurd (not_both x _ (sym h))

pub keeps_rule : {A : Type 0} (f : Format A) (rule : A → Bool) (bytes : List ℕ) (x : A) → rule x ≡ true → all_of f any bytes ≡ Ok x → all_of f rule bytes ≡ Ok x
keeps_rule f rule bytes x k h = ruled rule (length bytes) x (f.read bytes) h ∙ rw k refl

pub breaks_rule : {A : Type 0} (f : Format A) (rule : A → Bool) (bytes : List ℕ) (x : A) → rule x ≡ false → all_of f any bytes ≡ Ok x → all_of f rule bytes ≡ Err (length bytes)
breaks_rule f rule bytes x k h = ruled rule (length bytes) x (f.read bytes) h ∙ rw k refl

fails : {A : Type 0} (rule : A → Bool) (total at : ℕ) (r : Result (A × List ℕ) ℕ) → placed any total r ≡ Err at → placed rule total r ≡ Err at
fails {A = A} rule total place (Ok p) h = at p.0 p.1 h
  where
    at : (y : A) (rest : List ℕ) → finish any total y rest ≡ Err place → finish rule total y rest ≡ Err place
    at y [] h = absurd (not_both y place h)
    at y (c ∷ cs) h = h
fails rule total place (Err left) h = h

pub fault_stays : {A : Type 0} (f : Format A) (rule : A → Bool) (bytes : List ℕ) (fault : WholeFault) → IsAnswer {A = A} (Err fault) (all_of f any bytes) → IsAnswer {A = A} (Err fault) (all_of f rule bytes)
fault_stays f rule bytes faults.Memory h = tt
fault_stays f rule bytes (faults.Broken at) h = fails rule (length bytes) at (f.read bytes) h
