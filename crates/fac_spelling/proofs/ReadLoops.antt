-- Reading values one after the other, as a loop does.
use Rattle.std.proofs.Common.{◌≡◌, ℕ, suc, ◌-◌, ◌+◌, ◌≤◌, ◌<◌, List, [], ◌∷◌, ◌++◌, Result, Ok, Err, refl, sym, ap, ◌∙◌, append_assoc, arith}
use Rattle.std.proofs.lemmas.List.{append-nil}
use Rattle.fac_spelling.specs.declared.fault.ReadFault.{ReadFault}
use Rattle.fac_spelling.specs.declared.fault.ReadFault.TheVariants as faults
use Rattle.fac_spelling.specs.Formats.{◌>>=◌, Format, all_at}
use Rattle.fac_spelling.specs.Reads.{Fails}

-- what was read before, and what is still read
abbrev pub with_front : {A : Type 0} → List A → Result (List A × List ℕ) ℕ → Result (List A × List ℕ) ℕ
with_front front read = read >>= λ x. Ok (front ++ x.0, x.1)

abbrev done : {A : Type 0} → A → Result A ℕ
done x = Ok x

regroup : {A : Type 0} (front : List A) (x : A) (read : Result (List A × List ℕ) ℕ) → with_front front (read >>= λ q. done {A = List A × List ℕ} (x ∷ q.0, q.1)) ≡ with_front (front ++ x ∷ []) read
regroup {A = A} front x (Ok q) = ap (λ (xs : List A). done {A = List A × List ℕ} (xs, q.1)) (simp append_assoc)
regroup front x (Err left) = refl

pub goes_on : {A S : Type 0} (g : ℕ → S → Format A) (next : S → A → S) (front : List A) (count i : ℕ) (s : S) (bytes : List ℕ) (x : A) (after : List ℕ) (total : Result (List A × List ℕ) ℕ) → i < count
    → (g (count - (i + 1)) s).read bytes ≡ Ok (x, after) → with_front front (all_at g next (count - i) s bytes) ≡ total → with_front (front ++ x ∷ []) (all_at g next (count - (i + 1)) (next s x) after) ≡ total
unfolding all_at
goes_on g next front count i s bytes x after total lt h so_far =
    let k : count - i ≡ suc (count - (i + 1)) = omega arith in
    let one : with_front front (all_at g next (count - i) s bytes) ≡ with_front (front ++ x ∷ []) (all_at g next (count - (i + 1)) (next s x) after) = rw (k, h) (regroup front x (all_at g next (count - (i + 1)) (next s x) after)) in
    sym one ∙ so_far

pub ends : {A S : Type 0} (g : ℕ → S → Format A) (next : S → A → S) (e : ReadFault) (front : List A) (count i : ℕ) (s : S) (bytes : List ℕ) (total : Result (List A × List ℕ) ℕ) → i < count
    → Fails e ((g (count - (i + 1)) s).read bytes) → with_front front (all_at g next (count - i) s bytes) ≡ total → Fails e total
unfolding all_at
ends g next faults.Memory front count i s bytes total lt h so_far = tt
ends {A = A} g next (faults.Refused left) front count i s bytes total lt h so_far =
    let k : count - i ≡ suc (count - (i + 1)) = omega arith in
    let one : with_front front (all_at g next (count - i) s bytes) ≡ Err left = rw (k, h) refl in
    sym so_far ∙ one

pub is_done : {A S : Type 0} (g : ℕ → S → Format A) (next : S → A → S) (front : List A) (count i : ℕ) (s : S) (bytes : List ℕ) (total : Result (List A × List ℕ) ℕ) → count ≤ i → with_front front (all_at g next (count - i) s bytes) ≡ total → total ≡ Ok (front, bytes)
unfolding all_at
is_done {A = A} g next front count i s bytes total le so_far =
    let k : count - i ≡ 0 = omega arith in
    let one : with_front front (all_at g next (count - i) s bytes) ≡ Ok (front, bytes) = rw k (ap (λ (xs : List A). done {A = List A × List ℕ} (xs, bytes)) (append-nil front)) in
    sym so_far ∙ one
