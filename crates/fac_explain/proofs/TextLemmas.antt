-- Texts that are added one behind the other.
use Rattle.std.proofs.Common.{◌≡◌, ℕ, List, ◌++◌, Result, Ok, Err, OnOk, ap, ◌∙◌, append_assoc}

-- what was added first, and what was added behind it
pub then_more : {A E : Type 0} (r : Result A E) (out a one rest last : List ℕ) → one ≡ out ++ a → OnOk r (last ≡ one ++ rest) → OnOk r (last ≡ out ++ (a ++ rest))
then_more (Ok x) out a one rest last e h = h ∙ ap (λ (xs : List ℕ). xs ++ rest) e ∙ append_assoc out a rest
then_more (Err x) out a one rest last e h = tt
