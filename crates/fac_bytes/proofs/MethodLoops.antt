-- Which numbers are taken when some methods were read.
use Rattle.std.proofs.Common.{◌≡◌, refl, ℕ, List, [], ◌∷◌, ◌++◌, sym, ap, ◌∙◌, append_assoc}
use Rattle.fac_code.specs.declared.image.MethodRow.{MethodRow}
use Rattle.fac_bytes.specs.GenericBytes.{numbers_of}

numbers_more : (ms : List MethodRow) (m : MethodRow) → numbers_of (ms ++ m ∷ []) ≡ numbers_of ms ++ m.number ∷ []
numbers_more [] m = refl
numbers_more (n ∷ ms) m = ap (λ (z : List ℕ). n.number ∷ z) (numbers_more ms m)

pub takes_on : (start taken : List ℕ) (ms : List MethodRow) (m : MethodRow) → taken ≡ start ++ numbers_of ms → taken ++ m.number ∷ [] ≡ start ++ numbers_of (ms ++ m ∷ [])
takes_on start taken ms m e = ap (λ (z : List ℕ). z ++ m.number ∷ []) e ∙ append_assoc start (numbers_of ms) (m.number ∷ []) ∙ ap (λ (z : List ℕ). start ++ z) (sym (numbers_more ms m))
