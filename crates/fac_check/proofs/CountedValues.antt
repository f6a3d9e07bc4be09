-- So many values on a list, as the promises say it and as the proofs of walks do.
use Rattle.std.proofs.Common.{◌≡◌, ℕ, zero, suc, List, [], ◌∷◌, ◌++◌, length, refl, ap, ◌∙◌, arith}
use Rattle.fac_lang.specs.Phrases.{Value}
use Rattle.fac_check.proofs.ItemsFit.{Over}

pub inputs_over : (n : ℕ) (inputs below list : List Value) → list ≡ inputs ++ below → length inputs ≡ n → Over n below list
inputs_over zero [] below list s e = s
inputs_over zero (x ∷ xs) below list s e = absurd (omega (arith, e))
inputs_over (suc n) [] below list s e = absurd (omega (arith, e))
inputs_over (suc n) (x ∷ xs) below list s e = (x, xs ++ below, s, inputs_over n xs below (xs ++ below) refl (omega (arith, e)))

pub outputs_over : (n : ℕ) (below list : List Value) → Over n below list → (vs : List Value) × (list ≡ vs ++ below) × (length vs ≡ n)
outputs_over zero below list e = ([], e, refl)
outputs_over (suc n) below list o = let more = outputs_over n below o.1 o.3 in (o.0 ∷ more.0, o.2 ∙ ap (λ (q : List Value). o.0 ∷ q) more.1, omega (arith, more.2))
