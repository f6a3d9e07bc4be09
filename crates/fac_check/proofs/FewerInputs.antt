-- A phrase that breaks a rule of the walk from some unknown values breaks one from fewer.
use Rattle.std.proofs.Common.{◌≡◌, ℕ, zero, suc, ◌+◌, ◌≤◌, ◌-◌, List, [], ◌∷◌, ◌++◌, None, refl, sym, ap, ◌∙◌, subst, arith}
use Rattle.fac_lang.specs.declared.program.Program.{Program}
use Rattle.fac_lang.specs.Phrases.{Phrase, Mark, any}
use Rattle.fac_abs.specs.Marks.{AbstractStack, dead, on, unknowns}
use Rattle.fac_locals.specs.Literals.{first_of_word}
use Rattle.fac_check.specs.Flow.{Walked, found, refused, walk, doing, most_steps, most_nested, most_walked}
use Rattle.fac_check.specs.CallableEffects.{no_word}
use Rattle.fac_check.specs.MarksBelow.{with_below}
use Rattle.fac_check.specs.TemplateWalks.{walked_alone, found_height}
use Rattle.fac_check.proofs.MarksBelowStay.{marks_below_stay}

-- unknown values below others
more_unknowns : (i k : ℕ) → unknowns i [] ++ unknowns k [] ≡ unknowns (i + k) []
more_unknowns zero k = (let e : 0 + k ≡ k = omega arith in ap (λ (n : ℕ). unknowns n []) (sym e))
more_unknowns (suc i) k = (let e : suc i + k ≡ suc (i + k) = omega arith in ap (λ (t : List Mark). any ∷ t) (more_unknowns i k) ∙ ap (λ (n : ℕ). unknowns n []) (sym e))

-- the walk of a phrase by itself
alone_stays : (P : Program) (t : Phrase) (i k n : ℕ) (A : AbstractStack) → walked_alone P i t ≡ found A n → walked_alone P (i + k) t ≡ found (with_below (unknowns k []) A) n
alone_stays P t i k n A e =
    subst (λ (ms : List Mark). walk None (doing P None) most_steps (first_of_word no_word) most_nested t None ms most_walked ≡ found (with_below (unknowns k []) A) n) (more_unknowns i k) (marks_below_stay P most_steps most_nested most_walked n (first_of_word no_word) t None (unknowns i []) (unknowns k []) A e)

is_found : (i : ℕ) (A : AbstractStack) (n : ℕ) → None ≡ found_height i (found A n) → ⊥
is_found i dead n e = absurd cc
is_found i (on b ms) n e = absurd cc

none_by : (P : Program) (t : Phrase) (i k : ℕ) (W : Walked AbstractStack) → walked_alone P i t ≡ W → None ≡ found_height (i + k) (walked_alone P (i + k) t) → None ≡ found_height i W
none_by P t i k (refused r p) is e = refl
none_by P t i k (found A n) is e = absurd (is_found (i + k) (with_below (unknowns k []) A) n (e ∙ ap (found_height (i + k)) (alone_stays P t i k n A is)))

pub none_with_fewer : (P : Program) (t : Phrase) (i j : ℕ) → i ≤ j → None ≡ found_height j (walked_alone P j t) → None ≡ found_height i (walked_alone P i t)
none_with_fewer P t i j le e =
    let more : j ≡ i + (j - i) = omega (arith, le) in
    none_by P t i (j - i) (walked_alone P i t) refl (subst (λ (n : ℕ). None ≡ found_height n (walked_alone P n t)) more e)
