-- The least height of a phrase, by what its walks from each number of inputs find.
use Rattle.std.proofs.Common.{◌≡◌, ℕ, zero, suc, ◌+◌, ◌<◌, ◌≤◌, length, true, false, Option, Some, None, refl, ap, ◌∙◌, subst, arith}
use Rattle.std.specs.Prelude.{nat_le}
use Rattle.fac_base.specs.declared.height.Height.{Height}
use Rattle.fac_lang.specs.declared.program.Program.{Program}
use Rattle.fac_base.specs.HeightArithmetic.{most_values}
use Rattle.fac_lang.specs.Phrases.{Phrase}
use Rattle.fac_abs.specs.Marks.{AbstractStack, dead, on}
use Rattle.fac_check.specs.Flow.{Walked, found, refused}
use Rattle.fac_check.specs.CallableEffects.{least_height}
use Rattle.fac_check.specs.TemplateWalks.{walked_alone, found_height}
use Rattle.fac_check.specs.TemplateEffects.{within_outs}

-- the height where a walk from i inputs comes to this, and that from more inputs to the last argument
abbrev least_by : ℕ → Walked AbstractStack → Option Height → Option Height
least_by i (found dead n) rest = Some (record { ins = i; outs = None })
least_by i (found (on b ms) n) rest = within_outs (Some (length ms)) (record { ins = i; outs = Some (length ms) })
least_by i (refused r p) rest = rest

least_is : (i : ℕ) (rest : Option Height) (W : Walked AbstractStack) →
    (let o : Option Height = elim W [ found A n ↦ elim A [ dead ↦ Some (record { ins = i; outs = None }) | on b ms ↦ elim (nat_le (length ms) most_values) [ true ↦ Some (record { ins = i; outs = Some (length ms) }) | false ↦ None ] ] | refused r p ↦ rest ] in
    o ≡ least_by i W rest)
least_is i rest (found dead n) = refl
least_is i rest (found (on b ms) n) = refl
least_is i rest (refused r p) = refl

goes_on : (i : ℕ) (rest : Option Height) (W : Walked AbstractStack) → None ≡ found_height i W → least_by i W rest ≡ rest
goes_on i rest (found dead n) e = absurd cc
goes_on i rest (found (on b ms) n) e = absurd cc
goes_on i rest (refused r p) e = refl

stops : (i : ℕ) (rest : Option Height) (W : Walked AbstractStack) (h : Height) → Some h ≡ found_height i W → least_by i W rest ≡ within_outs h.outs h
stops i rest (found dead n) h e = (let same : record { ins = i; outs = None } ≡ h = cc in ap (λ (k : Height). within_outs k.outs k) same)
stops i rest (found (on b ms) n) h e = (let same : record { ins = i; outs = Some (length ms) } ≡ h = cc in ap (λ (k : Height). within_outs k.outs k) same)
stops i rest (refused r p) h e = absurd cc

module _ (P : Program) (t : Phrase) where
  first_step : (k i : ℕ) → least_height P (suc k) i t ≡ least_by i (walked_alone P i t) (least_height P k (suc i) t)
  first_step k i = least_is i (least_height P k (suc i) t) (walked_alone P i t)

  -- none, where each number of inputs that is tried breaks a rule
  pub none_of_all : (k i : ℕ) → ((j : ℕ) → i ≤ j → j < i + k → None ≡ found_height j (walked_alone P j t)) → least_height P k i t ≡ None
  none_of_all zero i all = refl
  none_of_all (suc k) i all =
      first_step k i ∙ goes_on i (least_height P k (suc i) t) (walked_alone P i t) (all i (omega arith) (omega arith)) ∙ none_of_all k (suc i) (λ j le lt. all j (omega (arith, le)) (omega (arith, lt)))

  -- what is found n inputs later, where each before breaks a rule
  pub least_found : (n k i top : ℕ) (h : Height) → top ≡ i + n → n < k → ((j : ℕ) → i ≤ j → j < top → None ≡ found_height j (walked_alone P j t)) → Some h ≡ found_height top (walked_alone P top t) → least_height P k i t ≡ within_outs h.outs h
  least_found n zero i top h is lt all e = absurd (omega (arith, lt))
  least_found zero (suc k) i top h is lt all e =
      let here : top ≡ i = omega (arith, is) in
      first_step k i ∙ stops i (least_height P k (suc i) t) (walked_alone P i t) h (subst (λ (j : ℕ). Some h ≡ found_height j (walked_alone P j t)) here e)
  least_found (suc n) (suc k) i top h is lt all e =
      first_step k i ∙ goes_on i (least_height P k (suc i) t) (walked_alone P i t) (all i (omega arith) (omega (arith, is))) ∙ least_found n k (suc i) top h (omega (arith, is)) (omega (arith, lt)) (λ j le less. all j (omega (arith, le)) less) e
