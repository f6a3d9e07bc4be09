-- The search for the least number of inputs.
use Rattle.std.proofs.Common.{◌≡◌, ℕ, suc, ◌+◌, ◌<◌, ◌≤◌, length, map, Option, Some, None, refl, sym, ap, subst, arith}
use Rattle.fac_base.specs.declared.height.Height.{Height}
use Rattle.fac_lang.specs.Phrases.{held}
use Rattle.fac_abs.specs.Marks.{AbstractStack, dead, on}
use Rattle.fac_locals.specs.Frames.{template_phrase}
use Rattle.fac_locals.specs.declared.closing.Closed.{Closed}
use Rattle.fac_check.specs.Flow.{Walked, found, refused}
use Rattle.fac_check.specs.CallableEffects.{forgotten, most_inputs}
use Rattle.fac_check.specs.TemplateWalks.{walked_alone, found_height, IsFoundHeight}
use Rattle.fac_check.proofs.FewerInputs.{none_with_fewer}
use Rattle.fac_check.specs.TemplateEffects.{within_outs, IsEffect}
use Rattle.fac_check.specs.inner.Searching.{BreaksBelow, FoundAt, IsLeast}
use Rattle.fac_check.proofs.LeastHeights.{none_of_all, least_found}

-- Fewer inputs than `low` break a rule, and with `high` something is found, or it is more than are tried.
pub record Narrowed (closed : Closed) (k low high : ℕ) (found : Option Height) : Type 0 where
  pub ordered : low ≤ high
  pub below : BreaksBelow closed k low
  pub best : FoundAt closed k high found

pub narrowed_first : (closed : Closed) (k : ℕ) → Narrowed closed k 0 1025 None
narrowed_first closed k = record { ordered = omega arith; below = λ i lt. absurd (omega (arith, lt)); best = refl }

-- the inputs of a height are those with which it was found
inputs_are : (i : ℕ) (h : Height) (W : Walked AbstractStack) → Some h ≡ found_height i W → Some (record { ins = i; outs = h.outs }) ≡ found_height i W
inputs_are i h (found dead n) e = (let same : record { ins = i; outs = None } ≡ h = cc in ap (λ (g : Height). Some (record { ins = i; outs = g.outs })) (sym same))
inputs_are i h (found (on b ms) n) e = (let same : record { ins = i; outs = Some (length ms) } ≡ h = cc in ap (λ (g : Height). Some (record { ins = i; outs = g.outs })) (sym same))
inputs_are i h (refused r p) e = absurd cc

pub narrowed_found : (closed : Closed) (k low high i : ℕ) (o : Option Height) (h : Height) → low ≤ i → i < high → high ≤ 1025 → Narrowed closed k low high o → IsFoundHeight closed k i (Some h) → Narrowed closed k low i (Some (record { ins = i; outs = h.outs }))
narrowed_found closed k low high i o h from under most s is = record {
  ordered = from;
  below = s.below;
  best = (refl, omega (arith, under, most), λ P closes whole t vs at many. inputs_are i h (walked_alone P i (forgotten (template_phrase P k (map held vs)))) (is P closes whole t vs at many));
}

pub narrowed_none : (closed : Closed) (k low high i : ℕ) (o : Option Height) → low ≤ i → i < high → Narrowed closed k low high o → IsFoundHeight closed k i None → Narrowed closed k (i + 1) high o
narrowed_none closed k low high i o from under s is = record {
  ordered = omega (arith, under);
  below = λ j lt P closes whole t vs at many. none_with_fewer P (forgotten (template_phrase P k (map held vs))) j i (omega (arith, lt)) (is P closes whole t vs at many);
  best = s.best;
}

-- no more than one too many are tried
pub narrowed_most : (closed : Closed) (k low high : ℕ) (o : Option Height) → Narrowed closed k low high o → high ≤ 1025
narrowed_most closed k low high None s = (let e = s.best in omega (arith, e))
narrowed_most closed k low high (Some h) s = (let e = s.best.1 in omega (arith, e))

pub narrowed_last : (closed : Closed) (k low high : ℕ) (o : Option Height) → high ≤ low → Narrowed closed k low high o → IsLeast closed k o
narrowed_last closed k low high None over s = (let e = s.best in λ i lt. s.below i (omega (arith, e, over, lt)))
narrowed_last closed k low high (Some h) over s =
    let same = s.best.0 in
    ((λ i lt. s.below i (omega (arith, same, over, lt))), (let le = s.best.1 in omega (arith, le, same)), subst (λ (n : ℕ). IsFoundHeight closed k n (Some h)) (sym same) s.best.2)

-- The least one is the effect.
pub effect_found : (closed : Closed) (k : ℕ) (h : Height) → IsLeast closed k (Some h) → IsEffect closed k (within_outs h.outs h)
effect_found closed k h s = λ P closes whole t vs at many. (
    let u = forgotten (template_phrase P k (map held vs)) in
    let few = s.1 in
    sym (least_found P u h.ins (suc most_inputs) 0 h.ins h (omega arith) (omega (arith, few)) (λ j le lt. s.0 j lt P closes whole t vs at many) (s.2 P closes whole t vs at many))
    )

pub effect_none : (closed : Closed) (k : ℕ) → IsLeast closed k None → IsEffect closed k None
effect_none closed k s = λ P closes whole t vs at many. (
    let u = forgotten (template_phrase P k (map held vs)) in
    sym (none_of_all P u (suc most_inputs) 0 (λ j le lt. s j (omega (arith, lt)) P closes whole t vs at many))
    )
