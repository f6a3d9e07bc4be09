-- The effects of the templates of a closed program.
use Rattle.std.specs.Prelude.{◌≡◌, ◌+◌, ℕ, List, map, length, true, false, nat_le, Some, None, slice_get}
use Rattle.std.specs.declared.option.Option.{Option}
use Rattle.fac_base.specs.declared.height.Height.{Height}
use Rattle.fac_lang.specs.declared.phrase.Template.{Template}
use Rattle.fac_base.specs.HeightArithmetic.{most_values}
use Rattle.fac_lang.specs.Phrases.{held, Value, of_phrase}
use Rattle.fac_locals.specs.Frames.{template_phrase}
use Rattle.fac_locals.specs.declared.closing.Closed.{Closed}
use Rattle.fac_check.specs.CallableEffects.{callable_height}
use Rattle.fac_check.specs.Judged.{OfEach}

-- a height, where it leaves so many values and they aren't too many
abbrev pub within_outs : Option ℕ → Height → Option Height
within_outs None h = Some h
within_outs (Some o) h = elim (nat_le o most_values) [ true ↦ Some h | false ↦ None ]

-- That of the template with this number: in each whole program for which the closed one stands, and whatever values a callable of it holds, the effect of that callable.
abbrev pub IsEffect : Closed → ℕ → Option Height → Type 0
IsEffect closed k height =
    OfEach closed (λ P. (t : Template) (vs : List Value) → slice_get closed.templates k ≡ Some t → length vs ≡ length t.captures + t.holes → height ≡ callable_height P (of_phrase (template_phrase P k (map held vs))))

-- those of all templates, in their order
pub record AreEffects (closed : Closed) (heights : List (Option Height)) : Type 0 where
  pub count : length heights ≡ length closed.templates
  pub each : (k : ℕ) (h : Option Height) → slice_get heights k ≡ Some h → IsEffect closed k h
