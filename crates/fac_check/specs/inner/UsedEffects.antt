-- Effects that stand for one another where a word is used.
use Rattle.std.specs.Prelude.{◌≡◌, ℕ, List}
use Rattle.std.specs.declared.option.Option.{Option}
use Rattle.fac_base.specs.declared.place.Place.{Place}
use Rattle.fac_base.specs.Signatures.{Signature}
use Rattle.fac_base.specs.Effects.{effect_height}
use Rattle.fac_lang.specs.Phrases.{Mark}
use Rattle.fac_abs.specs.RowVariables.{Row, effect_inputs, outer_in}
use Rattle.fac_abs.specs.Marks.{on}
use Rattle.fac_rows.specs.RowBinding.{row_binding}
use Rattle.fac_check.specs.Flow.{Walk, walk_use, use_rule}

-- A use of a row word with the first effect breaks the rule that one with the second breaks, and is walked as that.
pub record IsUsedAs (d e : Signature) : Type 0 where
  pub inputs_alike : (effect_height d).ins ≡ (effect_height e).ins
  pub rules_alike :
      (own : Option Signature) (is : List Mark) (nested : ℕ) (b : Option Row) (ms : List Mark) →
      use_rule own (row_binding (outer_in d) (on b ms)) (effect_inputs d) is nested ≡ use_rule own (row_binding (outer_in e) (on b ms)) (effect_inputs e) is nested
  pub walks_alike :
      (own : Option Signature) (go : Walk) (is : List Mark) (p : Place) (nested : ℕ) (b : Option Row) (ms : List Mark) (n : ℕ) →
      walk_use own go d is p nested b ms n ≡ walk_use own go e is p nested b ms n
