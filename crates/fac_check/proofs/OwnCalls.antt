-- The own recursive call by what it takes.
use Rattle.std.proofs.Common.{◌≡◌, ℕ, List, [], length, Bool, true, false, Option, Some, None, refl}
use Rattle.std.specs.Prelude.{◌&&◌, nat_eq}
use Rattle.fac_lang.specs.Phrases.{Mark}
use Rattle.fac_base.specs.Signatures.{Signature}
use Rattle.fac_base.specs.Effects.{inputs_count}
use Rattle.fac_abs.specs.RowVariables.{Row, effect_inputs, effect_leaving, outer_in, outer_out}
use Rattle.fac_abs.specs.Marks.{base_eq, popped}
use Rattle.fac_abs.specs.declared.rule.Rule.TheVariants.{Underflow, RecursiveInput, Rows}
use Rattle.fac_rows.specs.RowBinding.{other_input, leaving_on, called_if, call_breaks, own_rest_call, own_inputs_call}
use Rattle.fac_check.specs.Flow.{Doing, breaks, gives, needing, at_once, own_doing}

-- the row below the own recursive call has to be exactly the input row
abbrev pub own_rest : Signature → Option Row → List Mark → Doing
own_rest e b rest = elim (base_eq b (outer_in e) && nat_eq (length rest) 0) [ true ↦ gives (leaving_on (effect_leaving e) (outer_out e) []) | false ↦ breaks (Rows 0 0 (length rest)) ]

module _ (e : Signature) (b : Option Row) where
  others : (rest : List Mark) (o : Option ℕ) → at_once (elim o [ Some k ↦ call_breaks (RecursiveInput k) | None ↦ own_rest_call e b rest ]) ≡ elim o [ Some k ↦ breaks (RecursiveInput k) | None ↦ own_rest e b rest ]
  others rest (Some k) = refl
  others rest None = which (base_eq b (outer_in e) && nat_eq (length rest) 0)
    where
      which : (q : Bool) → at_once (called_if q (leaving_on (effect_leaving e) (outer_out e) []) (Rows 0 0 (length rest))) ≡ elim q [ true ↦ gives (leaving_on (effect_leaving e) (outer_out e) []) | false ↦ breaks (Rows 0 0 (length rest)) ]
      which true = refl
      which false = refl

  taken_off : (ms : List Mark) (o : Option (List Mark × List Mark)) →
      at_once (elim o [ Some r ↦ own_inputs_call e b r.0 r.1 | None ↦ call_breaks (Underflow (inputs_count (effect_inputs e)) (length ms)) ]) ≡ elim o [ Some r ↦ elim (other_input 1 (effect_inputs e) r.0) [ Some k ↦ breaks (RecursiveInput k) | None ↦ own_rest e b r.1 ] | None ↦ breaks (Underflow (inputs_count (effect_inputs e)) (length ms)) ]
  taken_off ms (Some r) = others r.1 (other_input 1 (effect_inputs e) r.0)
  taken_off ms None = refl

  pub own_by_inputs : (ms : List Mark) → own_doing e b ms ≡ needing (inputs_count (effect_inputs e)) ms (λ taken rest. elim (other_input 1 (effect_inputs e) taken) [ Some k ↦ breaks (RecursiveInput k) | None ↦ own_rest e b rest ])
  own_by_inputs ms = taken_off ms (popped (inputs_count (effect_inputs e)) [] ms)
