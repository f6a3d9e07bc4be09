-- Accepted programs keep what they promise.
use Rattle.std.proofs.Common.{◌≡◌, ℕ, zero, suc, List, [], ◌∷◌, length, Option, Some, None, refl, sym, arith, subst}
use Rattle.std.specs.Prelude.{slice_get}
use Rattle.fac_lang.specs.declared.program.Program.{Program}
use Rattle.fac_lang.specs.Phrases.{Value, word}
use Rattle.fac_lang.specs.World.{World, State}
use Rattle.fac_lang.specs.Eval.{Result, Done, Failed, Spent, Stuck}
use Rattle.fac_lang.specs.Meaning.{word_phrase, one_item}
use Rattle.fac_lang.specs.RunningLaws.{IsNotStuck}
use Rattle.fac_check.specs.CallableEffects.{callable_height}
use Rattle.fac_base.specs.HeightArithmetic.{fits}
use Rattle.fac_check.specs.Promises.{Valid, AcceptedAreSafe, SafeAreNotStuck, Lists, Exactly, LeftOn, Ends, OfRow}
use Rattle.fac_check.proofs.ValuesOfMarks.{EndsSo}
use Rattle.fac_base.specs.Effects.{effect_height}
use Rattle.fac_abs.specs.RowVariables.{effect_leaving, outer_out}
use Rattle.fac_rows.specs.RowBinding.{leaving_on}
use Rattle.fac_check.proofs.WalksFit.{StackState}
use Rattle.fac_check.proofs.ItemsFit.{Over, Leaves}
use Rattle.fac_check.proofs.CountedValues.{inputs_over, outputs_over}
use Rattle.fac_check.proofs.RowPromises.{same_call, handed, handed_good, inputs_stand, outputs_left}
use Rattle.fac_check.proofs.LiteralsStay.{Stays, literals_stay, literals_stay_in_call}
use Rattle.fac_check.proofs.AcceptedPrograms.{word_sound, fitting_word_sound, fitting_callable_sound, row_sound, phrase_sound, start_valid}

whole_over : (n : ℕ) (values : List Value) → length values ≡ n → Over n [] values
whole_over zero [] e = refl
whole_over zero (x ∷ xs) e = absurd (omega (arith, e))
whole_over (suc n) [] e = absurd (omega (arith, e))
whole_over (suc n) (x ∷ xs) e = (x, xs, refl, whole_over n xs (omega (arith, e)))

module _ (P : Program) where
  -- a world in which the literal arrays have the addresses that they have in a valid one
  valid_behind : (w v : World Value) → v.literals ≡ w.literals → Valid P w → Valid P v
  valid_behind w v e valid = λ a h. subst (λ ls. (k : ℕ) × (slice_get ls a ≡ Some k)) (sym e) (valid a h)

  -- a run that isn't stuck leaves a valid world behind it, since no run changes which literal arrays there are
  pub ends_valid : (good : State Value → Type 0) (after : Lists) (w : World Value) (r : Result) → Valid P w → Stays w.literals r → ((st : State Value) → good st → after st.stack) → EndsSo good r → Ends P after r
  ends_valid good after w (Done st m) v s f h = (f st h, valid_behind w st.world s v)
  ends_valid good after w (Failed e st m) v s f h = valid_behind w st.world s v
  ends_valid good after w (Spent st i) v s f h = valid_behind w st.world s v
  ends_valid good after w Stuck v s f h = absurd h

  left_on : (outs : Option ℕ) (below : List Value) (st : State Value) → Leaves P outs below st → LeftOn outs (Exactly below) st.stack
  left_on None below st h = h
  left_on (Some n) below st h = (let z = outputs_over n below st.stack h.0 in (z.0, below, z.1, z.2, refl))

-- what ends so isn't stuck
not_stuck : (P : Program) (after : Lists) (r : Result) → Ends P after r → IsNotStuck r
not_stuck P after (Done st m) h = tt
not_stuck P after (Failed e st m) h = tt
not_stuck P after (Spent st i) h = tt
not_stuck P after Stuck h = h

pub safe_are_not_stuck : SafeAreNotStuck
safe_are_not_stuck P count safe budget st many valid = not_stuck P (λ list. Unit {0}) _ (safe.phrase budget st budget (omega arith) many valid)

pub accepted_are_safe : AcceptedAreSafe
accepted_are_safe P count whole accepted = record {
  words = λ w d h e q z budget below st n le on valid.
      ends_valid P (Leaves P h.outs below) (LeftOn h.outs (Exactly below)) st.world _ valid (literals_stay P fits (callable_height P) n (one_item (word w)) st) (left_on P h.outs below) (word_sound P count whole accepted w d h e q z below st n (subst (λ r. Over h.ins r st.stack) on.4 (inputs_over h.ins on.0 on.1 st.stack on.2 on.3)) valid);
  row_words = λ w d e i x tests budget st n le on valid.
      ends_valid P (StackState P (handed P tests budget w d) (leaving_on (effect_leaving d.effect) (outer_out d.effect) [])) (LeftOn (effect_height d.effect).outs (OfRow P tests (outer_out d.effect))) st.world _ valid (literals_stay P fits (callable_height P) n (one_item (word w)) st) (outputs_left P tests budget w d) (row_sound P count whole accepted w d e i x (handed P tests budget w d) refl refl n (handed_good P tests budget w d e n le) st (inputs_stand P tests budget w d st on.0 on.1 on.2 on.3 on.4 valid));
  callables = λ c h e budget below st n le on valid.
      subst (λ r. Ends P (LeftOn h.outs (Exactly below)) r) (sym (same_call P n n c st (omega arith)))
      (ends_valid P (Leaves P h.outs below) (LeftOn h.outs (Exactly below)) st.world _ valid (literals_stay_in_call P fits (callable_height P) n c st n) (left_on P h.outs below) (fitting_callable_sound P count whole accepted h c e below st n (subst (λ r. Over h.ins r st.stack) on.4 (inputs_over h.ins on.0 on.1 st.stack on.2 on.3)) valid));
  executed_words = λ w h e budget below st n le on valid.
      ends_valid P (Leaves P h.outs below) (LeftOn h.outs (Exactly below)) st.world _ valid (literals_stay P fits (callable_height P) n (one_item (word w)) st) (left_on P h.outs below) (fitting_word_sound P count whole accepted h w e below st n (subst (λ r. Over h.ins r st.stack) on.4 (inputs_over h.ins on.0 on.1 st.stack on.2 on.3)) valid);
  phrase = λ budget st n le many valid.
      ends_valid P (λ st'. Unit {0}) (λ list. Unit {0}) st.world _ valid (literals_stay P fits (callable_height P) n (word_phrase P P.top) st) (λ st' u. tt) (phrase_sound P count whole accepted st n (whole_over count st.stack many) valid);
  begins = start_valid P;
}
