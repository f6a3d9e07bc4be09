-- A use of a row word, and an accepted row word. `SoundPrograms` joins both by induction.
use Rattle.std.proofs.Common.{◌≡◌, ℕ, ◌≤◌, List, [], ◌∷◌, length, Bool, true, false, refl, Option, Some, None, subst}
use Rattle.std.specs.Prelude.{nat_eq, ◌&&◌}
use Rattle.fac_base.specs.declared.place.Place.{Place}
use Rattle.fac_lang.specs.Phrases.{Phrase, Value, Mark}
use Rattle.fac_lang.specs.World.{State}
use Rattle.fac_base.specs.Signatures.{Signature, Leaving, never, leaves}
use Rattle.fac_lang.specs.declared.program.Program.{Program}
use Rattle.fac_lang.specs.declared.program.WordDef.{WordDef}
use Rattle.fac_lang.specs.Eval.{Result, Run, eval}
use Rattle.fac_abs.specs.RowVariables.{Row, effect_inputs, effect_leaving, outer_in, outer_out}
use Rattle.fac_abs.specs.Marks.{AbstractStack, dead, on, base_eq, unknowns}
use Rattle.fac_abs.specs.declared.rule.Rule.TheVariants.{Outputs, MustReturn}
use Rattle.fac_rows.specs.RowBinding.{Binding, leaving_on, row_result, inputs_marks}
use Rattle.fac_locals.specs.Literals.{first_of_word}
use Rattle.fac_check.specs.declared.refusal.Broken.{Broken}
use Rattle.fac_check.specs.Flow.{Walked, found, refused, and_then, Walk, walked, most_walked, most_steps, most_nested}
use Rattle.fac_check.specs.Verdicts.{broken_at, end_of, kept_word, row_verdict}
use Rattle.fac_check.proofs.ValuesOfMarks.{StandsPhrase, StandsOn, EndsSo}
use Rattle.fac_abs.proofs.EqualMarks.{and_first, and_second, length_same, base_same}
use Rattle.fac_check.proofs.WalksFit.{Context, OnState, StackState, Fits}
use Rattle.fac_check.proofs.ItemsFit.{Over, ends_map, over_unknowns}
use Rattle.fac_check.proofs.SoundWalks.{A, Known, some_none}
use Rattle.fac_check.proofs.RowsFit.{Extends, DoInputs, Shows}

module _ (P : Program) (C : Context) where
  -- A use: where its inputs were walked, it is enough that the phrase leaves the result for the rows bound at the end.
  pub use_fits : (go : Walk) (run : Run) (f : ℕ) (e : Signature) (taken : List Mark) (bs : Binding) (W : Walked Binding) (r : Result) → Shows P C go run f bs (effect_inputs e) taken W → ((ds : Binding) → Extends bs ds → DoInputs P C go run f ds (effect_inputs e) taken → EndsSo (StackState P C (row_result e ds)) r) → Fits P C (and_then W (λ ds n. found (row_result e ds) n)) r
  use_fits go run f e taken bs (found ds n) r s h = h ds s.0 s.1
  use_fits go run f e taken bs (refused x p) r s h = tt

  marks_on : (b : Option Row) (ms : List Mark) (s : List Value) → StandsOn C.inputs C.row b ms s → (r : List Value) × Over (length ms) r s × C.row b r
  marks_on b [] s h = (s, refl, h)
  marks_on b (m ∷ ms) s h = (let q = marks_on b ms h.1 h.4 in (q.0, (h.0, h.1, h.2, q.1), q.2))

  kept_row : (l : Leaving) (out : Option Row) (p : Place) (B : AbstractStack) (st : State Value) → kept_word P l out p B ≡ None → StackState P C B st → StackState P C (leaving_on l out []) st
  kept_row l out p dead st e h = absurd h.0
  kept_row never out p (on b ms) st e h = absurd (some_none P MustReturn p e)
  kept_row (leaves x names) out p (on b ms) st e h = kept (base_eq b out && nat_eq (length ms) (length names)) refl e
    where
      kept : (q : Bool) → (base_eq b out && nat_eq (length ms) (length names)) ≡ q → (let o : Option Broken = elim q [ true ↦ None | false ↦ broken_at (Outputs (length names) (length ms)) p ] in o ≡ None) → StackState P C (on out (unknowns (length names) [])) st
      kept true q z =
          (let w = marks_on b ms st.stack h.0 in (over_unknowns P C (length names) out [] w.0 st.stack (subst (λ k. Over k w.0 st.stack) (length_same (length ms) (length names) (and_second (base_eq b out) (nat_eq (length ms) (length names)) q)) w.1) (subst (λ y. C.row y w.0) (base_same b out (and_first (base_eq b out) (nat_eq (length ms) (length names)) q)) w.2), h.1))
      kept false q z = absurd (some_none P (Outputs (length names) (length ms)) p z)

  row_ends : (l : Leaving) (out : Option Row) (p : Place) (W : Walked AbstractStack) (r : Result) → end_of P W (kept_word P l out p) ≡ None → Fits P C W r → EndsSo (StackState P C (leaving_on l out [])) r
  row_ends l out p (found B n) r e h = ends_map P C (StackState P C B) (StackState P C (leaving_on l out [])) r (λ st q. kept_row l out p B st e q) h
  row_ends l out p (refused x q) r e h = absurd (some_none P x q e)

  -- In a context of its own, on a list for its input row with its inputs on it, an accepted row word leaves its outputs on a list for its output row.
  pub accepted_row : (w : ℕ) (d : WordDef) (t : Phrase) → row_verdict P w t d ≡ None → C.own ≡ Some d.effect → C.word ≡ Some w → (f : ℕ) → Known P f C → StandsPhrase C.inputs t t → (st : State Value) (n : ℕ) → n ≤ f → OnState P C (outer_in d.effect) (inputs_marks 1 (effect_inputs d.effect) []) st → EndsSo (StackState P C (leaving_on (effect_leaving d.effect) (outer_out d.effect) [])) (eval (A P) f t st n)
  accepted_row w d t e own word f known self st n le o =
      row_ends (effect_leaving d.effect) (outer_out d.effect) d.place (walked P C.own C.word w t (outer_in d.effect) (inputs_marks 1 (effect_inputs d.effect) [])) (eval (A P) f t st n) (rw own (rw word e)) (known most_steps (first_of_word w) most_nested t t (outer_in d.effect) (inputs_marks 1 (effect_inputs d.effect) []) most_walked st n le self o)
