-- A literal takes and leaves what its effect says.
use Rattle.std.proofs.Common.{◌≡◌, ℕ, zero, suc, ◌≤◌, List, [], length, Bool, true, false, sym, ap, Option, Some, None, subst}
use Rattle.std.specs.Prelude.{nat_le}
use Rattle.fac_base.specs.declared.height.Height.{Height}
use Rattle.fac_lang.specs.Phrases.{Phrase, Value}
use Rattle.fac_lang.specs.World.{State}
use Rattle.fac_lang.specs.declared.program.Program.{Program}
use Rattle.fac_lang.specs.Eval.{eval}
use Rattle.fac_abs.specs.Marks.{AbstractStack, dead, on, unknowns}
use Rattle.fac_locals.specs.Literals.{first_of_word}
use Rattle.fac_check.specs.Flow.{Walked, found, refused, walked, most_walked, most_steps, most_nested}
use Rattle.fac_check.specs.CallableEffects.{forgotten, least_height, no_word}
use Rattle.fac_base.specs.HeightArithmetic.{most_values}
use Rattle.fac_check.specs.Promises.{Valid}
use Rattle.fac_check.proofs.ValuesOfMarks.{EndsSo}
use Rattle.fac_abs.proofs.EqualMarks.{never_true}
use Rattle.fac_check.proofs.StandingLaws.{forgotten_stands}
use Rattle.fac_check.proofs.WalksFit.{Fits, StackState}
use Rattle.fac_check.proofs.ItemsFit.{Over, Leaves, ends_map}
use Rattle.fac_check.proofs.SoundWalks.{A, Known, on_values, over_marks, marks_over}

module _ (P : Program) where
  -- a running phrase, for up to f ticks, on values that it doesn't touch
  abbrev pub PhraseKeeps : ℕ → Height → Phrase → Type 0
  PhraseKeeps f h t = (s : List Value) (st : State Value) (n : ℕ) → n ≤ f → Over h.ins s st.stack → Valid P st.world → EndsSo (Leaves P h.outs s) (eval (A P) f t st n)

  the_height : (h k : Height) → (let o : Option Height = Some h in o ≡ Some k) → h ≡ k
  the_height h k e = ap (λ o. elim o [ Some x ↦ x | None ↦ h ]) e

  no_height : (k : Height) → (let o : Option Height = None in o ≡ Some k) → ⊥
  no_height k e = absurd_none (ap (λ o. elim o [ Some x ↦ false | None ↦ true ]) e)
    where
      absurd_none : true ≡ false → ⊥
      absurd_none z = never_true (sym z)

  abbrev tried : Walked AbstractStack → ℕ → Option Height → Option Height
  tried W i next = elim W [ found B n ↦ elim B [ dead ↦ Some (record { ins = i; outs = None }) | on b ms ↦ elim (nat_le (length ms) most_values) [ true ↦ Some (record { ins = i; outs = Some (length ms) }) | false ↦ None ] ] | refused r p ↦ next ]

  by_walk : (f : ℕ) (t : Phrase) (i : ℕ) (h : Height) (next : Option Height) (W : Walked AbstractStack) → ((s : List Value) (st : State Value) (n : ℕ) → n ≤ f → Over i s st.stack → Valid P st.world → Fits P (on_values P s) W (eval (A P) f t st n)) → tried W i next ≡ Some h → (next ≡ Some h → PhraseKeeps f h t) → PhraseKeeps f h t
  by_walk f t i h next (refused r p) fit e rest = rest e
  by_walk f t i h next (found dead n) fit e rest =
      subst (λ k. PhraseKeeps f k t) (the_height (record { ins = i; outs = None }) h e) (λ s st m le o v. ends_map P (on_values P s) (StackState P (on_values P s) dead) (Leaves P None s) (eval (A P) f t st m) (λ st' q. absurd q.0) (fit s st m le o v))
  by_walk f t i h next (found (on b ms) n) fit e rest = kept (nat_le (length ms) most_values) e
    where
      kept : (q : Bool) → (let o : Option Height = elim q [ true ↦ Some (record { ins = i; outs = Some (length ms) }) | false ↦ None ] in o ≡ Some h) → PhraseKeeps f h t
      kept false z = absurd (no_height h z)
      kept true z =
          subst (λ k. PhraseKeeps f k t) (the_height (record { ins = i; outs = Some (length ms) }) h z) (λ s st m le o v. ends_map P (on_values P s) (StackState P (on_values P s) (on b ms)) (Leaves P (Some (length ms)) s) (eval (A P) f t st m) (λ st' q. (marks_over P s b ms st'.stack q.0, q.1)) (fit s st m le o v))

  -- A literal with an effect takes and leaves so many values, whatever values it holds.
  pub least_keeps : (f : ℕ) → ((s : List Value) → Known P f (on_values P s)) → (t : Phrase) (k i : ℕ) (h : Height) → least_height P k i (forgotten t) ≡ Some h → PhraseKeeps f h t
  least_keeps f known t zero i h e = absurd (no_height h e)
  least_keeps f known t (suc k) i h e =
      by_walk f t i h (least_height P k (suc i) (forgotten t)) (walked P None None no_word (forgotten t) None (unknowns i [])) (λ s st n le o v. known s most_steps (first_of_word no_word) most_nested (forgotten t) t None (unknowns i []) most_walked st n le (forgotten_stands (λ j c. ⊥) t) (over_marks P s i st.stack o, v)) e (λ z. least_keeps f known t k (suc i) h z)
