-- What is told of words and programs is the checker's verdict.
use Rattle.std.proofs.Common.{◌≡◌, ℕ, suc, List, [], ◌∷◌, Bool, true, false, Option, Some, None, refl, ap, ◌∙◌}
use Rattle.fac_base.specs.declared.place.Place.{Place}
use Rattle.fac_base.specs.Effects.{inputs_count}
use Rattle.fac_lang.specs.Phrases.{Phrase}
use Rattle.fac_lang.specs.Substitution.{of_method}
use Rattle.fac_lang.specs.declared.program.Program.{Program}
use Rattle.fac_lang.specs.declared.program.Sort.{Sort}
use Rattle.fac_lang.specs.declared.program.Sort.TheVariants.{Body as body, Method as method}
use Rattle.fac_lang.specs.declared.program.WordDef.{WordDef}
use Rattle.std.specs.Prelude.{nat_eq}
use Rattle.fac_abs.specs.Marks.{AbstractStack, unknowns}
use Rattle.fac_abs.specs.RowVariables.{effect_inputs, effect_leaving, outer_in, outer_out, is_row}
use Rattle.fac_abs.specs.declared.rule.Rule.{Rule}
use Rattle.fac_locals.specs.Literals.{first_of_word}
use Rattle.fac_rows.specs.RowBinding.{inputs_marks}
use Rattle.fac_check.specs.Flow.{Walked, doing, most_steps, most_nested, most_walked}
use Rattle.fac_check.specs.Verdicts.{broken_at, kept_word, end_of, head_rules, ordinary_verdict, row_verdict, inline_verdict, body_verdict, top_verdict, phrase_verdict, sort_verdict, ruled_verdict, word_verdict, verdict_from}
use Rattle.fac_check.specs.declared.refusal.Broken.{Broken}
use Rattle.fac_trace.specs.Origins.{inputs_upto}
use Rattle.fac_trace.specs.Traced.{Fault, Traced, Stack}
use Rattle.fac_trace.specs.Traces.{at_name, at_end, told, ordinary_trace, row_trace, inline_trace, body_trace, top_trace, phrase_trace, sort_trace, ruled_trace, word_trace, trace_from}
use Rattle.fac_trace.specs.TraceLaws.{WalksWithoutOrigins, TracesAreVerdicts, broken_rule, broken_word}
use Rattle.fac_trace.proofs.Erased.{SameStack, same_stack, Alike, a_found, a_refused, walk_alike, alike_is}

pub walks_without : WalksWithoutOrigins
walks_without = λ P e own w t b ms os. alike_is (walk_alike P e (doing P own) most_steps (first_of_word w) most_nested t b ms os most_walked)

at_end_is : (o : Option Broken) (A : Stack) → broken_rule (at_end o A) ≡ o
at_end_is None A = refl
at_end_is (Some b) A = refl

broken_is : (r s : Rule) (p q : Place) → r ≡ s → p ≡ q → broken_at r p ≡ broken_at s q
broken_is r s p q e g = rw e (rw g refl)

told_is : (P : Program) {V : Traced Stack} {W : Walked AbstractStack} (ends : AbstractStack → Option Broken) → Alike SameStack V W → broken_rule (told V ends) ≡ end_of P W ends
told_is P ends (a_found (same_stack A os)) = at_end_is (ends A) (A, os)
told_is P ends (a_refused {f = f} {r = r} {p = p} e g) = broken_is f.rule r f.place p e g

module _ (P : Program) where
  ordinary_is : (w : ℕ) (t : Phrase) (d : WordDef) → broken_rule (ordinary_trace P w t d) ≡ ordinary_verdict P w t d
  ordinary_is w t d =
      told_is P (kept_word P (effect_leaving d.effect) None d.place) (walk_alike P None (doing P None) most_steps (first_of_word w) most_nested t None (unknowns (inputs_count (effect_inputs d.effect)) []) (inputs_upto (inputs_count (effect_inputs d.effect))) most_walked)

  row_is : (w : ℕ) (t : Phrase) (d : WordDef) → broken_rule (row_trace P w t d) ≡ row_verdict P w t d
  row_is w t d =
      told_is P (kept_word P (effect_leaving d.effect) (outer_out d.effect) d.place) (walk_alike P (Some d.effect) (doing P (Some w)) most_steps (first_of_word w) most_nested t (outer_in d.effect) (inputs_marks 1 (effect_inputs d.effect) []) (inputs_upto (inputs_count (effect_inputs d.effect))) most_walked)

  inline_is : (x : Bool) (w : ℕ) (t : Phrase) (d : WordDef) → broken_rule (inline_trace P x w t d) ≡ inline_verdict P x w t d
  inline_is true w t d = row_is w t d
  inline_is false w t d = refl

  body_is : (x : Bool) (w : ℕ) (t : Phrase) (d : WordDef) → broken_rule (body_trace P x w t d) ≡ body_verdict P x w t d
  body_is true w t d = inline_is (is_row d.recursive d.effect) w t d
  body_is false w t d = ordinary_is w t d

  top_is : (start w : ℕ) (t : Phrase) → broken_rule (top_trace P start w t) ≡ top_verdict P start w t
  top_is start w t = told_is P (λ A. None) (walk_alike P None (doing P None) most_steps (first_of_word w) most_nested t None (unknowns start []) (inputs_upto start) most_walked)

  phrase_is : (x : Bool) (start w : ℕ) (t : Phrase) (d : WordDef) → broken_rule (phrase_trace P x start w t d) ≡ phrase_verdict P x start w t d
  phrase_is true start w t d = top_is start w t
  phrase_is false start w t d = body_is d.inline w t d

  sort_is : (start w : ℕ) (d : WordDef) (s : Sort) → broken_rule (sort_trace P start w d s) ≡ sort_verdict P start w d s
  sort_is start w d (body t) = phrase_is (nat_eq w P.top) start w t d
  sort_is start w d (method c g t) = ordinary_is w (of_method w t) d
  sort_is start w d _ = refl

  -- a rule that needs no walk, where it is broken
  flag_is : (x : Bool) (r : Rule) (p : Place) (V : Option Fault) (W : Option Broken) → broken_rule V ≡ W → broken_rule (elim x [ true ↦ at_name r p None | false ↦ V ]) ≡ elim x [ true ↦ broken_at r p | false ↦ W ]
  flag_is true r p V W e = refl
  flag_is false r p V W e = e

  ruled_is : (rs : List (Bool × Rule)) (start w : ℕ) (d : WordDef) → broken_rule (ruled_trace P rs start w d) ≡ ruled_verdict P rs start w d
  ruled_is [] start w d = sort_is start w d d.sort
  ruled_is (r ∷ rs) start w d = flag_is r.0 r.1 d.place (ruled_trace P rs start w d) (ruled_verdict P rs start w d) (ruled_is rs start w d)

  word_is : (start w : ℕ) (d : WordDef) → broken_rule (word_trace P start w d) ≡ word_verdict P start w d
  word_is start w d = ruled_is (head_rules P w d) start w d

  -- the first word that is refused
  first_is :
      (o : Option Fault) (V : Option (ℕ × Fault)) (W : Option (ℕ × Broken)) (w : ℕ) → broken_word V ≡ W → broken_word (elim o [ Some f ↦ Some (w, f) | None ↦ V ]) ≡ elim (broken_rule o) [ Some r ↦ Some (w, r) | None ↦ W ]
  first_is None V W w e = e
  first_is (Some f) V W w e = refl

  from_is : (start w : ℕ) (ds : List WordDef) → broken_word (trace_from P start w ds) ≡ verdict_from P start w ds
  from_is start w [] = refl
  from_is start w (d ∷ ds) =
      first_is (word_trace P start w d) (trace_from P start (suc w) ds) (verdict_from P start (suc w) ds) w (from_is start (suc w) ds) ∙ ap (λ (u : Option Broken). elim u [ Some r ↦ Some (w, r) | None ↦ verdict_from P start (suc w) ds ]) (word_is start w d)

pub traces_are : TracesAreVerdicts
traces_are = record { words = λ P start w d. word_is P start w d; programs = λ P start. from_is P start 0 P.words }
