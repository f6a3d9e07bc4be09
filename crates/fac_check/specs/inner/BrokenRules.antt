-- What a word breaks, in each whole program for which its closed one stands.
use Rattle.std.specs.Prelude.{◌≡◌, ℕ, [], Bool, true, false, ◌&&◌, not, Option, Some, None, nat_eq, slice_get}
use Rattle.fac_base.specs.declared.place.Place.{Place}
use Rattle.fac_lang.specs.declared.program.WordDef.{WordDef}
use Rattle.fac_lang.specs.declared.program.Sort.{Sort}
use Rattle.fac_lang.specs.declared.program.Sort.TheVariants.{Past as past}
use Rattle.fac_lang.specs.Phrases.{Phrase}
use Rattle.fac_locals.specs.Literals.{first_of_word}
use Rattle.fac_locals.specs.Closed.{ClosesWord}
use Rattle.fac_locals.specs.Frames.{Opens}
use Rattle.fac_locals.specs.OpenedPrograms.{OpensSort}
use Rattle.fac_locals.specs.declared.closing.Closed.{Closed}
use Rattle.fac_abs.specs.declared.rule.Rule.TheVariants.{MethodEffect}
use Rattle.fac_abs.specs.RowVariables.{has_rows, bindable, is_row}
use Rattle.fac_check.specs.Verdicts.{ordinary_verdict, row_verdict, top_verdict, inline_verdict, phrase_verdict, word_verdict, undeclared}
use Rattle.fac_check.specs.inner.UndeclaredRecursion.{inline_phrase}
use Rattle.fac_check.specs.Judged.{OfEach}
use Rattle.fac_check.specs.declared.refusal.Broken.{Broken}

-- whether a word of this sort is an earlier top-level phrase
abbrev pub is_past_sort : Sort → Bool
is_past_sort (past t) = true
is_past_sort _ = false

-- whether word w, where the top-level word has the first number, breaks `row-declaration`
abbrev pub bad_rows_so : ℕ → ℕ → WordDef → Bool
bad_rows_so top w c = not (nat_eq w top) && (not (is_past_sort c.sort) && (has_rows c.effect && not (inline_phrase c.inline c.sort && bindable c.effect)))

-- what a generic breaks, where its effect is none for generics or one
abbrev pub generic_rule : Bool → Place → Option Broken
generic_rule true p = Some (record { rule = MethodEffect; place = p })
generic_rule false p = None

module _ (closed : Closed) where
  -- an ordinary word with this closed phrase
  abbrev pub IsOrdinaryBroken : WordDef → Phrase → Option Broken → Type 0
  IsOrdinaryBroken c phrase broken = OfEach closed (λ P. (w : ℕ) (d : WordDef) (t : Phrase) → ClosesWord P w d c → Opens P closed.templates [] (first_of_word w) phrase t → broken ≡ ordinary_verdict P w t d)

  -- row word w with this closed phrase
  abbrev pub IsRowBroken : ℕ → WordDef → Phrase → Option Broken → Type 0
  IsRowBroken w c phrase broken =
      OfEach closed (λ P. (d : WordDef) (t : Phrase) → slice_get P.words w ≡ Some d → ClosesWord P w d c → Opens P closed.templates [] (first_of_word w) phrase t → broken ≡ row_verdict P w t d)

  -- the top-level word with this closed phrase
  abbrev pub IsTopBroken : Phrase → Option Broken → Type 0
  IsTopBroken phrase broken = OfEach closed (λ P. (w : ℕ) (t : Phrase) → Opens P closed.templates [] (first_of_word w) phrase t → broken ≡ top_verdict P closed.start w t)

  -- inline word w with this closed phrase
  abbrev pub IsInlineBroken : ℕ → WordDef → Phrase → Option Broken → Type 0
  IsInlineBroken w c phrase broken =
      OfEach closed (λ P. (d : WordDef) (t : Phrase) → slice_get P.words w ≡ Some d → ClosesWord P w d c → Opens P closed.templates [] (first_of_word w) phrase t → broken ≡ inline_verdict P (is_row d.recursive d.effect) w t d)

  -- word w, where it has this closed phrase
  abbrev pub IsPhraseBroken : ℕ → WordDef → Phrase → Option Broken → Type 0
  IsPhraseBroken w c phrase broken =
      OfEach closed (λ P. (d : WordDef) (t : Phrase) → slice_get P.words w ≡ Some d → ClosesWord P w d c → Opens P closed.templates [] (first_of_word w) phrase t → broken ≡ phrase_verdict P (nat_eq w P.top) closed.start w t d)

  -- word w, where it is known whether its phrase leads back to it
  abbrev pub IsWordBroken : Bool → ℕ → WordDef → Option Broken → Type 0
  IsWordBroken leads_back w c broken = OfEach closed (λ P. (d : WordDef) → slice_get P.words w ≡ Some d → ClosesWord P w d c → OpensSort P closed.templates w d.sort c.sort → leads_back ≡ undeclared P w d → broken ≡ word_verdict P closed.start w d)
