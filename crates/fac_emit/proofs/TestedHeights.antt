-- The effects in the rows of an image are those by which the meaning tests calls.
use Rattle.std.proofs.Common.{◌≡◌, ℕ, ◌+◌, List, length, Bool, true, false, Option, Some, None, refl, ap, sym, ◌∙◌, arith}
use Rattle.std.specs.Prelude.{◌||◌, ◌&&◌, not, nat_eq, slice_get}
use Rattle.fac_base.specs.declared.height.Height.{Height}
use Rattle.fac_lang.specs.declared.program.Program.{Program}
use Rattle.fac_lang.specs.declared.program.WordDef.{WordDef}
use Rattle.fac_lang.specs.declared.program.Sort.{Sort}
use Rattle.fac_lang.specs.declared.program.Sort.TheVariants.{Core as core}
use Rattle.fac_lang.specs.Phrases.{Value, Callable, of_phrase}
use Rattle.fac_base.specs.Signatures.{Signature}
use Rattle.fac_base.specs.Effects.{effect_height}
use Rattle.fac_lang.specs.WordHeights.{word_height}
use Rattle.fac_base.specs.HeightArithmetic.{fits}
use Rattle.fac_lang.proofs.SourcePrograms.{IsSessionProgram}
use Rattle.fac_lang.specs.Meaning.{is_past, is_top_phrase, word_fits}
use Rattle.fac_lang.proofs.FormsLemmas.{sort_at}
use Rattle.fac_locals.specs.Closed.{Closes}
use Rattle.fac_locals.specs.declared.closing.Closed.{Closed}
use Rattle.fac_locals.proofs.Lookups.{word_closed_none}
use Rattle.fac_code.specs.declared.image.Image.{Image}
use Rattle.fac_code.specs.declared.image.TemplateRow.{TemplateRow}
use Rattle.fac_code.specs.declared.image.WordRow.{WordRow}
use Rattle.fac_store.specs.CallableHeights.{height_there}
use Rattle.fac_machine.specs.Machine.{fits_in, row_height}
use Rattle.fac_emit.specs.Heights.{HasHeights}
use Rattle.fac_carry.specs.MachineView.{template_phrases}
use Rattle.fac_emit.specs.ProgramCode.{IsPlain}
use Rattle.fac_carry.proofs.FittingHeights.{fits_so}
use Rattle.fac_emit.proofs.AskedEffects.{code_asks}
use Rattle.fac_carry.specs.TestedCalls.{TestsCallables}
use Rattle.fac_emit.proofs.Closings.{Alike, a_same, a_body, a_past, a_method, alike}
use Rattle.fac_emit.proofs.NamedImages.{no_rows}
use Rattle.fac_emit.proofs.Placed.{Rows, template_at, all_rows, row_height_is}
use Rattle.fac_emit.proofs.PlacedWords.{word_put}

past_alike : (s c : Sort) → Alike s c → is_past (Some c) ≡ is_past (Some s)
past_alike s c (a_same t) = refl
past_alike s c (a_body t u) = refl
past_alike s c (a_past t u) = refl
past_alike s c (a_method n g t u) = refl

-- what a word with these marks, of this sort and with this effect promises
abbrev promised : Bool → Sort → Signature → Option Height
promised inline s e = elim inline [ true ↦ None | false ↦ elim s [ core k ↦ None | _ ↦ Some (effect_height e) ] ]

promised_alike : (inline : Bool) (e : Signature) (s c : Sort) → Alike s c → promised inline c e ≡ promised inline s e
promised_alike inline e s c (a_same t) = refl
promised_alike inline e s c (a_body t u) = refl
promised_alike inline e s c (a_past t u) = refl
promised_alike inline e s c (a_method n g t u) = refl

none_fits : (b : Bool) → false ≡ (b && false)
none_fits true = refl
none_fits false = refl

-- a word that is a top-level phrase or promises this
tested_by : (h : Height) (q : Bool) (o : Option Height) → fits_in h (elim q [ true ↦ None | false ↦ o ]) ≡ (not q && elim o [ Some k ↦ fits k h | None ↦ false ])
tested_by h true o = refl
tested_by h false o = fits_so h o

module _ (P : Program) (C : Closed) (heights : List (Option Height)) (M : Image) (b : IsSessionProgram P) (closes : Closes P C.program C.templates) (is_plain : IsPlain C heights M) where
  -- a word fits by its row as it fits in the meaning
  pub words_tested : (w : ℕ) (h : Height) → fits_in h (row_height (slice_get M.words w)) ≡ word_fits P fits h w
  words_tested w h = by (slice_get P.words w) refl
    where
      by : (o : Option WordDef) → slice_get P.words w ≡ o → fits_in h (row_height (slice_get M.words w)) ≡ (not (is_top_phrase P w) && elim o [ Some d ↦ elim (word_height d) [ Some k ↦ fits k h | None ↦ false ] | None ↦ false ])
      by None e =
          ap (λ (rs : List WordRow). fits_in h (row_height (slice_get rs w))) is_plain.word_rows_are
          ∙ ap (λ (o : Option WordRow). fits_in h (row_height o)) (no_rows C _ 0 C.program.words w (word_closed_none P C.program C.templates closes w e)) ∙ none_fits (not (is_top_phrase P w))
      by (Some d) e =
          let p = word_put P C heights M b closes is_plain w d e in
          let c = p.closed in
          let same = alike P w d.sort c.sort p.closes_word.sort in
          let top : (nat_eq w C.program.top || is_past (Some c.sort)) ≡ is_top_phrase P w =
          ap (λ (n : ℕ). nat_eq w n || is_past (Some c.sort)) closes.top ∙ ap (λ (x : Bool). nat_eq w P.top || x) (past_alike d.sort c.sort same ∙ sym (ap is_past (sort_at P w d e))) in
          let promise : word_height c ≡ word_height d =
          ap (λ (i : Bool). promised i c.sort c.effect) p.closes_word.inline ∙ ap (promised d.inline c.sort) p.closes_word.effect ∙ promised_alike d.inline d.effect d.sort c.sort same in
          ap (λ (o : Option WordRow). fits_in h (row_height o)) p.row
          ∙ ap (λ (q : Bool). fits_in h (elim q [ true ↦ None | false ↦ word_height c ])) top
          ∙ ap (λ (o : Option Height). fits_in h (elim (is_top_phrase P w) [ true ↦ None | false ↦ o ])) promise
          ∙ tested_by h (is_top_phrase P w) (word_height d)

  rows : Rows C M.code M.templates C.templates
  rows = all_rows P C closes heights M.code M.templates is_plain.code is_plain.template_rows_are

  -- where the code tests callables, the effect of a literal one is in its template's row
  pub literals_tested :
      (callable_height : Callable → Option Height) → HasHeights P C heights callable_height → TestsCallables M → (q : ℕ) (r : TemplateRow) (vs : List Value) → slice_get M.templates q ≡ Some r → length vs ≡ length r.cells + r.holes →
      callable_height (of_phrase (template_phrases P q vs)) ≡ r.height
  unfolding template_phrases
  literals_tested callable_height effects tests q r vs e n =
      let found = template_at C M.code M.templates C.templates q r rows e in
      let t = found.template in
      let many : length r.cells + r.holes ≡ length t.captures + t.holes = ap (λ (r : TemplateRow). length r.cells + r.holes) found.of.row in
      let own = row_height_is C heights 0 0 C.templates q r (ap (λ (rs : List TemplateRow). slice_get rs q) (sym is_plain.template_rows_are) ∙ e) in
      let number : 0 + q ≡ q = omega arith in
      effects.literal (code_asks C M is_plain.code tests) q t vs found.there (n ∙ many) ∙ ap (λ (j : ℕ). height_there (slice_get heights j)) (sym number) ∙ sym own
