-- One step of counting and closing literal arrays, and the parts of a program together.
use Rattle.std.proofs.Common.{◌≡◌, ◌<◌, ℕ, suc, List, [], ◌∷◌, ◌++◌, length, set, get_or, None, refl, sym, ap, ◌∙◌}
use Rattle.std.proofs.lemmas.List.{set-set, length-set, get_or_default}
use Rattle.fac_lang.specs.Meaning.{nowhere}
use Rattle.fac_lang.specs.declared.phrase.Template.{Template}
use Rattle.fac_lang.specs.declared.program.Lit.{Lit}
use Rattle.fac_lang.specs.declared.program.WordDef.{WordDef}
use Rattle.fac_locals.specs.declared.closing.ArrayStart.{ArrayStart}
use Rattle.fac_locals.specs.declared.closing.Closing.{Closing}
use Rattle.fac_locals.specs.inner.Numbering.{put_all, phrase_templates, phrase_starts, words_templates, words_starts, closed_elements, closed_words, words_behind, plain_phrase, start_of, elements_count, counts_from, Stage, start_at, elements_at, array_closed, arrays_closed, stage_of, PhrasePassed, WordsPassed, PartsClosed}

-- one array more is counted
pub counts_step : (whole counts pushed : List ℕ) (lss rest : List (List Lit)) (ls : List Lit) (count : ℕ) → whole ≡ counts_from counts lss → lss ≡ ls ∷ rest → count ≡ elements_count counts ls → pushed ≡ counts ++ count ∷ [] → whole ≡ counts_from pushed rest
counts_step whole counts pushed lss rest ls count so_far is_next is_count is_pushed =
    so_far ∙ ap (counts_from counts) is_next ∙ sym (ap (λ (cs : List ℕ). counts_from cs rest) (is_pushed ∙ ap (λ (n : ℕ). counts ++ n ∷ []) is_count))

-- as many elements are there after some were put
pub as_many_put : {A : Type 0} (xs : List A) (ws : List (ℕ × A)) → length (put_all xs ws) ≡ length xs
as_many_put xs [] = refl
as_many_put xs (w ∷ ws) = as_many_put (set xs w.0 w.1) ws ∙ length-set xs w.0 w.1

abbrev stage_with : List (List Lit) → List Template → List ArrayStart → Stage
stage_with a t s = record { arrays = a; templates = t; starts = s }

same_stage : {a b : List (List Lit)} {t u : List Template} {s r : List ArrayStart} → a ≡ b → t ≡ u → s ≡ r → stage_with a t s ≡ stage_with b u r
same_stage e f g = rw (e, f, g) refl

module _ (counts : List ℕ) where
  -- a literal array whose elements were taken out, closed and put back
  pub array_step : (a : ℕ) (arrays : List (List Lit)) (before moved behind : Closing) (start : ArrayStart) (taken elements nothing closed : List Lit) → start ≡ get_or before.starts.items a start → a < length before.starts.items → taken ≡ get_or arrays a taken → a < length arrays → elements ≡ taken → moved.next ≡ start.number → moved.templates.items ≡ before.templates.items → moved.starts.items ≡ before.starts.items → (closed ≡ closed_elements counts moved.next elements) × PhrasePassed counts start.method [] moved (plain_phrase start.place elements) behind → stage_of (set (set arrays a nothing) a closed) behind ≡ array_closed counts a (stage_of arrays before)
  array_step a arrays before moved behind start taken elements nothing closed is_start inside is_taken within is_elements next_is templates_stay starts_stay closes =
      let s = stage_of arrays before in
      let start_is : start ≡ start_at s a = is_start ∙ get_or_default before.starts.items a start (start_of 0 nowhere None) inside in
      let elements_are : elements ≡ elements_at s a = is_elements ∙ is_taken ∙ get_or_default arrays a taken [] within in
      let number_is : moved.next ≡ (start_at s a).number = next_is ∙ ap (λ (x : ArrayStart). x.number) start_is in
      let passed = closes.1 in
      same_stage
      (set-set arrays a nothing closed ∙ ap (set arrays a) (closes.0 ∙ ap (λ (n : ℕ). closed_elements counts n elements) number_is ∙ ap (closed_elements counts (start_at s a).number) elements_are))
      (passed.templates_are ∙ ap (λ (ts : List Template). put_all ts (phrase_templates counts start.method [] moved.next (plain_phrase start.place elements))) templates_stay ∙ ap (λ (n : ℕ). put_all before.templates.items (phrase_templates counts start.method [] n (plain_phrase start.place elements))) number_is ∙ ap (λ (x : ArrayStart). put_all before.templates.items (phrase_templates counts x.method [] (start_at s a).number (plain_phrase x.place elements))) start_is ∙ ap (λ (ls : List Lit). put_all before.templates.items (phrase_templates counts (start_at s a).method [] (start_at s a).number (plain_phrase (start_at s a).place ls))) elements_are)
      (passed.starts_are ∙ ap (λ (ts : List ArrayStart). put_all ts (phrase_starts counts start.method moved.next (plain_phrase start.place elements))) starts_stay ∙ ap (λ (n : ℕ). put_all before.starts.items (phrase_starts counts start.method n (plain_phrase start.place elements))) number_is ∙ ap (λ (x : ArrayStart). put_all before.starts.items (phrase_starts counts x.method (start_at s a).number (plain_phrase x.place elements))) start_is ∙ ap (λ (ls : List Lit). put_all before.starts.items (phrase_starts counts (start_at s a).method (start_at s a).number (plain_phrase (start_at s a).place ls))) elements_are)

  -- the last of the arrays that are left
  pub closed_step : (left a : ℕ) (s u : Stage) → left ≡ suc a → u ≡ array_closed counts a s → arrays_closed counts left s ≡ arrays_closed counts a u
  closed_step left a s u is_last is_closed = ap (λ (n : ℕ). arrays_closed counts n s) is_last ∙ sym (ap (arrays_closed counts a) is_closed)

  pub as_many_arrays : (a : ℕ) (s u : Stage) → u ≡ array_closed counts a s → length u.arrays ≡ length s.arrays
  as_many_arrays a s u is_closed = ap (λ (x : Stage). length x.arrays) is_closed ∙ length-set s.arrays a (closed_elements counts (start_at s a).number (elements_at s a))

  pub as_many_starts : (a : ℕ) (s u : Stage) → u ≡ array_closed counts a s → length u.starts ≡ length s.starts
  as_many_starts a s u is_closed = ap (λ (x : Stage). length x.starts) is_closed ∙ as_many_put s.starts (phrase_starts counts (start_at s a).method (start_at s a).number (plain_phrase (start_at s a).place (elements_at s a)))

  -- words and arrays are closed one after the other
  pub parts_closed : (words words_closed : List WordDef) (arrays arrays_now : List (List Lit)) (templates : List Template) (begun between done : Closing) → counts ≡ counts_from [] arrays → begun.next ≡ 0 → length begun.templates.items ≡ words_behind counts 0 words → length begun.starts.items ≡ length arrays → (words_closed ≡ closed_words counts 0 begun.next words) × WordsPassed counts 0 begun words between → stage_of arrays_now done ≡ arrays_closed counts (length arrays) (stage_of arrays between) → templates ≡ done.templates.items → PartsClosed words arrays words_closed arrays_now templates
  parts_closed words words_closed arrays arrays_now templates begun between done counts_are next_is many_templates many_starts closes arrays_are templates_are = record {
    counts = counts;
    counts_are = counts_are;
    unfilled = begun.templates.items;
    unfilled_count = many_templates;
    unmet = begun.starts.items;
    unmet_count = many_starts;
    words_are = closes.0 ∙ ap (λ (n : ℕ). closed_words counts 0 n words) next_is;
    after_words = stage_of arrays between;
    after_words_is = same_stage refl (closes.1.templates_are ∙ ap (λ (n : ℕ). put_all begun.templates.items (words_templates counts 0 n words)) next_is) (closes.1.starts_are ∙ ap (λ (n : ℕ). put_all begun.starts.items (words_starts counts 0 n words)) next_is);
    last = stage_of arrays_now done;
    last_is = arrays_are;
    arrays_are = refl;
    templates_are = templates_are;
  }

-- the same lists
pub same_parts : (ds es words : List WordDef) (lss mss arrays arrays_now : List (List Lit)) (templates : List Template) → ds ≡ es → lss ≡ mss → arrays_now ≡ arrays → PartsClosed ds lss words arrays templates → PartsClosed es mss words arrays_now templates
same_parts ds es words lss mss arrays arrays_now templates e f g h = rw (← e, ← f, g) h
