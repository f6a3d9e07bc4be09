-- What the numbers of words name.
use Rattle.std.proofs.Common.{◌≡◌, ℕ, zero, suc, ◌+◌, List, [], ◌∷◌, Option, Some, None, refl, ap, ◌∙◌, arith}
use Rattle.std.specs.Prelude.{slice_get}
use Rattle.fac_lang.specs.declared.program.WordDef.{WordDef}
use Rattle.fac_lang.specs.declared.program.Sort.{Sort}
use Rattle.fac_lang.specs.declared.program.Sort.TheVariants.{Generic as generic}
use Rattle.fac_lang.specs.Meaning.{sort_of}
use Rattle.fac_locals.specs.declared.closing.Closed.{Closed}
use Rattle.fac_emit.specs.ProgramTables.{sort_number, numbers_from, word_numbers}
use Rattle.fac_emit.specs.ProgramCode.{sort_instr, sort_action}
use Rattle.fac_emit.specs.inner.NumberedWords.{number_at, numbered_instr, numbered_action}

module _ (C : Closed) where
  number_from : (w k : ℕ) (ds : List WordDef) (d : WordDef) → slice_get ds k ≡ Some d → number_at (numbers_from C w ds) k ≡ sort_number C (w + k) d.sort
  number_from w k [] d e = absurd (cc)
  number_from w zero (x ∷ ds) d e = let n : w + 0 ≡ w = omega arith in let same : x ≡ d = cc in rw (n, same) refl
  number_from w (suc k) (x ∷ ds) d e = let n : w + suc k ≡ suc w + k = omega arith in rw n (number_from (suc w) k ds d e)

  pub number_of_word : (w : ℕ) (d : WordDef) → slice_get C.program.words w ≡ Some d → number_at (word_numbers C) w ≡ sort_number C w d.sort
  number_of_word w d e = let n : 0 + w ≡ w = omega arith in number_from 0 w C.program.words d e ∙ ap (λ (k : ℕ). sort_number C k d.sort) n

  pub instr_numbered : (w : ℕ) (s : Sort) → numbered_instr (sort_number C w s) w s ≡ sort_instr C w s
  instr_numbered w generic = refl
  instr_numbered w _ = refl

  action_numbered : (w at : ℕ) (s : Sort) → numbered_action (sort_number C w s) at s ≡ sort_action C w at s
  action_numbered w at generic = refl
  action_numbered w at _ = refl

  -- the sort of a word that is there
  sorted : (o : Option WordDef) (s : Sort) → (elim o [ Some d ↦ Some d.sort | None ↦ None ]) ≡ Some s → (d : WordDef) × (o ≡ Some d) × (d.sort ≡ s)
  sorted (Some d) s e = (d, refl, cc)
  sorted None s e = absurd (cc)

  -- what a word does, by its number
  pub action_is : (w at : ℕ) (s : Sort) → sort_of C.program w ≡ Some s → numbered_action (number_at (word_numbers C) w) at s ≡ sort_action C w at s
  action_is w at s e =
      let found = sorted (slice_get C.program.words w) s e in
      let number = number_of_word w found.0 found.1 ∙ ap (sort_number C w) found.2 in
      ap (λ (n : ℕ). numbered_action n at s) number ∙ action_numbered w at s
