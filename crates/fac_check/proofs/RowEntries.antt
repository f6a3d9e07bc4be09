-- What is made once of the effects of row words, word by word.
use Rattle.std.proofs.Common.{◌≡◌, ℕ, List, map, Bool, true, false, Option, Some, None, refl, sym, ap, subst, ◌∙◌}
use Rattle.std.specs.Prelude.{slice_get}
use Rattle.std.specs.Option.{option_map}
use Rattle.std.proofs.lemmas.Option.{slice_get-map}
use Rattle.fac_base.specs.Signatures.{Signature}
use Rattle.fac_lang.specs.declared.program.WordDef.{WordDef}
use Rattle.fac_abs.specs.RowVariables.{is_row, bindable}
use Rattle.fac_rows.specs.declared.row_effect.RowEffect.{RowEffect}
use Rattle.fac_rows.specs.NumberedRows.{numbered, row_entry, IsRowEntry, entry_at}
use Rattle.fac_check.specs.inner.UsedEffects.{IsUsedAs}
use Rattle.fac_check.specs.inner.Walking.{effect_of}
use Rattle.fac_check.proofs.NumberedUses.{numbered_is_used, itself_is_used}

-- the entry of a word
is_entry : (d : WordDef) → IsRowEntry d (row_entry d)
is_entry d = by_test (is_row d.recursive d.effect) refl
  where
    by_test : (b : Bool) → is_row d.recursive d.effect ≡ b → IsRowEntry d (elim b [ true ↦ Some (record { numbered = numbered d.effect; bindable = bindable d.effect }) | false ↦ None ])
    by_test true e = (e, refl, refl)
    by_test false e = e

pub entry_there : (words : List WordDef) (entries : List (Option RowEffect)) (n : ℕ) (d : WordDef) (o : Option RowEffect) → entries ≡ map row_entry words → slice_get words n ≡ Some d → o ≡ entry_at (slice_get entries n) → IsRowEntry d o
entry_there words entries n d o all there at =
    let same : o ≡ row_entry d =
    at
    ∙ ap (λ (es : List (Option RowEffect)). entry_at (slice_get es n)) all
    ∙ ap entry_at (slice_get-map row_entry words n)
    ∙ ap (λ (x : Option WordDef). entry_at (option_map row_entry x)) there in
    subst (IsRowEntry d) (sym same) (is_entry d)

-- a row word is used by its effect with numbered rows
pub used_entry : (words : List WordDef) (n : ℕ) (d : WordDef) (r : RowEffect) → slice_get words n ≡ Some d → IsRowEntry d (Some r) → IsUsedAs r.numbered (effect_of (slice_get words n))
used_entry words n d r there entry =
    subst (λ (x : Signature). IsUsedAs r.numbered x) (ap effect_of (sym there)) (subst (λ (x : Signature). IsUsedAs x d.effect) (sym entry.1) (numbered_is_used d.effect))

pub used_itself : (words : List WordDef) (n : ℕ) (d : WordDef) → slice_get words n ≡ Some d → IsUsedAs d.effect (effect_of (slice_get words n))
used_itself words n d there = subst (λ (x : Signature). IsUsedAs d.effect x) (ap effect_of (sym there)) (itself_is_used d.effect)
