-- The rows of methods, as the code makes them of their words.
use Rattle.std.proofs.Common.{◌≡◌, ℕ, suc, List, [], ◌∷◌, map, refl, ap, sym, ◌∙◌}
use Rattle.std.specs.Prelude.{slice_get, Some}
use Rattle.fac_lang.specs.declared.program.Program.{Program}
use Rattle.fac_lang.specs.declared.program.Sort.{Sort}
use Rattle.fac_lang.specs.declared.program.Sort.TheVariants.{Generic as generic}
use Rattle.fac_code.specs.declared.image.GenericRow.{GenericRow}
use Rattle.fac_code.specs.declared.image.MethodRow.{MethodRow}
use Rattle.fac_generic.specs.Methods.{HasMethods, methods_in_order}
use Rattle.fac_generic.proofs.MethodLawLemmas.{lawful}
use Rattle.fac_emit.specs.ProgramTables.{method_row}
use Rattle.fac_emit.specs.inner.Dispatch.{class_by, class_in, generic_rows}

-- the words of methods, each with its class
abbrev words_in : List (ℕ × ℕ) → List ℕ
words_in ms = map (λ m. m.0) ms

module _ (C : Program) (has : HasMethods C) where
  -- the rows of methods by their words
  rows_same : (place : ℕ → ℕ) (ms : List (ℕ × ℕ)) → ((i m c : ℕ) → slice_get ms i ≡ Some (m, c) → class_in C m ≡ c) → map (λ (m : ℕ). method_row place (m, class_in C m)) (words_in ms) ≡ map (method_row place) ms
  rows_same place [] own = refl
  rows_same place (x ∷ ms) own =
      ap (λ (c : ℕ). method_row place (x.0, c) ∷ map (λ (m : ℕ). method_row place (m, class_in C m)) (words_in ms)) (own 0 x.0 x.1 refl)
      ∙ ap (λ (rs : List MethodRow). method_row place x ∷ rs) (rows_same place ms (λ i m c e. own (suc i) m c e))

  method_rows : (place : ℕ → ℕ) (T : Program) → T ≡ C → (g : ℕ) (ms : List ℕ) → ms ≡ map (λ (m : ℕ × ℕ). m.0) (methods_in_order T g) → map (λ (m : ℕ). method_row place (m, class_in C m)) ms ≡ map (method_row place) (methods_in_order C g)
  method_rows place T same g ms are =
      ap (map (λ (m : ℕ). method_row place (m, class_in C m))) (are ∙ ap (λ (P : Program). words_in (methods_in_order P g)) same)
      ∙ rows_same place (methods_in_order C g) (λ i m c e. ap class_by ((lawful C has).are_methods g i m c e).1)

  pub generic_row :
      (place : ℕ → ℕ) (T : Program) → T ≡ C → (g : ℕ) (ms : List ℕ) (rows : List MethodRow) (s : Sort) → ms ≡ map (λ (m : ℕ × ℕ). m.0) (methods_in_order T g) → rows ≡ map (λ (m : ℕ). method_row place (m, class_in C m)) ms → s ≡ generic →
      (let row : GenericRow = record { word = g; methods = rows } in row ∷ [] ≡ generic_rows C place g s)
  generic_row place T same g ms rows s are is sort =
      ap (λ (rs : List MethodRow). let row : GenericRow = record { word = g; methods = rs } in row ∷ []) (is ∙ method_rows place T same g ms are)
      ∙ ap (generic_rows C place g) (sym sort)
