-- The tables of a closed program are those of the program for which it stands.
use Rattle.std.proofs.Common.{◌≡◌, ℕ, zero, suc, List, [], ◌∷◌, length, true, false, refl, ap, ◌∙◌}
use Rattle.std.specs.Prelude.{take, nat_eq}
use Rattle.fac_lang.specs.declared.program.ClassDef.{ClassDef}
use Rattle.fac_lang.specs.declared.program.Program.{Program}
use Rattle.fac_lang.specs.declared.program.Sort.{Sort}
use Rattle.fac_lang.specs.declared.program.Sort.TheVariants.{Generic as generic, Method as method}
use Rattle.fac_lang.specs.declared.program.WordDef.{WordDef}
use Rattle.fac_lang.specs.Classes.{methods_from}
use Rattle.fac_locals.specs.Closed.{Closes}
use Rattle.fac_locals.specs.declared.closing.Closed.{Closed}
use Rattle.fac_generic.specs.Methods.{methods_in_order, in_order}
use Rattle.fac_emit.specs.ProgramTables.{program_sets, sets_from, generics_among, generic_number}
use Rattle.fac_emit.proofs.Closings.{Alike, a_same, a_body, a_past, a_method, AlikeWords, alike_words}

generic_alike : (s c : Sort) (x y : ℕ) → Alike s c → ◌≡◌ {A = ℕ} (elim c [ generic ↦ x | _ ↦ y ]) (elim s [ generic ↦ x | _ ↦ y ])
generic_alike s c x y (a_same t) = refl
generic_alike s c x y (a_body t u) = refl
generic_alike s c x y (a_past t u) = refl
generic_alike s c x y (a_method n g t u) = refl

method_alike : (s c : Sort) (g k : ℕ) (ms : List (ℕ × ℕ)) → Alike s c →
    ◌≡◌ {A = List (ℕ × ℕ)} (elim c [ method d h t ↦ elim (nat_eq g h) [ true ↦ (k, d) ∷ ms | false ↦ ms ] | _ ↦ ms ]) (elim s [ method d h t ↦ elim (nat_eq g h) [ true ↦ (k, d) ∷ ms | false ↦ ms ] | _ ↦ ms ])
method_alike s c g k ms (a_same t) = refl
method_alike s c g k ms (a_body t u) = refl
method_alike s c g k ms (a_past t u) = refl
method_alike s c g k ms (a_method n h t u) = refl

pub count_alike : (ds cs : List WordDef) → AlikeWords ds cs → length cs ≡ length ds
count_alike [] cs h = ap length h
count_alike (d ∷ ds) cs h = ap length h.2 ∙ ap suc (count_alike ds h.1 h.4)

generics_same : (ds cs : List WordDef) (g : ℕ) → AlikeWords ds cs → generics_among (take g cs) ≡ generics_among (take g ds)
generics_same [] cs g h = ap (λ (xs : List WordDef). generics_among (take g xs)) h
generics_same (d ∷ ds) cs zero h = ap (λ (xs : List WordDef). generics_among (take 0 xs)) h.2
generics_same (d ∷ ds) cs (suc g) h =
    let later = generics_same ds h.1 g h.4 in
    ap (λ (xs : List WordDef). generics_among (take (suc g) xs)) h.2 ∙ ap (λ (n : ℕ). elim h.0.sort [ generic ↦ suc n | _ ↦ n ]) later ∙ generic_alike d.sort h.0.sort (suc (generics_among (take g ds))) (generics_among (take g ds)) h.3.sort

pub methods_same : (g k : ℕ) (ds cs : List WordDef) → AlikeWords ds cs → methods_from g k cs ≡ methods_from g k ds
methods_same g k [] cs h = ap (methods_from g k) h
methods_same g k (d ∷ ds) cs h =
    ap (methods_from g k) h.2
    ∙ ap (λ (ms : List (ℕ × ℕ)). elim h.0.sort [ method c j t ↦ elim (nat_eq g j) [ true ↦ (k, c) ∷ ms | false ↦ ms ] | _ ↦ ms ]) (methods_same g (suc k) ds h.1 h.4)
    ∙ method_alike d.sort h.0.sort g k (methods_from g (suc k) ds) h.3.sort

module _ (P : Program) (C : Closed) (closes : Closes P C.program C.templates) where
  alike : AlikeWords P.words C.program.words
  alike = alike_words P 0 P.words C.program.words closes.words

  pub word_count : length C.program.words ≡ length P.words
  word_count = count_alike P.words C.program.words alike

  pub generic_same : (g : ℕ) → generic_number C.program g ≡ generic_number P g
  generic_same g = generics_same P.words C.program.words g alike

  pub order_same : (g : ℕ) → methods_in_order C.program g ≡ methods_in_order P g
  order_same g = ap (in_order C.program.classes) (methods_same g 0 P.words C.program.words alike) ∙ ap (λ (cs : List ClassDef). in_order cs (methods_from g 0 P.words)) closes.classes

  pub sets_same : program_sets C.program ≡ program_sets P
  sets_same = ap (λ (cs : List ClassDef). sets_from cs 0 cs) closes.classes
