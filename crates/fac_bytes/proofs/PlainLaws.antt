-- Generics are written without a look at the numbers that are taken.
use Rattle.std.proofs.Common.{◌≡◌, ℕ, zero, suc, List, [], ◌∷◌, ◌++◌, length, refl, ap, ◌∙◌, arith}
use Rattle.fac_code.specs.declared.image.MethodRow.{MethodRow}
use Rattle.fac_code.specs.declared.image.GenericRow.{GenericRow}
use Rattle.fac_spelling.specs.Formats.{Format, each}
use Rattle.fac_spelling.specs.Numbers.{number32, greatest32, shortest}
use Rattle.fac_spelling.specs.Lists.{counted}
use Rattle.fac_bytes.specs.GenericBytes.{method_in, and_number, methods, generic_in, generic, and_numbers, generics_from, generics}

abbrev pub plain_method : Format MethodRow
plain_method = method_in number32

abbrev pub plain_generic : Format GenericRow
plain_generic = generic_in greatest32 (λ n. each n plain_method)

methods_each : (n : ℕ) (taken : List ℕ) (ms : List MethodRow) → (methods n taken).Fits ms → (each n plain_method).Fits ms
methods_each zero taken [] h = tt
methods_each zero taken (m ∷ ms) h = absurd h
methods_each (suc n) taken [] h = absurd h
methods_each (suc n) taken (m ∷ ms) h = ((record { above = h.0.0.above; below = h.0.0.below }, h.0.1), methods_each n (and_number taken m) ms h.1)

methods_spelled : (n : ℕ) (taken : List ℕ) (ms : List MethodRow) → (each n plain_method).spell ms ≡ (methods n taken).spell ms
methods_spelled zero taken ms = refl
methods_spelled (suc n) taken [] = refl
methods_spelled (suc n) taken (m ∷ ms) = ap (λ (z : List ℕ). plain_method.spell m ++ z) (methods_spelled n (and_number taken m) ms)

generic_plain : (taken : List ℕ) (g : GenericRow) → (generic taken).Fits g → plain_generic.Fits g
generic_plain taken g h = (h.0, (record { above = h.1.0.above; below = omega (arith, h.1.0.below) }, methods_each (length g.methods) taken g.methods h.1.1))

generic_spelled : (taken : List ℕ) (g : GenericRow) → plain_generic.spell g ≡ (generic taken).spell g
generic_spelled taken g = ap (λ (z : List ℕ). shortest g.word ++ (shortest (length g.methods) ++ z)) (methods_spelled (length g.methods) taken g.methods)

generics_each : (n : ℕ) (taken : List ℕ) (gs : List GenericRow) → (generics_from n taken).Fits gs → (each n plain_generic).Fits gs
generics_each zero taken [] h = tt
generics_each zero taken (g ∷ gs) h = absurd h
generics_each (suc n) taken [] h = absurd h
generics_each (suc n) taken (g ∷ gs) h = (generic_plain taken g h.0, generics_each n (and_numbers taken g) gs h.1)

generics_spelled : (n : ℕ) (taken : List ℕ) (gs : List GenericRow) → (each n plain_generic).spell gs ≡ (generics_from n taken).spell gs
generics_spelled zero taken gs = refl
generics_spelled (suc n) taken [] = refl
generics_spelled (suc n) taken (g ∷ gs) = ap (λ (z : List ℕ). z ++ (each n plain_generic).spell gs) (generic_spelled taken g) ∙ ap (λ (z : List ℕ). (generic taken).spell g ++ z) (generics_spelled n (and_numbers taken g) gs)

pub generics_plain : (gs : List GenericRow) → generics.Fits gs → (counted plain_generic).Fits gs
generics_plain gs h = (h.0, generics_each (length gs) [] gs h.1)

pub generics_same : (out : List ℕ) (gs : List GenericRow) → out ++ (counted plain_generic).spell gs ≡ out ++ generics.spell gs
generics_same out gs = ap (λ (z : List ℕ). out ++ (shortest (length gs) ++ z)) (generics_spelled (length gs) [] gs)
