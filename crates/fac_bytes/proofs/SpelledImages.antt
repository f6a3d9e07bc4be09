-- An image whose parts have a spelling keeps what is asked of it.
use Rattle.std.proofs.Common.{◌≡◌, refl, ℕ, zero, suc, ◌-◌, ◌^◌, ◌≤◌, Bool, true, false, List, [], ◌∷◌, ◌++◌, length, Option, Some, None, sym, subst, append_assoc, arith}
use Rattle.std.specs.Prelude.{not, nat_eq}
use Rattle.std.specs.List.{AllByRecursion, IsDistinct, list_all}
use Rattle.std.proofs.lemmas.Bool.{and_from, and_parts, lt-ltb}
use Rattle.std.proofs.lemmas.List.{append-nil}
use Rattle.fac_code.specs.declared.image.Instr.{Instr}
use Rattle.fac_code.specs.declared.image.MethodRow.{MethodRow}
use Rattle.fac_code.specs.declared.image.GenericRow.{GenericRow}
use Rattle.fac_code.specs.declared.image.Image.{Image}
use Rattle.fac_code.specs.declared.instr_row.Operand.{Operand}
use Rattle.fac_code.specs.declared.instr_row.Operand.TheVariants as o
use Rattle.fac_code.specs.InstrRows.{row_of}
use Rattle.fac_bytes.specs.Spellable.{method_numbers, is_short, are_few, operand_leaves_few, leaves_few, IsSpellable}
use Rattle.fac_spelling.specs.Formats.{each}
use Rattle.fac_spelling.specs.TestedNumbers.{is_free}
use Rattle.fac_spelling.specs.Texts.{text}
use Rattle.fac_bytes.specs.InstructionBytes.{instr, operand, outs_number}
use Rattle.fac_bytes.specs.GenericBytes.{methods, numbers_of, generics_from}
use Rattle.fac_bytes.specs.ImageBytes.{image, parts_of}
use Rattle.fac_bytes.proofs.InstructionLaws.{operand_fits_so}

-- ---- numbers of methods

apart_more : (t : ℕ) (ts : List ℕ) (n : ℕ) → AllByRecursion (λ y. nat_eq t y ≡ false) ts → nat_eq t n ≡ false → AllByRecursion (λ y. nat_eq t y ≡ false) (ts ++ n ∷ [])
apart_more t [] n h k = (k, tt)
apart_more t (u ∷ ts) n h k = (h.0, apart_more t ts n h.1 k)

not_so : (b : Bool) → not b ≡ true → b ≡ false
not_so true h = sym h
not_so false h = refl

distinct_more : (ts : List ℕ) (n : ℕ) → IsDistinct nat_eq ts → is_free ts n ≡ true → IsDistinct nat_eq (ts ++ n ∷ [])
unfolding IsDistinct
distinct_more [] n h free = (tt, tt)
distinct_more (t ∷ ts) n h free =
    let parts = and_parts (not (nat_eq t n)) (is_free ts n) free in
    (apart_more t ts n h.0 (not_so (nat_eq t n) parts.0), distinct_more ts n h.1 parts.1)

methods_distinct : (n : ℕ) (taken : List ℕ) (ms : List MethodRow) → (methods n taken).Fits ms → IsDistinct nat_eq taken → IsDistinct nat_eq (taken ++ numbers_of ms)
methods_distinct zero taken [] fits h = subst (IsDistinct nat_eq) (sym (append-nil taken)) h
methods_distinct zero taken (m ∷ ms) fits h = absurd fits
methods_distinct (suc n) taken [] fits h = absurd fits
methods_distinct (suc n) taken (m ∷ ms) fits h =
    let next : (taken ++ m.number ∷ []) ++ numbers_of ms ≡ taken ++ (m.number ∷ numbers_of ms) = append_assoc taken (m.number ∷ []) (numbers_of ms) in
    subst (IsDistinct nat_eq) next (methods_distinct n (taken ++ m.number ∷ []) ms fits.1 (distinct_more taken m.number h fits.0.0.passes))

generics_distinct : (n : ℕ) (taken : List ℕ) (gs : List GenericRow) → (generics_from n taken).Fits gs → IsDistinct nat_eq taken → IsDistinct nat_eq (taken ++ method_numbers gs)
generics_distinct zero taken [] fits h = subst (IsDistinct nat_eq) (sym (append-nil taken)) h
generics_distinct zero taken (g ∷ gs) fits h = absurd fits
generics_distinct (suc n) taken [] fits h = absurd fits
generics_distinct (suc n) taken (g ∷ gs) fits h =
    let own = numbers_of g.methods in
    subst (IsDistinct nat_eq) (append_assoc taken own (method_numbers gs)) (generics_distinct n (taken ++ own) gs fits.1 (methods_distinct (length g.methods) taken g.methods fits.0.1.1 h))

none_taken : IsDistinct nat_eq []
unfolding IsDistinct
none_taken = tt

-- ---- texts

texts_short : (n : ℕ) (ts : List (List ℕ)) → (each n text).Fits ts → list_all is_short ts ≡ true
texts_short zero [] fits = refl
texts_short zero (t ∷ ts) fits = absurd fits
texts_short (suc n) [] fits = absurd fits
texts_short (suc n) (t ∷ ts) fits = and_from (is_short t) (list_all is_short ts) (lt-ltb (length t) (2 ^ 32) (omega (arith, fits.0.0.below))) (texts_short n ts fits.1)

-- ---- code

outs_few : (outs : Option ℕ) → outs_number outs ≤ 2 ^ 32 - 1 → are_few outs ≡ true
outs_few None h = refl
outs_few (Some k) h = lt-ltb k (2 ^ 32 - 1) (omega (arith, h))

operand_few : (op : Operand) → (operand op).Fits op → operand_leaves_few op ≡ true
operand_few o.Nothing h = refl
operand_few (o.Integer z) h = refl
operand_few (o.Height k) h = outs_few k.outs (omega (arith, h.0.1.below))
operand_few (o.Number r k) h = refl

code_few : (n : ℕ) (is : List Instr) → (each n instr).Fits is → list_all leaves_few is ≡ true
code_few zero [] fits = refl
code_few zero (i ∷ is) fits = absurd fits
code_few (suc n) [] fits = absurd fits
code_few (suc n) (i ∷ is) fits = and_from (leaves_few i) (list_all leaves_few is) (operand_few (row_of i).operand (operand_fits_so i fits.0)) (code_few n is fits.1)

pub fitting : (M : Image) → image.Fits (parts_of M) → IsSpellable M
fitting M fits =
    let tables = fits.1.0 in
    record {
      numbers_differ = generics_distinct (length M.generics) [] M.generics tables.1.1.1.0.1 none_taken;
      texts_short = texts_short (length M.texts) M.texts tables.0.0.1;
      few_left = code_few (length M.code) M.code fits.1.1.0.1;
    }
