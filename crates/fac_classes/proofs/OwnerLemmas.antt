-- The own kinds as the code has them.
use Rattle.std.proofs.Common.{◌≡◌, ◌<◌, ◌≤◌, ℕ, ◌+◌, ◌-◌, List, length, Bool, true, false, refl, sym, ap, ◌∙◌, arith}
use Rattle.std.specs.Prelude.{nat_eq, nat_lt, nat_le, ◌||◌, ◌&&◌, Option, Some, None, slice_get}
use Rattle.fac_lang.specs.declared.program.ClassDef.{ClassDef}
use Rattle.fac_lang.specs.declared.program.Shape.{Shape}
use Rattle.fac_lang.specs.Classes.{class_with, shape_at, shape_with, is_tuple, is_single, own_count, built_in_has}
use Rattle.fac_classes.specs.inner.OwnKinds.{owners_from}
use Rattle.fac_classes.proofs.ListLemmas.{not_true}
use Rattle.fac_classes.proofs.KindLemmas.{owner_at, owner_count}

pub owner_with : (cs : List ClassDef) (owners : List ℕ) (k : ℕ) → 8 ≤ k → owners ≡ owners_from 0 cs → slice_get owners (k - 8) ≡ class_with 0 cs k
owner_with cs owners k le e =
    let back : 8 + (k - 8) ≡ k = omega (arith, le) in
    ap (λ (xs : List ℕ). slice_get xs (k - 8)) e ∙ owner_at cs 0 (k - 8) ∙ ap (class_with 0 cs) back

with_owner : (cs : List ClassDef) (k : ℕ) (o : Option ℕ) → class_with 0 cs k ≡ o → shape_with cs k ≡ (let s : Option Shape = elim o [ Some d ↦ shape_at cs d | None ↦ None ] in s)
with_owner cs k o e = ap (λ (x : Option ℕ). let s : Option Shape = elim x [ Some d ↦ shape_at cs d | None ↦ None ] in s) e

at_least : (k : ℕ) → 8 ≤ k → nat_le 8 k ≡ true
at_least k le = grind arith

-- A test of the shape of a kind's class, by the class that the code finds.
pub kind_owner : (test : Option Shape → Bool) (cs : List ClassDef) (owners : List ℕ) (k d : ℕ) → 8 ≤ k → owners ≡ owners_from 0 cs → Some d ≡ slice_get owners (k - 8) → test (shape_at cs d) ≡ (nat_le 8 k && test (shape_with cs k))
kind_owner test cs owners k d le e q = sym (ap test (with_owner cs k (Some d) (sym (q ∙ owner_with cs owners k le e)))) ∙ ap (λ (b : Bool). b && test (shape_with cs k)) (sym (at_least k le))

pub kind_unowned : (test : Option Shape → Bool) → test None ≡ false → (cs : List ClassDef) (owners : List ℕ) (k : ℕ) → 8 ≤ k → owners ≡ owners_from 0 cs → None ≡ slice_get owners (k - 8) → false ≡ (nat_le 8 k && test (shape_with cs k))
kind_unowned test nothing cs owners k le e q = sym (ap test (with_owner cs k None (sym (q ∙ owner_with cs owners k le e))) ∙ nothing) ∙ ap (λ (b : Bool). b && test (shape_with cs k)) (sym (at_least k le))

-- The class object, behind the others, has the kinds that there are.
pub object_has : (cs : List ClassDef) (owners : List ℕ) (j k : ℕ) → owners ≡ owners_from 0 cs → 11 ≤ j → nat_lt k (8 + length owners) ≡ built_in_has cs j k
object_has cs owners j k e le = ap (λ (n : ℕ). nat_lt k (8 + n)) (ap length e ∙ owner_count cs 0) ∙ sym (rest (nat_lt j 8) (nat_eq j 8) (nat_eq j 9) (nat_eq j 10) (low j le) (other j 8 (omega (arith, le))) (other j 9 (omega (arith, le))) (other j 10 (omega (arith, le))))
  where
    low : (j : ℕ) → 11 ≤ j → nat_lt j 8 ≡ false
    low j le = grind arith

    other : (j n : ℕ) → n < j → nat_eq j n ≡ false
    other j n lt = grind arith

    rest : (a b c d : Bool) → a ≡ false → b ≡ false → c ≡ false → d ≡ false →
        (let r : Bool = elim a [
          | true ↦ nat_eq j k || (nat_eq j 5 && nat_le 8 k && is_single (shape_with cs k))
          | false ↦ elim b [
            | true ↦ nat_eq k 1 || nat_eq k 2
            | false ↦ elim c [ true ↦ nat_eq k 3 || nat_eq k 4 || nat_eq k 6 | false ↦ elim d [ true ↦ nat_le 8 k && is_tuple (shape_with cs k) | false ↦ nat_lt k (8 + own_count cs) ] ]
          ]
        ] in r ≡ nat_lt k (8 + own_count cs))
    rest false false false false p q r s = refl
    rest true b c d p q r s = not_true (sym p)
    rest false true c d p q r s = not_true (sym q)
    rest false false true d p q r s = not_true (sym r)
    rest false false false true p q r s = not_true (sym s)
