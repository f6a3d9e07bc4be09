-- What the operations of the code's table of primitives do in the checker's walk.
use Rattle.std.proofs.Common.{◌≡◌, ℕ, List, length, Bool, true, false, Option, Some, option_map, refl, sym, ap, ◌∙◌}
use Rattle.fac_lang.specs.Phrases.{Mark}
use Rattle.fac_lang.specs.PrimitiveWords.{outputs_of}
use Rattle.fac_lang.specs.Primitives.{Primitive, prim_numbered, primitive_does, IsOperationOf}
use Rattle.fac_lang.specs.Operations.{TableOperation, PrimitiveMeaning as Does, simple_doing, one_doing, two_doing, three_doing, writing_doing, operation_does}
use Rattle.fac_lang.specs.declared.primitive_table.Operation.TheVariants as operation
use Rattle.fac_lang.specs.declared.primitive_table.Storing.{Storing}
use Rattle.fac_lang.specs.declared.primitive_table.Storing.TheVariants as storing
use Rattle.fac_lang.specs.declared.primitive_table.Simple.{Simple}
use Rattle.fac_lang.specs.declared.primitive_table.Simple.TheVariants as simple
use Rattle.fac_lang.specs.declared.primitive_table.OfOne.{OfOne}
use Rattle.fac_lang.specs.declared.primitive_table.OfOne.TheVariants as of_one
use Rattle.fac_lang.specs.declared.primitive_table.OfTwo.{OfTwo}
use Rattle.fac_lang.specs.declared.primitive_table.OfTwo.TheVariants as of_two
use Rattle.fac_lang.specs.declared.primitive_table.OfThree.{OfThree}
use Rattle.fac_lang.specs.declared.primitive_table.OfThree.TheVariants as of_three
use Rattle.fac_lang.specs.declared.primitive_table.Writing.{Writing}
use Rattle.fac_lang.specs.declared.primitive_table.Writing.TheVariants as writing
use Rattle.fac_abs.specs.RowVariables.{Row}
use Rattle.fac_check.specs.Flow.{Doing, by_height, procedure_doing, prim_doing}

-- the operation of a number does what its primitive does
operation_is : (k : ℕ) (o : TableOperation) (p : Primitive) → IsOperationOf k o → prim_numbered k ≡ Some p → primitive_does p ≡ operation_does o
operation_is k o p h e = (let same : Some (primitive_does p) ≡ Some (operation_does o) = sym (ap (option_map primitive_does) e) ∙ h in cc)

-- what it does in the walk
abbrev pub walked_so : Does → Option Row → List Mark → Doing
walked_so d b ms = procedure_doing d.takes d.does b ms

pub operation_walked : (k : ℕ) (o : TableOperation) (p : Primitive) (b : Option Row) (ms : List Mark) → IsOperationOf k o → prim_numbered k ≡ Some p → walked_so (operation_does o) b ms ≡ prim_doing (Some p) b ms
operation_walked k o p b ms h e = ap (λ (d : Does). walked_so d b ms) (sym (operation_is k o p h e))

-- whether an operation is a shuffle, `curry` or `compose`
abbrev pub makes_marks : TableOperation → Bool
makes_marks (operation.Shuffle takes places) = true
makes_marks (operation.Storing storing.Curry) = true
makes_marks (operation.Storing storing.Compose) = true
makes_marks _ = false

pub other_kind : (o : TableOperation) → ((takes : ℕ) (places : _) → o ≡ operation.Shuffle takes places → ⊥) → ((s : _) → o ≡ operation.Storing s → ⊥) → makes_marks o ≡ false
other_kind (operation.Shuffle takes places) f g = absurd (f takes places refl)
other_kind (operation.Storing s) f g = absurd (g s refl)
other_kind _ f g = refl

pub other_storing : (s : Storing) → (s ≡ storing.Curry → ⊥) → (s ≡ storing.Compose → ⊥) → makes_marks (operation.Storing s) ≡ false
other_storing storing.Curry f g = absurd (f refl)
other_storing storing.Compose f g = absurd (g refl)
other_storing _ f g = refl

-- Of what the others leave nothing is known, group by group.

simple_known : (o : Simple) (b : Option Row) (ms : List Mark) → by_height (simple_doing o).takes (simple_doing o).outs b ms ≡ walked_so (simple_doing o) b ms
simple_known simple.Throw b ms = refl
simple_known _ b ms = refl

one_known : (o : OfOne) (b : Option Row) (ms : List Mark) → by_height (one_doing o).takes (one_doing o).outs b ms ≡ walked_so (one_doing o) b ms
one_known of_one.NumberToString b ms = refl
one_known _ b ms = refl

two_known : (o : OfTwo) (b : Option Row) (ms : List Mark) → by_height (two_doing o).takes (two_doing o).outs b ms ≡ walked_so (two_doing o) b ms
two_known of_two.Nth b ms = refl
two_known _ b ms = refl

three_known : (o : OfThree) (b : Option Row) (ms : List Mark) → by_height (three_doing o).takes (three_doing o).outs b ms ≡ walked_so (three_doing o) b ms
three_known of_three.SetNth b ms = refl
three_known _ b ms = refl

writing_known : (o : Writing) (b : Option Row) (ms : List Mark) → by_height (writing_doing o).takes (writing_doing o).outs b ms ≡ walked_so (writing_doing o) b ms
writing_known writing.Write b ms = refl
writing_known _ b ms = refl

nothing_known : (o : TableOperation) (b : Option Row) (ms : List Mark) → makes_marks o ≡ false → by_height (operation_does o).takes (operation_does o).outs b ms ≡ walked_so (operation_does o) b ms
unfolding operation_does
nothing_known (operation.Shuffle takes places) b ms e = absurd (cc)
nothing_known (operation.Storing storing.Curry) b ms e = absurd (cc)
nothing_known (operation.Storing storing.Compose) b ms e = absurd (cc)
nothing_known (operation.Storing _) b ms e = refl
nothing_known (operation.Simple o) b ms e = simple_known o b ms
nothing_known (operation.OfOne o) b ms e = one_known o b ms
nothing_known (operation.OfTwo o) b ms e = two_known o b ms
nothing_known (operation.OfThree o) b ms e = three_known o b ms
nothing_known (operation.Writing o) b ms e = writing_known o b ms
nothing_known operation.ReadLine b ms e = refl

-- every other goes by the effect of its word
pub other_walked : (k : ℕ) (o : TableOperation) (p : Primitive) (i : ℕ) (u : Option ℕ) (b : Option Row) (ms : List Mark) → IsOperationOf k o → prim_numbered k ≡ Some p → i ≡ length p.word.ins → u ≡ outputs_of p.word → makes_marks o ≡ false → by_height i u b ms ≡ prim_doing (Some p) b ms
other_walked k o p i u b ms h e f g m =
    rw (f, g) (ap (λ (d : Does). by_height d.takes d.outs b ms) (operation_is k o p h e) ∙ nothing_known o b ms m ∙ operation_walked k o p b ms h e)
