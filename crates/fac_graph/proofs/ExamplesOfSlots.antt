-- The slots of some classes.
use Rattle.std.proofs.Common.{◌≡◌, List, [], ◌∷◌, true, false, Some, None, refl}
use Rattle.std.specs.Prelude.{codes}
use Rattle.fac_lang.specs.declared.program.ClassDef.{ClassDef}
use Rattle.fac_lang.specs.declared.program.Shape.{Shape}
use Rattle.fac_lang.specs.declared.program.Shape.TheVariants.{Kind as built_in, Tuple as tuple_class, Union as union, Single as single}
use Rattle.fac_graph.specs.Slots.{classes_end, slot_counts}

-- a class with this shape
abbrev class_of : Shape → ClassDef
class_of shape = record { name = record { vocab = codes "scratchpad"; name = codes "c" }; shape = shape }

-- TUPLE: a < b x y ; TUPLE: b z ; UNION: u a ; SINGLETON: s TUPLE: c < a ; integer
abbrev classes : List ClassDef
classes = class_of (tuple_class (Some 1) (codes "x" ∷ codes "y" ∷ [])) ∷ class_of (tuple_class None (codes "z" ∷ [])) ∷ class_of (union (0 ∷ [])) ∷ class_of single ∷ class_of (tuple_class (Some 0) []) ∷ class_of (built_in 0) ∷ []

pub they_end : classes_end classes ≡ true
they_end = refl

-- a parent's slots count
pub counts_are : slot_counts classes ≡ 3 ∷ 1 ∷ 0 ∷ 0 ∷ 3 ∷ 0 ∷ []
counts_are = refl

pub round : classes_end (class_of (tuple_class (Some 1) []) ∷ class_of (tuple_class (Some 0) []) ∷ []) ≡ false
round = refl
