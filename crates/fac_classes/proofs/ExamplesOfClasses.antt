-- Examples of classes: their kinds, their order and their slots.
use Rattle.std.proofs.Common.{◌≡◌, List, [], ◌∷◌, true, false, refl, Some, None}
use Rattle.std.specs.Prelude.{codes}
use Rattle.fac_lang.specs.declared.program.Program.{Program}
use Rattle.fac_lang.specs.declared.program.ClassDef.{ClassDef}
use Rattle.fac_lang.specs.declared.program.Shape.TheVariants.{Union as union, Single as single}
use Rattle.fac_lang.specs.Classes.{own_kind, slots_within, class_before}
use Rattle.fac_lang.specs.Whole.{reaches}
use Rattle.fac_lang.proofs.Demo.{class_of, tuple_of}
use Rattle.fac_lang.proofs.ExamplesOfObjects.{shapes}
use Rattle.fac_classes.specs.ClassKinds.{CanBeBuilt, kind_total, lies_within, kinds_of, place_of}

-- TUPLE: shape ; TUPLE: circle < shape r ; UNION: round circle integer ; as classes 12 to 14, behind the built-in ones
abbrev with_shapes : List ClassDef
with_shapes = (shapes []).classes

pub shapes_can : CanBeBuilt (shapes [])
shapes_can = record { shapes_fit = refl; classes_end = refl }

pub ten_kinds : kind_total with_shapes ≡ 10
ten_kinds = refl

pub kind_of_circle : own_kind 8 with_shapes 13 ≡ Some 9
kind_of_circle = refl

pub no_kind_of_round : own_kind 8 with_shapes 14 ≡ None
no_kind_of_round = refl

pub kinds_of_shape : kinds_of with_shapes 12 ≡ 8 ∷ 9 ∷ []
kinds_of_shape = refl

pub kinds_of_round : kinds_of with_shapes 14 ≡ 0 ∷ 9 ∷ []
kinds_of_round = refl

pub kinds_of_sequence : kinds_of with_shapes 9 ≡ 3 ∷ 4 ∷ 6 ∷ []
kinds_of_sequence = refl

pub kinds_of_tuple : kinds_of with_shapes 10 ≡ 8 ∷ 9 ∷ []
kinds_of_tuple = refl

pub kinds_of_object : kinds_of with_shapes 11 ≡ 0 ∷ 1 ∷ 2 ∷ 3 ∷ 4 ∷ 5 ∷ 6 ∷ 7 ∷ 8 ∷ 9 ∷ []
kinds_of_object = refl

pub circle_within_round : lies_within with_shapes 13 14 ≡ true
circle_within_round = refl

pub shape_not_within_round : lies_within with_shapes 12 14 ≡ false
shape_not_within_round = refl

-- With one kind, by name: `arrays:array`, `kernel:callable`, `math:integer`, `sequences:iota`, `shapes:circle`, and four more. With two: `kernel:boolean`, `kernel:tuple`, `shapes:round`, `shapes:shape`.
pub place_of_circle : place_of with_shapes 13 ≡ 4
place_of_circle = refl

pub place_of_round : place_of with_shapes 14 ≡ 11
place_of_round = refl

pub place_of_shape : place_of with_shapes 12 ≡ 12
place_of_shape = refl

pub place_of_object : place_of with_shapes 11 ≡ 14
place_of_object = refl

-- Classes that name later ones, without the built-in ones: a union of a union and of a tuple class, the union of that tuple class and a singleton, the tuple class with a later parent, its parent, and the singleton.
abbrev backward : List ClassDef
backward =
    class_of (codes "z") (codes "all") (union (1 ∷ 2 ∷ 1 ∷ [])) ∷
    class_of (codes "z") (codes "some") (union (2 ∷ 4 ∷ [])) ∷
    tuple_of (codes "z") (codes "child") (Some 3) (codes "a" ∷ codes "b" ∷ []) ∷
    tuple_of (codes "z") (codes "parent") None (codes "c" ∷ []) ∷
    class_of (codes "z") (codes "alone") single ∷ []

abbrev with_classes : List ClassDef → Program
with_classes cs = record { words = []; arrays = []; classes = cs; top = 0 }

pub backward_can : CanBeBuilt (with_classes backward)
backward_can = record { shapes_fit = refl; classes_end = refl }

pub kinds_of_all : kinds_of backward 0 ≡ 8 ∷ 10 ∷ []
kinds_of_all = refl

pub kinds_of_parent : kinds_of backward 3 ≡ 8 ∷ 9 ∷ []
kinds_of_parent = refl

pub slots_of_child : slots_within 5 backward 2 ≡ codes "c" ∷ codes "a" ∷ codes "b" ∷ []
slots_of_child = refl

pub slots_of_union : slots_within 5 backward 0 ≡ []
slots_of_union = refl

-- a union that reaches itself
pub goes_round : reaches 2 (class_of (codes "z") (codes "u") (union (1 ∷ [])) ∷ class_of (codes "z") (codes "v") (union (0 ∷ [])) ∷ []) 0 0 ≡ true
goes_round = refl

-- Two classes whose full names are both `a:b:c`: the first comes first, and not the other.
abbrev alike : List ClassDef
alike = class_of (codes "a:b") (codes "c") single ∷ class_of (codes "a") (codes "b:c") single ∷ []

pub first_alike : class_before alike 0 1 ≡ true
first_alike = refl

pub second_alike : class_before alike 1 0 ≡ false
second_alike = refl
