-- Classes as they are at the end of the program: each with its name, and its parent or members by their numbers.
use Rattle.std.specs.Prelude.{ℕ, zero, suc, nat_eq, List, [], ◌∷◌, ◌++◌, map, length, slice_get, Option, Some, None, Bool, false, if◌then◌else◌}
use Rattle.std.specs.List.{list_any}
use Rattle.std.specs.Option.{option_map}
use Rattle.fac_lang.specs.Classes.{shape_at, is_tuple, parent_in}
use Rattle.fac_lang.specs.Whole.{joined}
use Rattle.fac_lang.specs.declared.program.ClassDef.{ClassDef}
use Rattle.fac_base.specs.declared.name.Name.{Name}
use Rattle.fac_lang.specs.declared.program.Shape.{Shape}
use Rattle.fac_lang.specs.declared.program.Shape.TheVariants.{Tuple as tuple_class, Union as union, Single as single}
use Rattle.fac_lang.specs.declared.program.Sort.{Sort}
use Rattle.fac_lang.specs.declared.program.Sort.TheVariants.{Class as class}
use Rattle.fac_lang.specs.declared.program.WordDef.{WordDef}
use Rattle.fac_source.specs.declared.tok.Ref.{Ref}
use Rattle.fac_source.specs.Toks.{texts_of}
use Rattle.fac_endings.specs.declared.draft.Draft.{Draft}
use Rattle.fac_endings.specs.declared.draft.Named.{Named}
use Rattle.fac_endings.specs.declared.draft.Named.TheVariants.{Tuple as a_tuple, Union as a_union, Single as a_single}
use Rattle.fac_endings.specs.declared.draft.NewClass.{NewClass}

-- What a name finds, as it stands at the end.

abbrev pub word_numbered : List Draft → Option ℕ → Option WordDef
word_numbered ds None = None
word_numbered ds (Some w) = option_map (λ (d : Draft). d.word) (slice_get ds w)

abbrev pub word_at : List Draft → Ref → Option WordDef
word_at ds r = word_numbered ds r.word

abbrev pub class_of_sort : Sort → Option ℕ
class_of_sort (class c) = Some c
class_of_sort _ = None

abbrev pub class_of_word : Option WordDef → Option ℕ
class_of_word None = None
class_of_word (Some d) = class_of_sort d.sort

-- the class of a name, where its word is that of a class
abbrev pub class_at : List Draft → Ref → Option ℕ
class_at ds r = class_of_word (word_at ds r)

-- Classes.

abbrev pub and_class : Option ℕ → List ℕ → List ℕ
and_class None cs = cs
and_class (Some c) cs = c ∷ cs

abbrev pub classes_at : List Draft → List Ref → List ℕ
classes_at ds [] = []
classes_at ds (r ∷ rs) = and_class (class_at ds r) (classes_at ds rs)

abbrev pub parent_at : List Draft → Option Ref → Option ℕ
parent_at ds None = None
parent_at ds (Some r) = class_at ds r

abbrev pub shape_named : List Draft → Named → Shape
shape_named ds (a_tuple parent slots) = tuple_class (parent_at ds parent) (texts_of slots)
shape_named ds (a_union rs) = union (classes_at ds rs)
shape_named ds a_single = single

abbrev pub name_of : Option Draft → Name
name_of None = record { vocab = []; name = [] }
name_of (Some d) = d.word.name

-- a class has the name of its word
abbrev pub class_of : List Draft → NewClass → ClassDef
class_of ds c = record { name = name_of (slice_get ds c.word); shape = shape_named ds c.names }

-- all classes: those that there were, and those of forms
abbrev pub classes_of : List Draft → List ClassDef → List NewClass → List ClassDef
classes_of ds old new = old ++ map (class_of ds) new

-- Slots.

abbrev pub slots_in : Option Shape → List (List ℕ)
slots_in (Some (tuple_class p slots)) = slots
slots_in _ = []

-- the slots that a class has of its own
abbrev pub slots_at : List ClassDef → ℕ → List (List ℕ)
slots_at cs c = slots_in (shape_at cs c)

-- a parent that wasn't met before others, which come from it
abbrev pub parents_from : List ℕ → (ℕ → List ℕ) → Option ℕ → List ℕ
parents_from met others None = []
parents_from met others (Some p) = (if list_any (nat_eq p) met then [] else p ∷ others p)

-- the parents of a class, the nearest first, each once; at most n, and none of those met already
abbrev pub parents : ℕ → List ClassDef → List ℕ → ℕ → List ℕ
parents zero cs met c = []
parents (suc n) cs met c = parents_from met (λ p. parents n cs (p ∷ met) p) (parent_in (shape_at cs c))

-- the slots of a class's parents, the nearest first; a parent that the class leads to twice counts once, and so does the class itself
abbrev pub inherited : List ClassDef → ℕ → List (List ℕ)
inherited cs c = joined (map (slots_at cs) (parents (length cs) cs (c ∷ []) c))

-- whether a class is there, and a tuple class
abbrev pub is_tuple_class : List ClassDef → Option ℕ → Bool
is_tuple_class cs None = false
is_tuple_class cs (Some c) = is_tuple (shape_at cs c)
