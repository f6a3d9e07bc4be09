-- How many slots classes have.
use Rattle.std.specs.Prelude.{ℕ, List, length, map, Bool, not, Option, Some}
use Rattle.std.specs.List.{range_with_len}
use Rattle.fac_lang.specs.declared.program.ClassDef.{ClassDef}
use Rattle.fac_lang.specs.declared.program.Shape.{Shape}
use Rattle.fac_lang.specs.declared.program.Shape.TheVariants.{Tuple as tuple_class}
use Rattle.fac_lang.specs.Classes.{slots_within}
use Rattle.fac_lang.specs.Whole.{each_below, reaches}

-- whether no class reaches itself by parents and members
abbrev pub classes_end : List ClassDef → Bool
classes_end cs = each_below (λ c. not (reaches (length cs) cs c c)) (length cs)

-- how many slots of its own a class has
abbrev pub own_slot_count : Option Shape → ℕ
own_slot_count (Some (tuple_class p ss)) = length ss
own_slot_count _ = 0

-- how many slots a class has, with those of its parents
abbrev pub slot_count : List ClassDef → ℕ → ℕ
slot_count cs c = length (slots_within (length cs) cs c)

-- likewise for each class, by its number
abbrev pub slot_counts : List ClassDef → List ℕ
slot_counts cs = map (slot_count cs) (range_with_len 0 (length cs))
