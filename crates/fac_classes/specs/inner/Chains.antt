-- A tuple class with those above it, and their slots.
use Rattle.std.specs.Prelude.{ℕ, zero, suc, List, [], ◌∷◌, ◌++◌, Option, Some, None}
use Rattle.fac_lang.specs.declared.program.ClassDef.{ClassDef}
use Rattle.fac_lang.specs.declared.program.Shape.{Shape}
use Rattle.fac_lang.specs.declared.program.Shape.TheVariants.{Tuple as tuple_class}
use Rattle.fac_lang.specs.Classes.{shape_at, parent_in}

-- a class and the next ones above it, n together where there are so many
abbrev pub chain_within : ℕ → List ClassDef → Option ℕ → List ℕ
chain_within zero cs o = []
chain_within (suc n) cs None = []
chain_within (suc n) cs (Some c) = c ∷ chain_within n cs (parent_in (shape_at cs c))

-- the slots of a class without those of its parents
abbrev pub slots_in : Option Shape → List (List ℕ)
slots_in (Some (tuple_class p ss)) = ss
slots_in _ = []

-- the slots of the classes of a chain, the last class first
abbrev pub slots_down : List ClassDef → List ℕ → List (List ℕ)
slots_down cs [] = []
slots_down cs (c ∷ chain) = slots_down cs chain ++ slots_in (shape_at cs c)
