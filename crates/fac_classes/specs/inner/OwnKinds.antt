-- Own kinds as lists.
use Rattle.std.specs.Prelude.{ℕ, suc, List, [], ◌∷◌, true, false, Option, Some, None}
use Rattle.fac_lang.specs.declared.program.ClassDef.{ClassDef}
use Rattle.fac_lang.specs.Classes.{has_own}

-- the own kinds of classes, where k is the next kind to give
abbrev pub own_kinds : ℕ → List ClassDef → List (Option ℕ)
own_kinds k [] = []
own_kinds k (d ∷ ds) = elim (has_own d.shape) [ true ↦ Some k ∷ own_kinds (suc k) ds | false ↦ None ∷ own_kinds k ds ]

-- the classes that have own kinds, in the order of these; c is the number of the first class in the list
abbrev pub owners_from : ℕ → List ClassDef → List ℕ
owners_from c [] = []
owners_from c (d ∷ ds) = elim (has_own d.shape) [ true ↦ c ∷ owners_from (suc c) ds | false ↦ owners_from (suc c) ds ]
