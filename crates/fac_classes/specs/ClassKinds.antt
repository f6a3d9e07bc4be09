-- Which classes can be built, and what is told of built ones, in terms of the kinds that each class has.
use Rattle.std.specs.Prelude.{◌≡◌, ◌<◌, ℕ, zero, suc, ◌+◌, List, [], ◌∷◌, ◌++◌, length, Bool, true, false, ◌||◌, not, nat_lt}
use Rattle.std.specs.List.{list_all, count_by, range_with_len}
use Rattle.fac_lang.specs.declared.program.Program.{Program}
use Rattle.fac_lang.specs.declared.program.ClassDef.{ClassDef}
use Rattle.fac_lang.specs.Classes.{has_kind, own_count, class_before}
use Rattle.fac_lang.specs.Whole.{shape_fits, reaches, each_below}

-- Classes can be built where each number in a shape is that of a class, that of a parent is that of a tuple class, and no class reaches itself by parents or members. Of a whole program all of this holds.
pub record CanBeBuilt (P : Program) : Type 0 where
  pub shapes_fit : list_all (λ c. shape_fits P c.shape) P.classes ≡ true
  pub classes_end : each_below (λ c. not (reaches (length P.classes) P.classes c c)) (length P.classes) ≡ true

-- how many kinds there are: the first eight, and the own kinds of classes
abbrev pub kind_total : List ClassDef → ℕ
kind_total cs = 8 + own_count cs

-- whether each kind of class c is one of class d
abbrev pub lies_within : List ClassDef → ℕ → ℕ → Bool
lies_within cs c d = each_below (λ k. not (has_kind cs c k) || has_kind cs d k) (kind_total cs)

-- the kinds of a class among the first n, in their order
abbrev pub kinds_below : List ClassDef → ℕ → ℕ → List ℕ
kinds_below cs c zero = []
kinds_below cs c (suc n) = elim (has_kind cs c n) [ true ↦ kinds_below cs c n ++ n ∷ [] | false ↦ kinds_below cs c n ]

-- the kinds of a class
abbrev pub kinds_of : List ClassDef → ℕ → List ℕ
kinds_of cs c = kinds_below cs c (kind_total cs)

-- how many classes come before a class
abbrev pub place_of : List ClassDef → ℕ → ℕ
place_of cs c = count_by (λ d. class_before cs d c) (range_with_len 0 (length cs))

-- of two classes one comes before the other
abbrev pub OneComesFirst : Type 0
OneComesFirst = (cs : List ClassDef) (c d : ℕ) → (c ≡ d → ⊥) → class_before cs c d ≡ not (class_before cs d c)

-- a class comes before each other that has all of its kinds and more
abbrev pub NarrowerComesFirst : Type 0
NarrowerComesFirst = (cs : List ClassDef) (c d : ℕ) → lies_within cs c d ≡ true → lies_within cs d c ≡ false → class_before cs c d ≡ true

-- the places of classes tell their order
abbrev pub PlacesTellOrder : Type 0
PlacesTellOrder = (cs : List ClassDef) (c d : ℕ) → c < length cs → d < length cs → class_before cs c d ≡ nat_lt (place_of cs c) (place_of cs d)
