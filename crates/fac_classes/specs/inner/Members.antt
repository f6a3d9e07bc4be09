-- The members of classes, and that all ways down by members end.
use Rattle.std.specs.Prelude.{◌≡◌, ◌⊎◌, ◌<◌, ℕ, zero, suc, List, [], ◌∷◌, length, Bool, true, false, Option, Some, None}
use Rattle.std.specs.List.{list_all}
use Rattle.fac_lang.specs.declared.program.ClassDef.{ClassDef}
use Rattle.fac_lang.specs.declared.program.Shape.{Shape}
use Rattle.fac_lang.specs.declared.program.Shape.TheVariants.{Kind as built_in, Union as union}
use Rattle.fac_lang.specs.Classes.{shape_at, parent_in, is_tuple}

-- a number is one of a list
abbrev pub IsIn : ℕ → List ℕ → Type 0
IsIn x [] = ⊥
IsIn x (y ∷ ys) = (x ≡ y) ⊎ IsIn x ys

-- the members of a class; only a union has some
abbrev pub members_in : Option Shape → List ℕ
members_in (Some (union cs)) = cs
members_in _ = []

abbrev pub members : List ClassDef → ℕ → List ℕ
members cs c = members_in (shape_at cs c)

-- the number of a built-in class among these
abbrev pub built_in_in : Option Shape → Option ℕ
built_in_in (Some (built_in j)) = Some j
built_in_in _ = None

-- whether every way down from a class by members has fewer than n steps
abbrev pub ends : ℕ → List ClassDef → ℕ → Bool
ends zero cs c = false
ends (suc n) cs c = list_all (λ m. ends n cs m) (members cs c)

-- Parents are tuple classes, members are classes, and each way down by members ends.
pub record AreSound (cs : List ClassDef) : Type 0 where
  pub parents : (c p : ℕ) → parent_in (shape_at cs c) ≡ Some p → is_tuple (shape_at cs p) ≡ true
  pub member_classes : (c m : ℕ) → IsIn m (members cs c) → m < length cs
  pub ending : (c : ℕ) → c < length cs → ends (length cs) cs c ≡ true
