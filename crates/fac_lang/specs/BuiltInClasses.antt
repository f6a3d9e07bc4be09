-- The built-in classes, as the code's table writes them. The number of a row is that of the class, as `Classes` has them.
use Rattle.std.specs.Prelude.{ℕ, List, map, Bool}
use denote.Bor.{Bor}
use Rattle.fac_lang.specs.declared.class_table.ClassRow.{ClassRow}
use Rattle.fac_lang.specs.declared.class_table.TheConstants.{CLASSES}

-- a class by its vocabulary and name, and whether a word asks if a value is of it
pub record BuiltInClass : Type 0 where
  pub vocab : List ℕ
  pub name : List ℕ
  pub has_predicate : Bool

-- the class that a row writes, with a function that tells its texts
abbrev pub class_with : {Text : Type 0} → (Text → List ℕ) → ClassRow Text → BuiltInClass
class_with text r = record { vocab = text r.vocab; name = text r.name; has_predicate = r.has_predicate }

-- a row of the code's table
abbrev pub TableClass : Type 0
TableClass = ClassRow (Bor (List ℕ))

-- the class that it writes
abbrev pub written_class : TableClass → BuiltInClass
written_class = class_with (λ text. text.now)

-- The values `t` and `f` have a class each, which methods and unions can name; whether a value is one of them `eq?` tells.
abbrev pub built_in_classes : List BuiltInClass
built_in_classes = map (class_with (λ text. text.now)) CLASSES.now
