-- A program that goes on with another one, as the next text of a session does.
use Rattle.std.specs.Prelude.{◌≡◌, ℕ, zero, suc, List, [], ◌∷◌, ◌++◌}
use Rattle.fac_lang.specs.declared.program.ClassDef.{ClassDef}
use Rattle.fac_lang.specs.declared.program.Lit.{Lit}
use Rattle.fac_lang.specs.declared.program.Program.{Program}
use Rattle.fac_lang.specs.declared.program.Sort.{Sort}
use Rattle.fac_lang.specs.declared.program.Sort.TheVariants.{Body as body, Past as past}
use Rattle.fac_lang.specs.declared.program.WordDef.{WordDef}

-- a top-level phrase as an earlier one
abbrev pub as_earlier : Sort → Sort
as_earlier (body t) = past t
as_earlier s = s

-- words, of which the one with this number is an earlier top-level phrase
abbrev pub with_earlier : ℕ → List WordDef → List WordDef
with_earlier n [] = []
with_earlier zero (d ∷ ds) = record { name = d.name; sort = as_earlier d.sort; effect = d.effect; inline = d.inline; recursive = d.recursive; place = d.place } ∷ ds
with_earlier (suc n) (d ∷ ds) = d ∷ with_earlier n ds

-- The second has the words of the first, whose phrase is an earlier one now, its literal arrays and its classes, and others behind them.
pub record IsLonger (P Q : Program) : Type 0 where
  pub more_words : List WordDef
  pub words_are : Q.words ≡ with_earlier P.top P.words ++ more_words
  pub more_arrays : List (List Lit)
  pub arrays_are : Q.arrays ≡ P.arrays ++ more_arrays
  pub more_classes : List ClassDef
  pub classes_are : Q.classes ≡ P.classes ++ more_classes
