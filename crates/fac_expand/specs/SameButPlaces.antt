-- Two images whose tables are the same but for the places of code.
use Rattle.std.specs.Prelude.{◌≡◌, map}
use Rattle.fac_code.specs.declared.image.Action.{Action}
use Rattle.fac_code.specs.declared.image.Action.TheVariants as action
use Rattle.fac_code.specs.declared.image.WordRow.{WordRow}
use Rattle.fac_code.specs.declared.image.TemplateRow.{TemplateRow}
use Rattle.fac_code.specs.declared.image.MethodRow.{MethodRow}
use Rattle.fac_code.specs.declared.image.GenericRow.{GenericRow}
use Rattle.fac_code.specs.declared.image.Image.{Image}

-- what a word does, with the place 0 for that of its code
abbrev pub action_without_place : Action → Action
action_without_place (action.Code a) = action.Code 0
action_without_place x = x

-- the rows without places
abbrev pub word_without_place : WordRow → WordRow
word_without_place r = record { vocab = r.vocab; name = r.name; action = action_without_place r.action; height = r.height }

abbrev pub template_without_place : TemplateRow → TemplateRow
template_without_place r = record { entry = 0; cells = r.cells; holes = r.holes; height = r.height }

abbrev pub method_without_place : MethodRow → MethodRow
method_without_place r = record { number = r.number; set = r.set; entry = 0 }

abbrev pub generic_without_places : GenericRow → GenericRow
generic_without_places r = record { word = r.word; methods = map method_without_place r.methods }

-- The same texts, literal arrays, kinds, class sets and pairs, and the same rows without places.
pub record SameButPlaces (N M : Image) : Type 0 where
  pub texts : M.texts ≡ N.texts
  pub arrays : M.arrays ≡ N.arrays
  pub kinds : M.kinds ≡ N.kinds
  pub sets : M.sets ≡ N.sets
  pub pairs : M.pairs ≡ N.pairs
  pub templates : map template_without_place M.templates ≡ map template_without_place N.templates
  pub words : map word_without_place M.words ≡ map word_without_place N.words
  pub generics : map generic_without_places M.generics ≡ map generic_without_places N.generics
