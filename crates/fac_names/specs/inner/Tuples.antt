-- Tuple classes, but for their accessors.
use Rattle.std.specs.Prelude.{List, Option}
use Rattle.std.specs.Option.{option_map}
use Rattle.fac_items.specs.Items.{ref}
use Rattle.fac_items.specs.Written.{Tok}
use Rattle.fac_endings.specs.declared.draft.Named.TheVariants.{Tuple as a_tuple}
use Rattle.fac_names.specs.Forms.{Reading, class_form, option_list}

abbrev pub tuple_form : Tok → Option Tok → List Tok → Reading → Reading
tuple_form t parent slots r = class_form t (option_list parent) (λ s. a_tuple (option_map (ref s) parent) slots) r
