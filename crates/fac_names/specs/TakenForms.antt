-- What forms come to that are taken one behind the other, as they are read.
use Rattle.std.specs.Prelude.{◌≡◌, List, fold}
use Rattle.fac_source.specs.declared.tree.Form.{Form as Flat}
use Rattle.fac_vocab.specs.Scopes.{begun}
use Rattle.fac_items.specs.Readings.{read_form}
use Rattle.fac_names.specs.Forms.{Reading, scoped, take}
use Rattle.fac_names.specs.FromFlat.{form_of}
use Rattle.fac_names.specs.Resolution.{first_reading}
use Rattle.fac_names.specs.declared.resolver.Resolver.{Resolver}
use Rattle.fac_names.specs.inner.State.{reading_of}

-- a form more
abbrev pub take_flat : Reading → Flat → Reading
take_flat r form = take (read_form (form_of form)) r

-- a file that begins, as far as these of its forms
abbrev pub take_front : Reading → List Flat → Reading
take_front r forms = fold take_flat (scoped begun r) forms

-- files, of each of which these forms were taken
unfoldable pub taken : List (List Flat) → Reading
taken files = fold take_front first_reading files

-- these forms of files were taken, and no more
unfoldable pub HasTaken : List (List Flat) → Resolver → Type 0
HasTaken files resolver = reading_of resolver.so_far ≡ taken files
