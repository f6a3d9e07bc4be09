-- The forms of a file, in order.
use Rattle.std.specs.Prelude.{List, fold}
use Rattle.fac_items.specs.Written.{Form}
use Rattle.fac_items.specs.Readings.{read_forms}
use Rattle.fac_names.specs.Forms.{Reading, take}

abbrev pub take_all : Reading → List Form → Reading
take_all r forms = fold (λ q form. take form q) r (read_forms forms)
