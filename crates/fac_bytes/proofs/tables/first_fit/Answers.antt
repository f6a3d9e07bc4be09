use Rattle.std.proofs.Common.{◌≡◌, ℕ, List, true, sym, subst}
use Rattle.std.specs.List.{list_all}
use Rattle.fac_bytes.specs.Spellable.{is_short}
use Rattle.fac_bytes.proofs.FitLaws.{all_keep}
use Rattle.fac_bytes.proofs.KeptParts.{tables_keep}
use Rattle.fac_bytes.proofs.tables.first_fit.Goals as goal

pub list_fits-requires : goal.list_fits-requires
list_fits-requires c = subst (λ (ts : List (List ℕ)). list_all is_short ts ≡ true) (sym c.list.ensures) c.requires.texts_short

pub list_fits-requires-2 : goal.list_fits-requires-2
list_fits-requires-2 c = all_keep c.args.image.now.arrays

pub list_fits-requires-3 : goal.list_fits-requires-3
list_fits-requires-3 c = all_keep c.args.image.now.kinds

pub list_fits-requires-4 : goal.list_fits-requires-4
list_fits-requires-4 c = (tables_keep c.args.image.now).sets
