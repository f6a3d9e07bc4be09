-- Rows that are bound, as they are kept.
use Rattle.std.specs.Prelude.{List, map}
use Rattle.std.specs.Option.{option_copied}
use Rattle.fac_abs.specs.RowVariables.{Row}
use Rattle.fac_abs.specs.declared.reached.Reached.{Reached}
use Rattle.fac_rows.specs.declared.binding.Bound.{Bound}
use Rattle.fac_rows.specs.inner.Ties.{row_by}

-- a row and what it is bound to
abbrev pub bound_seen : Bound → Row × Reached
bound_seen b = (row_by (option_copied b.row), b.to)

abbrev pub all_seen : List Bound → List (Row × Reached)
all_seen bs = map bound_seen bs
