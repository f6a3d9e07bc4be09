use Rattle.std.proofs.Common.{◌≡◌, ◌++◌, map, drop}
use Rattle.fac_lang.specs.Primitives.{row_seen}
use Rattle.fac_explain.specs.Names.{primitive_names}
use Rattle.fac_explain.proofs.names.push_primitives.Given as goal

abbrev pub invariant-loop-row : goal.invariant-loop-row
invariant-loop-row l = l.names ++ primitive_names (map row_seen (drop l.row-index l.rows)) ≡ l.initial.names ++ primitive_names (map row_seen l.rows)
