use Rattle.std.proofs.Common.{◌≡◌, ◌++◌, map, drop}
use Rattle.fac_lang.specs.CoreWords.{written_core}
use Rattle.fac_explain.specs.Names.{core_names}
use Rattle.fac_explain.proofs.names.push_core_words.Given as goal

abbrev pub invariant-loop-row : goal.invariant-loop-row
invariant-loop-row l = l.names ++ core_names (map written_core (drop l.row-index l.rows)) ≡ l.initial.names ++ core_names (map written_core l.rows)
