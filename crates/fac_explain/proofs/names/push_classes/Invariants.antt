use Rattle.std.proofs.Common.{◌≡◌, ◌++◌, map, drop}
use Rattle.fac_lang.specs.BuiltInClasses.{written_class}
use Rattle.fac_explain.specs.Names.{class_names}
use Rattle.fac_explain.proofs.names.push_classes.Given as goal

abbrev pub invariant-loop-row : goal.invariant-loop-row
invariant-loop-row l = l.names ++ class_names (map written_class (drop l.row-index l.rows)) ≡ l.initial.names ++ class_names (map written_class l.rows)
