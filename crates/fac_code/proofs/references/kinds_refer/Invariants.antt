use Rattle.std.specs.Prelude.{◌≡◌, drop}
use Rattle.std.specs.List.{list_all}
use Rattle.fac_code.specs.References.{kind_refers}
use Rattle.fac_code.proofs.references.kinds_refer.Given as goal

-- what is left decides
abbrev pub invariant-loop-row : goal.invariant-loop-row
invariant-loop-row l = list_all (kind_refers l.tables) l.tables.kinds ≡ list_all (kind_refers l.tables) (drop l.row-index l.tables.kinds)
