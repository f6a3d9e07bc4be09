use Rattle.std.specs.Prelude.{◌≡◌, drop}
use Rattle.std.specs.List.{list_all}
use Rattle.fac_code.specs.References.{set_refers}
use Rattle.fac_code.proofs.references.sets_refer.Given as goal

-- what is left decides
abbrev pub invariant-loop-kinds : goal.invariant-loop-kinds
invariant-loop-kinds l = list_all (set_refers l.tables 0) l.tables.sets ≡ list_all (set_refers l.tables 0) (drop l.kinds-index l.tables.sets)
