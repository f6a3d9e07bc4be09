use Rattle.std.specs.Prelude.{◌≡◌, drop}
use Rattle.std.specs.List.{list_all}
use Rattle.fac_code.specs.References.{method_refers}
use Rattle.fac_code.proofs.references.methods_refer.Given as goal

-- what is left decides
abbrev pub invariant-loop-row : goal.invariant-loop-row
invariant-loop-row l = list_all (method_refers l.tables l.size) l.methods ≡ list_all (method_refers l.tables l.size) (drop l.row-index l.methods)
