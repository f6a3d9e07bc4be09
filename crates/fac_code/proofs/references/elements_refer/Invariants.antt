use Rattle.std.specs.Prelude.{◌≡◌, drop}
use Rattle.std.specs.List.{list_all}
use Rattle.fac_code.specs.References.{elem_refers}
use Rattle.fac_code.proofs.references.elements_refer.Given as goal

-- what is left decides
abbrev pub invariant-loop-element : goal.invariant-loop-element
invariant-loop-element l = list_all (elem_refers l.tables l.array) l.elements ≡ list_all (elem_refers l.tables l.array) (drop l.element-index l.elements)
