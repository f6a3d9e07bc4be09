use Rattle.std.proofs.Common.{◌≡◌, take}
use Rattle.std.specs.List.{count_by}
use Rattle.fac_tool.specs.Answer.{is_definition}
use Rattle.fac_tool.proofs.definitions.definitions_of.Given as goal

abbrev pub invariant-loop-form : goal.invariant-loop-form
invariant-loop-form l = l.count ≡ count_by is_definition (take l.form-index l.form-items)
