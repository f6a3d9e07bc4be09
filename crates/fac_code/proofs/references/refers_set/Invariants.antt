use Rattle.std.specs.Prelude.{◌≡◌, drop}
use Rattle.fac_code.specs.References.{set_refers}
use Rattle.fac_code.proofs.references.refers_set.Given as goal

-- what is left decides
abbrev pub invariant-loop-kind : goal.invariant-loop-kind
invariant-loop-kind l = set_refers l.tables 0 l.kinds ≡ set_refers l.tables l.least (drop l.kind-index l.kinds)
