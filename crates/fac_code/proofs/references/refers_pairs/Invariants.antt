use Rattle.std.specs.Prelude.{◌≡◌, drop}
use Rattle.fac_code.specs.References.{pairs_refer}
use Rattle.fac_code.proofs.references.refers_pairs.Given as goal

-- what is left decides
abbrev pub invariant-loop-pair : goal.invariant-loop-pair
invariant-loop-pair l = pairs_refer l.tables 0 l.tables.pairs ≡ pairs_refer l.tables l.least (drop l.pair-index l.tables.pairs)
