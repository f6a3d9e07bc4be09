use Rattle.std.specs.Prelude.{◌≡◌, drop}
use Rattle.fac_code.specs.References.{texts_refer}
use Rattle.fac_code.proofs.references.refers_texts.Given as goal

-- what is left decides
abbrev pub invariant-loop-number : goal.invariant-loop-number
invariant-loop-number l = texts_refer l.tables l.numbers ≡ texts_refer l.tables (drop l.number-index l.numbers)
