use Rattle.std.proofs.Common.{◌≡◌, take}
use Rattle.fac_source.specs.Toks.{texts_of}
use Rattle.fac_endings.proofs.class_table.texts_of.Given as goal

abbrev pub invariant-loop-tok : goal.invariant-loop-tok
invariant-loop-tok l = l.texts ≡ texts_of (take l.tok-index l.toks)
