use Rattle.std.proofs.Common.{◌≡◌, drop}
use Rattle.fac_io.specs.Names.{bytes_of}
use Rattle.fac_explainer.proofs.given.find.Given as goal

abbrev pub invariant-loop-text : goal.invariant-loop-text
invariant-loop-text l = bytes_of l.texts l.name ≡ bytes_of (drop l.text-index l.texts) l.name
