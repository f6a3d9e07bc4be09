use Rattle.std.proofs.Common.{◌≡◌, ◌≤◌, take}
use Rattle.fac_explain.specs.Places.{characters}
use Rattle.fac_explain.proofs.places.characters.Given as goal

abbrev pub invariant-loop-byte : goal.invariant-loop-byte
invariant-loop-byte l = record { is : l.count ≡ characters (take l.byte-index l.bytes); most : l.count ≤ l.byte-index }
