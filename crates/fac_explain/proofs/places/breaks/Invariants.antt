use Rattle.std.proofs.Common.{◌≡◌, ◌≤◌, take}
use Rattle.std.specs.List.{count_by}
use Rattle.fac_token.specs.Spots.{is_break}
use Rattle.fac_explain.proofs.places.breaks.Given as goal

abbrev pub invariant-loop-byte : goal.invariant-loop-byte
invariant-loop-byte l = record { is : l.count ≡ count_by is_break (take l.byte-index l.bytes); most : l.count ≤ l.byte-index }
