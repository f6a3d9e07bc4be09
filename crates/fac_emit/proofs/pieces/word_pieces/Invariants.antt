use Rattle.std.proofs.Common.{◌≡◌, ◌++◌, drop, map}
use Rattle.fac_emit.specs.inner.Pieces.{codes_from, word_codes, word_piece_code}
use Rattle.fac_emit.proofs.pieces.word_pieces.Given as goal

abbrev pub invariant-loop-number : goal.invariant-loop-number
invariant-loop-number l = word_codes l.emission ≡ map word_piece_code l.pieces.items ++ codes_from l.emission l.number (drop l.number l.emission.program.words)
