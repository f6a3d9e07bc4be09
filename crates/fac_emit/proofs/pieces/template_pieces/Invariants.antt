use Rattle.std.proofs.Common.{◌≡◌, ◌++◌, drop, map}
use Rattle.fac_emit.specs.inner.Pieces.{template_code, template_codes, template_piece_code}
use Rattle.fac_emit.proofs.pieces.template_pieces.Given as goal

abbrev pub invariant-loop-number : goal.invariant-loop-number
invariant-loop-number l = template_codes l.emission ≡ map template_piece_code l.pieces.items ++ map (template_code l.emission) (drop l.number l.emission.templates)
