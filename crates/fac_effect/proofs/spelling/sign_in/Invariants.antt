use Rattle.std.proofs.Common.{◌≡◌, drop, map}
use Rattle.fac_effect.specs.Spellings.{sign_among}
use Rattle.fac_effect.proofs.spelling.sign_in.Given as goal

abbrev pub invariant-loop-sign : goal.invariant-loop-sign
invariant-loop-sign l = sign_among (map (λ row. (row.0.now, row.1)) l.rows) l.text ≡ sign_among (map (λ row. (row.0.now, row.1)) (drop l.sign-index l.rows)) l.text
