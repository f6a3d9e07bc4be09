use Rattle.fac_spelling.proofs.FormatLaws.{follow_exact}
use Rattle.fac_spelling.proofs.laws.pairs_are_exact.Goals as goal

pub returns : goal.returns
returns g c = follow_exact g.A.Spelled.format (λ _. g.B.Spelled.format) c.requires.first (λ _ _. c.requires.second)
