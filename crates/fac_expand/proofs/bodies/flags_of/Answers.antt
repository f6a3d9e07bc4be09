use Rattle.fac_expand.proofs.BodyLemmas.{start_begins}
use Rattle.fac_expand.proofs.bodies.flags_of.Goals as goal

pub returns : goal.returns
returns c = start_begins c.args.image.now c.flag_generics.new.flags c.flag.new.flags c.flag.ensures (c.flag_generics.ensures (c.flag_words.ensures (λ b e. absurd (c.in_ok-flags.ensures b e))))
