use Rattle.std.proofs.Common.{sym, ◌∙◌}
use Rattle.fac_expand.proofs.TailLemmas.{other_next}
use Rattle.fac_expand.proofs.tails.next_at.Goals as goal

pub returns-in-Other : goal.returns-in-Other
returns-in-Other c = other_next c.args.image.now c.args.place (sym c.passing_at.ensures ∙ c.in-Other.is)
