use Rattle.fac_expand.proofs.Expansions.{expands_itself}
use Rattle.fac_expand.proofs.expansion.expanded_or_plain.Goals as goal

pub returns-in-None : goal.returns-in-None
returns-in-None c = expands_itself c.args.top c.args.plain
