use Rattle.fac_names.proofs.TextLemmas.{gone_ends}
use Rattle.fac_names.proofs.text_resolver.TextResolver.end.Goals as goal

pub returns : goal.returns
returns c = gone_ends c.args.self c.text_end.result c.text_end.ensures
