use Rattle.std.proofs.Common.{rules}
use Rattle.fac_listener.proofs.StepLemmas.{line_alone, line_behind}
use Rattle.fac_listener.proofs.session.whole_text.Goals as goal

pub returns : goal.returns
returns c = line_behind c.args.waiting.now c.args.line.now _ (search rules) (search rules)
