use Rattle.std.proofs.Common.{sym}
use Rattle.fac_judge.proofs.MeaningLemmas.{no_top, top_runs}
use Rattle.fac_judge.proofs.meaning.top_has_item.Goals as goal

pub returns-in-None : goal.returns-in-None
returns-in-None c = no_top c.args.program.now (sym c.in-None.ensures)

pub returns-in-Some : goal.returns-in-Some
returns-in-Some c = top_runs c.args.program.now c.in-Some.word.now c.sort_has_item.result c.requires (sym c.in-Some.ensures) c.sort_has_item.ensures
