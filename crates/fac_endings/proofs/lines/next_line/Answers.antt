use Rattle.std.proofs.Common.{sym}
use Rattle.fac_endings.proofs.LineLemmas.{next_topmost, next_under}
use Rattle.fac_endings.proofs.lines.next_line.Goals as goal

pub returns-in-Some-line_at : goal.returns-in-Some-line_at
returns-in-Some-line_at c = next_under c.line_under.result c.args.classes.now c.args.lines.now c.args.class c.in-Some.parent c.in-Some-line_at.above.now (sym c.in-Some.ensures) (sym c.in-Some-line_at.ensures) c.requires c.line_under.ensures

pub returns-in-None : goal.returns-in-None
returns-in-None c = next_topmost c.args.classes.now c.args.class c.new.result (sym c.in-None.ensures) c.new.ensures
