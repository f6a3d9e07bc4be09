use Rattle.std.proofs.Common.{sym}
use Rattle.fac_endings.proofs.LineLemmas.{settles_topmost, settles_under}
use Rattle.fac_endings.proofs.lines.settles.Goals as goal

pub returns-in-Some : goal.returns-in-Some
returns-in-Some c = settles_under c.args.classes.now c.args.flags.now c.args.class c.in-Some.parent c.is_settled.result (sym c.in-Some.ensures) c.requires c.is_settled.ensures

pub returns-in-None : goal.returns-in-None
returns-in-None c = settles_topmost c.args.classes.now c.args.class (sym c.in-None.ensures)
