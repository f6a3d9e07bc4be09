use Rattle.fac_endings.proofs.LineLemmas.{line_few, line_many}
use Rattle.fac_endings.proofs.parents.by_line.Goals as goal

pub returns-then-are_too_many : goal.returns-then-are_too_many
returns-then-are_too_many c = line_many c.args.classes.now c.args.class c.args.own c.args.line.now c.requires.there c.requires.line c.if-are_too_many.ensures

pub returns : goal.returns
returns c = line_few c.args.classes.now c.args.class c.args.own c.args.line.now c.in_ok-copied.field-0.items c.requires.there c.requires.line c.if-are_too_many.ensures c.in_ok-copied.ensures
