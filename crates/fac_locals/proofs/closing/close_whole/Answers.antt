use Rattle.fac_locals.proofs.TemplateNumbers.{whole_closed}
use Rattle.fac_locals.proofs.closing.close_whole.Goals as goal

pub returns : goal.returns
returns c = whole_closed c.args.around.counts.now c.args.around.method c.args.closing.now c.in_ok-closing.field-0 c.new-cells.result c.args.phrase c.in_ok-closed.closed c.close_phrase.new.closing c.in_ok-closing.ensures c.new-cells.ensures c.in_ok-closed.ensures.closed
