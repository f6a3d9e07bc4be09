use Rattle.fac_items.proofs.LocalLemmas.{kept_names}
use Rattle.fac_items.proofs.locals.keep.Goals as goal

pub returns : goal.returns
returns c = kept_names c.args.count c.args.locals.now.items c.truncate.new.self.items c.truncate.ensures.items
