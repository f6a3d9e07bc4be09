use Rattle.std.proofs.Common.{◌∙◌, sym}
use Rattle.fac_vocab.proofs.LatestLemmas.{next_last}
use Rattle.fac_vocab.proofs.brought_names.last_behind.Goals as goal

pub returns : goal.returns
returns c =
    next_last c.args.table.now c.args.forms.now c.args.name.now c.args.prefix.now c.numbers_of.result.now c.last_few.result.now c.last_number.result (c.numbers_of.ensures ∙ c.requires c.args.prefix.now) c.last_few.ensures c.last_number.ensures
