use Rattle.fac_judge.proofs.MeaningLemmas.{any_items}
use Rattle.fac_judge.proofs.meaning.any_item.Goals as goal

pub returns : goal.returns
returns c = any_items c.phrase.inside.items.items _ c.args.phrase.now c.is_empty.result c.as_slice.ensures.value c.phrase.view_is c.is_empty.ensures
