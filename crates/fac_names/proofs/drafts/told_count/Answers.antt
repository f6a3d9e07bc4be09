use Rattle.fac_items.proofs.KnownRowLemmas.{found_at}
use Rattle.fac_names.specs.Forms.{with_told}
use Rattle.fac_names.proofs.DraftLemmas.{recounted_ok}
use Rattle.fac_names.proofs.drafts.told_count.Goals as goal

pub returns-in-Some : goal.returns-in-Some
returns-in-Some c =
    let d = c.in-Some.draft.now in
    let t = c.args.told.now in
    recounted_ok (with_told t.sort t.effect t.inline t.recursive t.late) c.args.list.now c.args.number d c.args.classes c.counts_as-after.result c.is_counted.result c.recounted.result (found_at c.args.list.now c.args.number d _ c.in-Some.ensures.lookup.0 c.in-Some.ensures.lookup.1) c.requires c.counts_as-after.ensures c.is_counted.ensures c.recounted.ensures
