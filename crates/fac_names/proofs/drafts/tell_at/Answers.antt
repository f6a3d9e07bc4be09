use Rattle.std.proofs.Common.{refl}
use Rattle.fac_names.specs.Forms.{with_told}
use Rattle.fac_names.proofs.DraftLemmas.{changed_at, unchanged}
use Rattle.fac_names.proofs.drafts.tell_at.Goals as goal

pub returns-in-Some : goal.returns-in-Some
returns-in-Some c =
    let d = c.in-Some.draft.now in
    let t = c.args.told in
    changed_at (with_told t.sort t.effect t.inline t.recursive t.late) c.args.list.now.items c.args.number d (with_told t.sort t.effect t.inline t.recursive t.late d) c.in-Some.ensures.item.3.0 c.in-Some.ensures.item.3.1 refl

pub returns-in_default : goal.returns-in_default
returns-in_default c =
    let t = c.args.told in
    unchanged (with_told t.sort t.effect t.inline t.recursive t.late) c.args.list.now.items c.args.number c.in_default.ensures.item.3
