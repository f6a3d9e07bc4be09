use Rattle.std.proofs.Common.{refl}
use Rattle.fac_names.specs.Forms.{at_place}
use Rattle.fac_names.proofs.DraftLemmas.{changed_at, unchanged}
use Rattle.fac_names.proofs.drafts.place_at.Goals as goal

pub returns-in-Some : goal.returns-in-Some
returns-in-Some c =
    let d = c.in-Some.draft.now in
    changed_at (at_place c.args.place) c.args.list.now.items c.args.number d (record d { word = record d.word { place = c.args.place } }) c.in-Some.ensures.item.3.0 c.in-Some.ensures.item.3.1 refl

pub returns-in_default : goal.returns-in_default
returns-in_default c = unchanged (at_place c.args.place) c.args.list.now.items c.args.number c.in_default.ensures.item.3
