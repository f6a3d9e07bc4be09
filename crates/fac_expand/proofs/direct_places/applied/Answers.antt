use Rattle.std.proofs.Common.{ℕ, ◌+◌, Option, subst, sym}
use Rattle.fac_expand.specs.inner.DirectPlaces.{inner_depth, IsDirectThere}
use Rattle.fac_expand.proofs.DirectGroups.{applied_leads, goes}
use Rattle.fac_expand.proofs.direct_places.applied.Goals as goal

pub returns : goal.returns
returns c = λ d.
    let N = c.args.plain.now in
    let uses = c.args.uses.now in
    let m = c.args.depth in
    let leads = applied_leads N uses m c.args.place c.args.quotation c.args.is_last c.requires.there c.requires.behind d in
    (subst (λ (o : Option ℕ). IsDirectThere N uses (inner_depth m) o) (sym c.entry_of-entry.ensures) leads.0, tt, goes N uses m c.next_place-next.result (c.args.place + 2) c.args.is_last c.next_place-next.ensures leads.1)
