use Rattle.std.proofs.Common.{ℕ, ◌+◌, Option, subst, sym, ◌∙◌}
use Rattle.fac_expand.specs.inner.DirectPlaces.{inner_depth, IsDirectThere}
use Rattle.fac_expand.proofs.DirectGroups.{not_branched, branched_leads, goes}
use Rattle.fac_expand.proofs.direct_places.branched.Goals as goal

pub returns-in-None : goal.returns-in-None
returns-in-None c = λ d. not_branched c.args.plain.now c.args.uses.now c.args.depth c.args.place c.args.first c.args.second c.requires.there c.requires.behind (sym c.tail_at.ensures ∙ c.in-None.is) d

pub returns-in-Some : goal.returns-in-Some
returns-in-Some c = λ d.
    let N = c.args.plain.now in
    let uses = c.args.uses.now in
    let m = c.args.depth in
    let leads = branched_leads N uses m c.args.place c.args.first c.args.second c.in-Some.is_last c.requires.there c.requires.behind (sym c.tail_at.ensures ∙ c.in-Some.is) d in (
      subst (λ (o : Option ℕ). IsDirectThere N uses (inner_depth m) o) (sym c.entry_of-one.ensures) leads.0,
      subst (λ (o : Option ℕ). IsDirectThere N uses (inner_depth m) o) (sym c.entry_of-other.ensures) leads.1,
      goes N uses m c.next_place-next.result (c.args.place + 3) c.in-Some.is_last c.next_place-next.ensures leads.2,
    )
