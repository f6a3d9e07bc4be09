use Rattle.std.proofs.Common.{◌≡◌, ◌<◌, List, ℕ, length, get_or, subst}
use Rattle.fac_locals.proofs.SetLemmas.{not_there, found_there}
use Rattle.fac_locals.proofs.numbers.Numbers.search.Goals as goal

pub returns-in-Ok : goal.returns-in-Ok
returns-in-Ok c =
    subst
    (λ (l : List ℕ). (c.in-Ok.at < length l) × (get_or l c.in-Ok.at 0 ≡ c.args.number))
    c.self.view_is
    (found_there c.self.inside.numbers.items c.deref.result.now c.args.number c.in-Ok.at c.deref.ensures.value c.self.invariant c.in-Ok.ensures.position)

pub returns-in-Err : goal.returns-in-Err
returns-in-Err c =
    let none = not_there c.self.inside.numbers.items c.deref.result.now c.args.number c.in-Err.field-0 c.deref.ensures.value c.self.invariant c.in-Err.ensures.position in cc
