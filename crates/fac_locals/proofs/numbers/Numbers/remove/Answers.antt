use Rattle.std.proofs.Common.{◌≡◌, ◌<◌, List, ℕ, length, get_or, sym, subst}
use Rattle.fac_locals.specs.Sets.{Rises}
use Rattle.fac_locals.proofs.SetLemmas.{has_at, rises_removed, has_left, has_all}
use Rattle.fac_locals.proofs.numbers.Numbers.remove.Goals as goal

pub invariant_of-self : goal.invariant_of-self
invariant_of-self c =
    let there = subst (λ (l : List ℕ). c.in-Some.at < length l) (sym c.self.view_is) c.in-Some.ensures.0 in
    subst (λ (l : List ℕ). Rises l) (sym c.remove.ensures.items) (rises_removed c.self.inside.numbers.items c.in-Some.at c.self.invariant there)

pub returns-in-Some-clause-there : goal.returns-in-Some-clause-there
returns-in-Some-clause-there c = sym (has_at c.args.self.now c.in-Some.at c.args.number c.in-Some.ensures.0 c.in-Some.ensures.1)

pub returns-in-Some-clause-others : goal.returns-in-Some-clause-others
returns-in-Some-clause-others c =
    let there = subst (λ (l : List ℕ). c.in-Some.at < length l) (sym c.self.view_is) c.in-Some.ensures.0 in
    let is = subst (λ (l : List ℕ). get_or l c.in-Some.at 0 ≡ c.args.number) (sym c.self.view_is) c.in-Some.ensures.1 in
    λ n. let has = has_left c.self.inside.numbers.items c.in-Some.at c.args.number n c.self.invariant there is in cc

pub returns-in-None-clause-there : goal.returns-in-None-clause-there
returns-in-None-clause-there c = sym c.in-None.ensures

pub returns-in-None-clause-others : goal.returns-in-None-clause-others
returns-in-None-clause-others c = λ n. has_all c.args.self.now c.args.number n c.in-None.ensures
