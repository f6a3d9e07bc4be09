use Rattle.fac_locals.proofs.SetLemmas.{has_inserted, has_already, fits_there, found_there}
use Rattle.fac_locals.proofs.numbers.Numbers.insert.Goals as goal

pub invariant_of-self : goal.invariant_of-self
invariant_of-self c = fits_there c.self.inside.numbers.items c.deref.result.now c.insert.new.self.items c.args.number c.in-Err.at c.deref.ensures.value c.self.invariant c.in-Err.ensures.position c.in_ok-insert.ensures.items

pub returns-in_ok-insert : goal.returns-in_ok-insert
returns-in_ok-insert c = λ n. let has = has_inserted c.self.inside.numbers.items c.in-Err.at c.args.number n in cc (has, c.in_ok-insert.ensures.items)

pub returns-in_default : goal.returns-in_default
returns-in_default c =
    let told = found_there c.self.inside.numbers.items c.deref.result.now c.args.number c.in_default.field-0 c.deref.ensures.value c.self.invariant c.in_default.ensures.position in
    λ n. let has = has_already c.self.inside.numbers.items c.in_default.field-0 c.args.number n told.0 told.1 in cc
