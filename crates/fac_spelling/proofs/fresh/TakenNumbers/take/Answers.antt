use Rattle.std.proofs.Common.{◌≡◌, List, ℕ, [], ◌∷◌, ◌++◌, cond, subst}
use Rattle.std.specs.Prelude.{nat_eq}
use Rattle.std.specs.List.{list_any}
use Rattle.fac_spelling.proofs.CountLaws.{taken_more}
use Rattle.fac_spelling.proofs.fresh.TakenNumbers.take.Goals as goal

pub returns-clause-ok : goal.returns-clause-ok
returns-clause-ok c = taken_more c.args.self.now c.insert.new.self.keys c.args.number c.requires (subst (λ (z : List ℕ). c.insert.new.self.keys ≡ cond (list_any (nat_eq c.args.number) z) z (z ++ c.args.number ∷ [])) c.self.view_is c.in_ok-insert.ensures.keys)
