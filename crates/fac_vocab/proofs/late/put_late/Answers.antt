use Rattle.std.proofs.Common.{ap, sym, ◌∙◌, ◌&&◌, ◌++◌, ◌≡◌, Bool, cond, List, ℕ, Some, OnOk, subst}
use Rattle.std.specs.Prelude.{codes}
use Rattle.std.specs.Str.{bytes_eq}
use Rattle.fac_vocab.specs.inner.Pairs.{number_in}
use Rattle.fac_vocab.proofs.LateLemmas.{companion_there}
use Rattle.fac_vocab.proofs.late.put_late.Goals as goal

pub returns-in-Some-clause-companions : goal.returns-in-Some-clause-companions
returns-in-Some-clause-companions c = λ v q.
    subst (λ (b : Bool). OnOk c.put_number-in-Some.result (number_in c.put_number-in-Some.new.pairs v q ≡ cond (b && bytes_eq c.args.name.now q) (Some c.args.number) (number_in c.args.companions.now v q)))
    (companion_there c.args.vocab.now c.in-Some.stem.now v (c.in-Some.ensures.cases.1.1 ∙ ap (λ (xs : List ℕ). xs ++ codes ".private") (sym c.in-Some.ensures.cases.2)))
    (c.put_number-in-Some.ensures v q)
