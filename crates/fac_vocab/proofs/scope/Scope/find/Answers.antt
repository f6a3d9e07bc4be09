use Rattle.std.proofs.Common.{◌∙◌, ap, subst}
use Rattle.fac_vocab.specs.Scopes.{Scope}
use Rattle.fac_vocab.specs.ScopeCalls.{answer_of}
use Rattle.fac_vocab.specs.inner.Rows.{LeastUsed}
use Rattle.fac_vocab.proofs.SearchLemmas.{found_near, answer_used}
use Rattle.fac_vocab.proofs.scope.Scope.find.Goals as goal

pub returns-in-Some : goal.returns-in-Some
returns-in-Some c = ap answer_of (found_near c.args.self.now c.args.name.now c.in-Some.word c.in-Some.ensures)

pub returns-in-None : goal.returns-in-None
returns-in-None c =
    answer_used c.args.self.now c.args.name.now c.entries.result.now c.least_among.result c.in-None.ensures (c.entries.ensures.all ∙ ap (λ (s : Scope). s.table) c.self.view_is) (subst (λ (s : Scope). LeastUsed s.table c.args.name.now s.used c.least_among.result) c.self.view_is c.least_among.ensures)
    ∙ c.found_of.ensures
