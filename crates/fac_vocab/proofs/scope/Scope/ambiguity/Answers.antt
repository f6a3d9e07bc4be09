use Rattle.std.proofs.Common.{◌≡◌, ◌∙◌, ap, sym, subst, Option, IfOk}
use Rattle.fac_base.specs.declared.name.Name.{Name}
use Rattle.fac_vocab.specs.Scopes.{Scope}
use Rattle.fac_vocab.specs.ScopeCalls.{names_between}
use Rattle.fac_vocab.specs.inner.Rows.{LeastUsed}
use Rattle.fac_vocab.proofs.SearchLemmas.{found_near, names_used}
use Rattle.fac_vocab.proofs.scope.Scope.ambiguity.Goals as goal

pub returns-in-Some : goal.returns-in-Some
returns-in-Some c = ap names_between (sym (found_near c.args.self.now c.args.name.now c.in-Some.field-0 c.in-Some.ensures))

pub returns-in-None : goal.returns-in-None
returns-in-None c =
    let is = names_used c.args.self.now c.args.name.now c.entries.result.now c.least_among.result c.in-None.ensures (c.entries.ensures.all ∙ ap (λ (s : Scope). s.table) c.self.view_is) (subst (λ (s : Scope). LeastUsed s.table c.args.name.now s.used c.least_among.result) c.self.view_is c.least_among.ensures) in
    subst (λ (o : Option (Name × Name)). IfOk c.names_of.result (λ names. names ≡ o)) (sym is) c.names_of.ensures
