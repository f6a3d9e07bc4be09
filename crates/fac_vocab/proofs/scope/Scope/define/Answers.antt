use Rattle.fac_vocab.specs.Scopes.{holders}
use Rattle.fac_vocab.proofs.RowLemmas.{new_held}
use Rattle.fac_vocab.proofs.LeastLemmas.{least_settled}
use Rattle.fac_vocab.proofs.scope.Scope.define.Goals as goal

pub add_entry-requires-clause-new : goal.add_entry-requires-clause-new
add_entry-requires-clause-new c = new_held c.self.inside.table c.args.name.now.vocab c.args.name.now.name c.in-New.ensures

pub invariant_of-self-in-Deferred : goal.invariant_of-self-in-Deferred
invariant_of-self-in-Deferred c =
    let name = c.args.name.now in
    let table = c.self.inside.table in
    (c.self.invariant.0, least_settled c.self.inside.leasts.is_kept c.self.inside.leasts.kept table c.settle.new.self (holders table name.vocab name.name) c.self.inside.used c.settle.ensures c.self.invariant.1)
