use Rattle.fac_vocab.proofs.RowLemmas.{new_held}
use Rattle.fac_vocab.proofs.scope.Scope.defer.Goals as goal

pub add_entry-requires-clause-new : goal.add_entry-requires-clause-new
add_entry-requires-clause-new c = new_held c.self.inside.table c.args.name.now.vocab c.args.name.now.name c.in-New.ensures
