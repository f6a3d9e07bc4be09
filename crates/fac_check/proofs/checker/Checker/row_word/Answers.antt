use Rattle.fac_check.proofs.RowEntries.{entry_there}
use Rattle.fac_check.proofs.checker.Checker.row_word.Goals as goal

pub returns : goal.returns
returns c =
    let k = c.args.self.now in
    entry_there k.closed.now.program.words k.rows.now.entries c.args.number c.args.word.now _ k.entries_are c.requires c.get.ensures
