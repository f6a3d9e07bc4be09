use Rattle.fac_check.proofs.RowEntries.{entry_there}
use Rattle.fac_check.proofs.subject.Subject.row_word.Goals as goal

pub returns : goal.returns
returns c =
    let s = c.args.self in
    entry_there s.closed.now.program.words s.rows.now.entries c.args.number c.args.word.now _ s.entries_are c.requires c.get.ensures
