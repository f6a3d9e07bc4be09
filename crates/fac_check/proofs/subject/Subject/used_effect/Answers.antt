use Rattle.std.proofs.Common.{sym}
use Rattle.fac_check.proofs.RowEntries.{used_entry}
use Rattle.fac_check.proofs.subject.Subject.used_effect.Goals as goal

pub returns-in-Some-row_word : goal.returns-in-Some-row_word
returns-in-Some-row_word c =
    used_entry c.args.self.closed.now.program.words c.args.number c.in-Some.word.now c.in-Some-row_word.row.now (sym c.in-Some.ensures) c.in-Some-row_word.ensures
