use Rattle.std.proofs.Common.{sym}
use Rattle.fac_judge.proofs.MeaningLemmas.{next_whole}
use Rattle.fac_judge.proofs.meaning.meaning_of.Goals as goal

pub returns-in-Err : goal.returns-in-Err
returns-in-Err g c = c.no_meaning.ensures c.args.known c.args.count c.args.text.now c.in-Err.ensures

pub meaning_of_program-requires-after_bounds : goal.meaning_of_program-requires-after_bounds
meaning_of_program-requires-after_bounds g c κs within = next_whole c.known_goes_on.ensures c.args.known c.in-Ok.next c.args.text.now c.program_of.result c.requires c.in-Ok.ensures c.program_of.ensures

pub returns-in-Ok : goal.returns-in-Ok
returns-in-Ok g c = c.meaning_of_program.ensures c.args.known c.in-Ok.next c.args.text.now c.in-Ok.ensures (sym c.program_of.ensures)
