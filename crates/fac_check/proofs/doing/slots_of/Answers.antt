use Rattle.std.proofs.Common.{sym, ◌∙◌}
use Rattle.fac_check.proofs.ClassDoings.{slots_found}
use Rattle.fac_check.proofs.doing.slots_of.Goals as goal

pub returns-in-Tuple : goal.returns-in-Tuple
returns-in-Tuple c =
    let C = c.args.closed.now in
    c.copied.ensures ∙ c.get-in-Tuple.ensures ∙ slots_found C.program.classes c.args.class c.in-Some.found.now c.in-Tuple.parent c.in-Tuple.slots C.slots (sym c.in-Some.ensures) c.in-Tuple.is C.counted
