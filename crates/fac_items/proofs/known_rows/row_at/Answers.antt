use Rattle.std.proofs.Common.{sym, ◌∙◌}
use Rattle.fac_items.proofs.KnownRowLemmas.{behind_primitives, found_at, past_at, primitive_at}
use Rattle.fac_items.proofs.known_rows.row_at.Goals as goal

pub returns-in-Some : goal.returns-in-Some
returns-in-Some c =
    let rows = c.primitives-rows.result.now in
    sym (primitive_at rows c.args.number c.in-Some.row.now c.primitives-rows.ensures (found_at rows c.args.number c.in-Some.row.now _ c.in-Some.ensures.lookup.0 c.in-Some.ensures.lookup.1))

pub returns-in-None : goal.returns-in-None
returns-in-None c =
    let rows = c.primitives-rows.result.now in
    c.core_row.ensures ∙ sym (behind_primitives rows c.args.number c.primitives-rows.ensures (past_at rows c.args.number c.in-None.ensures.lookup.0))
