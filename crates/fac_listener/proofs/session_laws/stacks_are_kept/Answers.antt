use Rattle.fac_listener.proofs.PhraseLemmas.{can_cut}
use Rattle.fac_listener.proofs.session_laws.stacks_are_kept.Goals as goal

pub returns : goal.returns
returns c = λ s m ready input rest what next count ticks before mid many runs.
    can_cut c.runs_have_one_end.ensures c.runs_dont_tell_addresses.ensures c.runs_leave_values_below.ensures c.safe_programs_are_not_stuck.ensures c.standing_values_are_whole.ensures c.standing_objects_are_whole.ensures c.runs_keep_standing.ensures c.printed_forms_are_equal.ensures
    s m ready.holds ready.ready input what next count ticks before mid rest many runs
