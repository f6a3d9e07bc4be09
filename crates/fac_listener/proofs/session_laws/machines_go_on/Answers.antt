use Rattle.fac_listener.proofs.GoOnLemmas.{goes_on_with}
use Rattle.fac_listener.proofs.session_laws.machines_go_on.Goals as goal

pub returns : goal.returns
returns c =
    goes_on_with c.values_stay_the_same.ensures c.values_stand_longer.ensures c.new_arrays_are_the_same.ensures c.new_arrays_stand.ensures c.valid_stays.ensures c.standing_values_are_whole.ensures c.standing_objects_are_whole.ensures c.images_go_on.ensures
