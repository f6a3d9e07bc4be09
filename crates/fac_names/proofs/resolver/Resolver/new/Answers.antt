use Rattle.fac_names.proofs.TakenLemmas.{none_taken}
use Rattle.fac_names.proofs.resolver.Resolver.new.Goals as goal

pub returns-in-Ok : goal.returns-in-Ok
returns-in-Ok c = none_taken (record { so_far = c.in-Ok.so_far }) c.in-Ok.ensures
