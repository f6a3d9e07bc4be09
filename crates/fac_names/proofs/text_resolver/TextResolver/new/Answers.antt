use Rattle.fac_names.proofs.TextLemmas.{none_gone}
use Rattle.fac_names.proofs.text_resolver.TextResolver.new.Goals as goal

pub returns-in-Ok : goal.returns-in-Ok
returns-in-Ok c = none_gone c.args.known (record { so_far = c.in-Ok.so_far }) c.in-Ok.ensures
