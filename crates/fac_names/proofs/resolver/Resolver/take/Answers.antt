use Rattle.fac_names.proofs.ReadingLemmas.{on_ok}
use Rattle.fac_names.proofs.TakenLemmas.{more_taken}
use Rattle.fac_names.proofs.resolver.Resolver.take.Goals as goal

pub returns : goal.returns
returns c = λ files before h. on_ok c.take_forms.result (λ is. more_taken c.args.self.now (record { so_far = c.take_forms.new.so_far }) c.args.forms is files before h) c.take_forms.ensures
