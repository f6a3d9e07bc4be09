use Rattle.fac_names.proofs.ReadingLemmas.{on_ok}
use Rattle.fac_names.proofs.TextLemmas.{more_gone}
use Rattle.fac_names.proofs.text_resolver.TextResolver.take.Goals as goal

pub returns : goal.returns
returns c = λ known before h. on_ok c.take_forms.result (λ is. more_gone c.args.self.now (record { so_far = c.take_forms.new.so_far }) c.args.forms is known before h) c.take_forms.ensures
