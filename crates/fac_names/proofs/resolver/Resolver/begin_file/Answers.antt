use Rattle.fac_names.proofs.ReadingLemmas.{on_ok}
use Rattle.fac_names.proofs.TakenLemmas.{file_begun}
use Rattle.fac_names.proofs.resolver.Resolver.begin_file.Goals as goal

pub returns : goal.returns
returns c = λ files h. on_ok c.begin_file.result (λ is. file_begun c.args.self.now (record { so_far = c.begin_file.new.so_far }) is files h) c.begin_file.ensures
