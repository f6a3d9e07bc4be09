use Rattle.fac_names.proofs.TextLemmas.{files_known}
use Rattle.fac_names.proofs.resolver.Resolver.known.Goals as goal

pub returns : goal.returns
returns c = files_known c.args.self c.end_files.result c.end_files.ensures
