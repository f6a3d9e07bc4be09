use Rattle.fac_names.proofs.TakenLemmas.{taken_resolves, taken_whole}
use Rattle.fac_names.proofs.resolver.Resolver.end.Goals as goal

pub returns-clause-program : goal.returns-clause-program
returns-clause-program c = taken_resolves c.args.self c.end.result c.end.ensures

pub returns-clause-whole : goal.returns-clause-whole
returns-clause-whole c = taken_whole c.args.self c.end.result c.end.ensures
