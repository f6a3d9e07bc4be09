use Rattle.std.proofs.Common.{arith}
use Rattle.fac_graph.proofs.SearchSteps.{path_there, steps_back}
use Rattle.fac_graph.proofs.components.step.Goals as goal

pub close-requires-clause-path : goal.close-requires-clause-path
close-requires-clause-path c = path_there c.args.edges.now c.args.search.now c.requires.search

pub returns-else-len-top : goal.returns-else-len-top
returns-else-len-top c = steps_back c.args.edges.now c.args.search.now c.close.new.search c.args.top c.requires.search c.requires.top (omega (arith, c.if-len-top.false, c.len.ensures)) c.close.ensures
