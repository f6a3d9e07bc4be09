use Rattle.fac_graph.specs.Paths.{AreLeadingBack}
use Rattle.fac_check.specs.Judged.{AreUndeclared}
use Rattle.fac_check.proofs.EdgesOfWords.{if_ok}
use Rattle.fac_check.proofs.TakenPrograms.{taken_program}
use Rattle.fac_check.proofs.UndeclaredWords.{flags_are}
use Rattle.fac_check.proofs.recursion.undeclared_words.Goals as goal

pub returns : goal.returns
returns c =
    let closed = c.args.closed.now in
    let edges = c.in_ok-edges.edges in
    if_ok (AreLeadingBack edges) (AreUndeclared closed.program closed.templates) c.leading_back.result (λ flags decides. flags_are closed.program closed.templates edges flags c.in_ok-edges.ensures decides) c.leading_back.ensures

pub edges_of-requires : goal.edges_of-requires
edges_of-requires c =
    let C = c.args.closed.now in
    let stands = c.requires in
    taken_program stands.0 C.program C.templates stands.1 stands.2
