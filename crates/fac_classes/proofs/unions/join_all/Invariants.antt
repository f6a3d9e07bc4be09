use Rattle.fac_classes.proofs.UnionLemmas.{UnionsSoFar}
use Rattle.fac_classes.proofs.unions.join_all.Given as goal

abbrev pub invariant-loop-class : goal.invariant-loop-class
invariant-loop-class l = UnionsSoFar l.classes l.width l.class-index l.order l.cells l.last
