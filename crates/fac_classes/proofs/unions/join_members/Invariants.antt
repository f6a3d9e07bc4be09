use Rattle.std.proofs.Common.{take}
use Rattle.fac_classes.specs.inner.Filling.{JoinsMembers}
use Rattle.fac_classes.proofs.unions.join_members.Given as goal

abbrev pub invariant-loop-member : goal.invariant-loop-member
invariant-loop-member l = JoinsMembers l.classes l.width l.class (take l.member-index l.member-items) l.initial.cells l.cells l.last
