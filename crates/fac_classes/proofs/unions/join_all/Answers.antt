use Rattle.std.proofs.Common.{arith}
use Rattle.fac_classes.proofs.UnionLemmas.{unions_start, order_here, order_low, unions_more, unions_all}
use Rattle.fac_classes.proofs.unions.join_all.Goals as goal

pub loop-class-init : goal.loop-class-init
loop-class-init c = unions_start c.args.classes.now c.args.width c.args.order.now c.args.cells.now c.args.last.now c.requires.remembers c.requires.right c.requires.simple

pub join_members-requires-clause-class : goal.join_members-requires-clause-class
join_members-requires-clause-class c = order_low c.args.classes.now c.loop-class.class-index c.args.order.now c.requires.order c.loop-class-test.true

pub join_members-requires-clause-members : goal.join_members-requires-clause-members
join_members-requires-clause-members c = λ m q. order_here c.args.classes.now c.args.width c.loop-class.class-index m c.args.order.now c.loop-class.cells c.loop-class.last c.requires.order c.loop-class-test.true c.loop-class.invariant q

pub loop-class-preserved : goal.loop-class-preserved
loop-class-preserved c = unions_more c.args.classes.now c.requires.sound c.args.width c.loop-class.class-index c.args.order.now c.loop-class.cells c.join_members.new.cells c.loop-class.last c.join_members.new.last c.requires.order c.loop-class-test.true c.loop-class.invariant c.join_members.ensures

pub returns : goal.returns
returns c = unions_all c.args.classes.now c.args.width c.loop-class.class-index c.args.order.now c.loop-class.cells c.loop-class.last c.requires.order (omega (arith, c.loop-class-test.false)) c.loop-class.invariant
