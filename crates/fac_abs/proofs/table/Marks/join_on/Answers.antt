use Rattle.fac_abs.specs.SeenMarks.{base_seen, stack_of}
use Rattle.fac_abs.proofs.BaseLemmas.{apart_bases}
use Rattle.fac_abs.proofs.table.Marks.join_on.Goals as goal

pub returns-then-not-same_base-clause-made : goal.returns-then-not-same_base-clause-made
returns-then-not-same_base-clause-made c = λ N. apart_bases (base_seen N c.args.base) (base_seen N c.args.other) (stack_of N c.args.self.now c.args.stack) (stack_of N c.args.self.now c.args.below) (c.if-not-same_base.ensures N)
