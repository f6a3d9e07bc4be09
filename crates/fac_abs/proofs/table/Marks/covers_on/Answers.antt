use Rattle.fac_abs.specs.SeenMarks.{base_seen, stack_of}
use Rattle.fac_abs.proofs.BaseLemmas.{covers_none}
use Rattle.fac_abs.proofs.table.Marks.covers_on.Goals as goal

pub returns-then-not-same_base : goal.returns-then-not-same_base
returns-then-not-same_base c = λ N. covers_none (base_seen N c.args.base) (base_seen N c.args.other) (stack_of N c.args.self.now c.args.stack) (stack_of N c.args.self.now c.args.got) (c.if-not-same_base.ensures N)
