use Rattle.fac_abs.specs.SeenMarks.{base_seen, stack_of, reached_seen}
use Rattle.fac_rows.proofs.BindingLemmas.{short_covers, rest_covers}
use Rattle.fac_rows.proofs.binding.covers_below.Goals as goal

pub returns-in-None : goal.returns-in-None
returns-in-None c = λ N. short_covers (reached_seen N c.args.marks.now c.args.bound) c.args.outs (base_seen N c.args.base) (stack_of N c.args.marks.now c.args.stack) (c.in-None.ensures N)

pub returns-in-Some : goal.returns-in-Some
returns-in-Some c = λ N.
    rest_covers c.covers.result (reached_seen N c.args.marks.now c.args.bound) c.args.outs (base_seen N c.args.base) (stack_of N c.args.marks.now c.args.stack) (stack_of N c.args.marks.now c.in-Some.rest) (c.in-Some.ensures.1 N) (c.covers.ensures N)
