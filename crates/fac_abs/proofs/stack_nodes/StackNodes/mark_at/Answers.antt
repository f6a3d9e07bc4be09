use Rattle.std.proofs.Common.{[], get_or, ◌∙◌, arith}
use Rattle.fac_abs.proofs.StackLemmas.{place_within, place_past}
use Rattle.fac_abs.proofs.stack_nodes.StackNodes.mark_at.Goals as goal

pub returns-then-place-takes : goal.returns-then-place-takes
returns-then-place-takes c = place_past c.args.takes c.args.place (get_or c.args.self.now c.args.stack []) c.requires.takes c.if-place-takes.true

pub returns : goal.returns
returns c = c.mark_below.ensures ∙ place_within c.args.takes c.args.place (get_or c.args.self.now c.args.stack []) c.requires.takes (omega arith)
