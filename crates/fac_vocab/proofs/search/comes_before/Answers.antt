use Rattle.std.proofs.Common.{◌∙◌, sym}
use Rattle.fac_vocab.specs.Scopes.{full_text}
use Rattle.fac_vocab.proofs.OrderLemmas.{order_decided, order_open}
use Rattle.fac_vocab.proofs.search.comes_before.Goals as goal

pub returns-in-Some : goal.returns-in-Some
returns-in-Some c = order_decided (full_text c.args.entry.now) (full_text c.args.other.now) c.loop-before.index c.in-Some.before c.in-Some.ensures.order ∙ sym c.loop-before.invariant

pub loop-before-preserved : goal.loop-before-preserved
loop-before-preserved c = c.loop-before.invariant ∙ order_open (full_text c.args.entry.now) (full_text c.args.other.now) c.loop-before.index c.in-None.ensures.order
