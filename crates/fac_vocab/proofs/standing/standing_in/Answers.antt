use Rattle.std.proofs.Common.{◌∙◌, sym, ap}
use Rattle.fac_vocab.specs.inner.Rows.{deferred_at}
use Rattle.fac_vocab.proofs.RowLemmas.{stands_defined, stands_open}
use Rattle.fac_vocab.proofs.standing.standing_in.Goals as goal

pub returns-then-is_defined : goal.returns-then-is_defined
returns-then-is_defined c = stands_defined c.args.entries.now c.args.vocab.now c.args.numbers.now (sym c.if-is_defined.ensures)

pub returns : goal.returns
returns c = c.deferred_of.ensures ∙ ap (deferred_at c.args.entries.now) c.first_holder.ensures ∙ stands_open c.args.entries.now c.args.vocab.now c.args.numbers.now (sym c.if-is_defined.ensures)
