use Rattle.std.proofs.Common.{ap, sym, ◌∙◌}
use Rattle.std.specs.Prelude.{is_some}
use Rattle.fac_items.specs.inner.TakenBits.{locals_seen}
use Rattle.fac_items.proofs.LocalLemmas.{among_local}
use Rattle.fac_items.proofs.locals.is_among.Goals as goal

pub returns : goal.returns
returns c = c.is_some.ensures ∙ ap is_some c.local_of.ensures ∙ sym (among_local c.args.name.now (locals_seen c.args.names.now))
