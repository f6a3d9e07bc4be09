use Rattle.std.proofs.Common.{length, refl}
use Rattle.std.proofs.lemmas.Option.{slice_get_read, slice_get_past}
use Rattle.fac_vocab.proofs.TableLemmas.{set_defined, none_defined}
use Rattle.fac_vocab.proofs.table.define_at.Goals as goal

pub returns-in-Some : goal.returns-in-Some
returns-in-Some c = set_defined c.args.number c.args.entries.now.items c.in-Some.entry.now (slice_get_read c.args.entries.now.items (length c.args.entries.now.items) c.args.number c.in-Some.entry.now refl c.in-Some.ensures.item.3.0 c.in-Some.ensures.value)

pub returns-in_default : goal.returns-in_default
returns-in_default c = none_defined c.args.number c.args.entries.now.items (slice_get_past c.args.entries.now.items c.args.number c.in_default.ensures.item.3)
