use Rattle.std.proofs.Common.{sym, subst}
use Rattle.fac_spelling.specs.inner.TakenBehind.{Differ}
use Rattle.fac_spelling.proofs.CountLaws.{differ_from}
use Rattle.fac_spelling.proofs.fresh.TakenNumbers.find.Goals as goal

pub fresh_from-requires : goal.fresh_from-requires
fresh_from-requires c = subst Differ (sym c.as_slice.ensures.keys) (differ_from c.self.inside.numbers.keys c.as_slice.ensures.unique)
