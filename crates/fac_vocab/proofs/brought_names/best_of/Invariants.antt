use Rattle.std.proofs.Common.{ℕ}
use Rattle.std.specs.Prelude.{slice_get}
use Rattle.fac_vocab.specs.inner.BroughtForms.{AtMost, GivesBest}
use Rattle.fac_vocab.proofs.LatestLemmas.{CoversTo}
use Rattle.fac_vocab.proofs.brought_names.best_of.Given as goal

abbrev pub invariant-loop-index : goal.invariant-loop-index
invariant-loop-index l = (GivesBest l.table l.forms l.name l.fn.best → GivesBest l.table l.forms l.name l.next) × ((m : ℕ) → AtMost m l.fn.best → AtMost m l.next) × CoversTo l.table l.forms l.name (slice_get l.vocabs.entries) l.index l.next
