use Rattle.std.proofs.Common.{ℕ}
use Rattle.std.specs.Prelude.{slice_get}
use Rattle.fac_vocab.specs.inner.BroughtForms.{AtMost, GivesBest, entry_number}
use Rattle.fac_vocab.proofs.LatestLemmas.{CoversTo}
use Rattle.fac_vocab.proofs.brought_names.best_by_entries.Given as goal

abbrev pub invariant-loop-index : goal.invariant-loop-index
invariant-loop-index l = (GivesBest l.table l.forms l.name l.fn.best → GivesBest l.table l.forms l.name l.next) × ((m : ℕ) → AtMost m l.fn.best → AtMost m l.next) × CoversTo l.table l.forms l.name (λ j. entry_number l.vocabs l.table (slice_get l.numbers j)) l.index l.next
