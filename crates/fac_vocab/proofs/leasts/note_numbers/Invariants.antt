use Rattle.std.proofs.Common.{◌≡◌, List, ℕ, true, false}
use Rattle.std.specs.List.{list_any}
use Rattle.std.specs.Str.{bytes_eq}
use Rattle.indexmap.specs.IndexMap.{get_by_text}
use Rattle.fac_vocab.specs.ScopeCalls.{names_differ}
use Rattle.fac_vocab.specs.inner.Late.{late_numbers, number_by}
use Rattle.fac_vocab.specs.inner.Leasts.{AreLeast}
use Rattle.fac_vocab.proofs.LeastLemmas.{LeastTo}
use Rattle.fac_vocab.proofs.leasts.note_numbers.Given as goal

abbrev pub invariant-loop-index : goal.invariant-loop-index
invariant-loop-index l = (used : List (List ℕ)) (v : List ℕ) → names_differ l.entries ≡ true → list_any (bytes_eq v) used ≡ false → ((q : List ℕ) → get_by_text l.numbers q ≡ number_by (bytes_eq v) l.entries (late_numbers q l.entries)) → AreLeast l.initial.kept l.entries used → LeastTo l.kept l.entries used v l.numbers.entries l.index
