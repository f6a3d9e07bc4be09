use Rattle.std.proofs.Common.{◌≡◌, ◌++◌, List, ℕ, length}
use Rattle.fac_vocab.proofs.LatestLemmas.{Best}
use Rattle.fac_vocab.proofs.brought_names.latest_number.Given as goal
use denote.Shadow.{shadow}
use denote.Text.{Utf8}

abbrev pub invariant-loop-before : goal.invariant-loop-before
invariant-loop-before l = Best l.table l.forms l.name (length l.front) l.best × ((tail : List ℕ) × (l.name ≡ l.front ++ tail)) × shadow (Utf8 l.front)

abbrev pub decreases-loop-before : goal.decreases-loop-before
decreases-loop-before l = length l.front
