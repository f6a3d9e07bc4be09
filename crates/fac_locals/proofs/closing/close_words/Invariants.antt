use Rattle.std.proofs.Common.{◌≡◌, ◌++◌, length}
use Rattle.fac_locals.specs.inner.Numbering.{closed_words, WordsPassing}
use Rattle.fac_locals.proofs.closing.close_words.Given as goal

abbrev pub decreases-loop-word : goal.decreases-loop-word
decreases-loop-word l = length l.rest

abbrev pub invariant-loop-word : goal.invariant-loop-word
invariant-loop-word l = record {
  words_are : closed_words l.counts 0 l.initial.closing.next l.initial.rest ≡ l.closed ++ closed_words l.counts (length l.closed) l.closing.next l.rest;
  passing : WordsPassing l.counts l.initial.closing l.initial.rest (length l.closed) l.closing l.rest;
}
