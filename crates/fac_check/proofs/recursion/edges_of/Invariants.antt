use Rattle.std.proofs.Common.{◌≡◌, drop}
use Rattle.fac_lang.specs.declared.program.Program.{Program}
use Rattle.fac_locals.specs.Closed.{Closes}
use Rattle.fac_check.proofs.EdgesOfWords.{EdgesLeft}
use Rattle.fac_check.proofs.recursion.edges_of.Given as goal

abbrev pub invariant-loop-word : goal.invariant-loop-word
invariant-loop-word l =
    record {
      count : l.number ≡ l.word-index;
      so_far : (P : Program) → Closes P l.closed.program l.closed.templates → EdgesLeft P l.number (drop l.word-index l.word-items) l.edges;
    }
