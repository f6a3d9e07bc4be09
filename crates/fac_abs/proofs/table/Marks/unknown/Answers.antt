use Rattle.std.proofs.Common.{ℕ, subst, sym}
use Rattle.std.specs.Map.{keys_of}
use Rattle.fac_lang.specs.Phrases.{any}
use Rattle.fac_abs.specs.SeenMarks.{MarksSeen}
use Rattle.fac_abs.specs.MarkPromises.{IsMarkOf}
use Rattle.fac_abs.proofs.SeenLemmas.{seen, first_mark}
use Rattle.fac_abs.proofs.table.Marks.unknown.Goals as goal

pub returns-clause-any : goal.returns-clause-any
returns-clause-any c =
    let ns = keys_of c.self.inside.nodes in
    let ss = c.self.inside.stack_nodes in
    subst (λ (M : MarksSeen). IsMarkOf M c.first.result (λ N. any)) c.self.view_is (subst (λ (k : ℕ). IsMarkOf (seen c.self.inside.templates c.self.inside.frames ns ss) k (λ N. any)) (sym c.first.ensures.zero) (first_mark c.self.inside.templates c.self.inside.frames ns ss c.first.ensures.table c.self.invariant.0))
