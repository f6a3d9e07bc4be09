use Rattle.std.proofs.Common.{[], subst, refl}
use Rattle.std.specs.Map.{keys_of}
use Rattle.fac_abs.specs.SeenMarks.{MarksSeen}
use Rattle.fac_abs.specs.MarkPromises.{IsStackOf}
use Rattle.fac_abs.proofs.SeenLemmas.{made_stack}
use Rattle.fac_abs.proofs.table.Marks.empty.Goals as goal

pub returns : goal.returns
returns c =
    let ns = keys_of c.self.inside.nodes in
    let ss = c.self.inside.stack_nodes in
    subst (λ (M : MarksSeen). IsStackOf M c.empty.result (λ N. [])) c.self.view_is (made_stack c.self.inside.templates c.self.inside.frames ns ss ss c.empty.result [] (λ N. []) c.empty.ensures refl (λ N. refl))
