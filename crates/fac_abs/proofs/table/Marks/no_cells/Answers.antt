use Rattle.std.proofs.Common.{[], subst, refl}
use Rattle.std.specs.Map.{keys_of}
use Rattle.fac_abs.specs.SeenMarks.{MarksSeen}
use Rattle.fac_abs.specs.MarkPromises.{IsFrameOf}
use Rattle.fac_abs.proofs.SeenLemmas.{made_frame}
use Rattle.fac_abs.proofs.table.Marks.no_cells.Goals as goal

pub returns : goal.returns
returns c = subst (λ (M : MarksSeen). IsFrameOf M c.empty.result (λ N. [])) c.self.view_is (made_frame c.self.inside.templates c.self.inside.frames (keys_of c.self.inside.nodes) c.self.inside.stack_nodes c.empty.result [] (λ N. []) c.empty.ensures.empty refl (λ N. refl))
