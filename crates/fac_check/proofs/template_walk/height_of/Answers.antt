use Rattle.std.proofs.Common.{ℕ, Some, sym, ap, ◌∙◌}
use Rattle.fac_base.specs.declared.height.Height.{Height}
use Rattle.fac_check.specs.TemplateWalks.{found_height}
use Rattle.fac_check.specs.declared.walker.Walked.TheVariants.{Found}
use Rattle.fac_check.specs.inner.Walking.{walked_seen}
use Rattle.fac_check.proofs.template_walk.height_of.Goals as goal

pub returns-in-On : goal.returns-in-On
returns-in-On c = λ N.
    ap (λ (n : ℕ). let h : Height = record { ins = c.args.inputs; outs = Some n } in Some h) (c.height.ensures N)
    ∙ ap (λ W. found_height c.args.inputs (walked_seen N c.args.marks.now W)) (sym (c.in-Found.is ∙ ap (λ A. Found A c.in-Found.field-1) c.in-On.is))
