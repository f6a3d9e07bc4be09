use Rattle.std.proofs.Common.{sym, ap, ◌∙◌}
use Rattle.fac_code.specs.Code.{has_built_code}
use Rattle.fac_code.specs.References.{refers}
use Rattle.fac_code.proofs.image.Image.new.Goals as goal

pub invariant_of-result : goal.invariant_of-result
invariant_of-result c =
    record {
      built = ap has_built_code (sym c.as_slice.ensures) ∙ sym c.are_built.ensures ∙ c.if-not-are_built.false;
      refers = ap (λ code. refers c.args.tables code c.args.start) (sym c.as_slice-else-not-are_built.ensures) ∙ sym c.refers.ensures ∙ c.if-not-refers.false;
    }
