use Rattle.std.proofs.Common.{List, reverse, ap, ◌∙◌}
use Rattle.std.specs.Option.{option_copied}
use Rattle.fac_abs.specs.RowVariables.{Row}
use Rattle.fac_abs.specs.declared.reached.Reached.{Reached}
use Rattle.fac_rows.specs.declared.binding.Bound.{Bound}
use Rattle.fac_rows.specs.RowBinding.{bound_to}
use Rattle.fac_rows.specs.inner.Bounds.{all_seen}
use Rattle.fac_rows.specs.inner.Ties.{row_by}
use Rattle.fac_rows.proofs.BindingLemmas.{found_where}
use Rattle.fac_rows.proofs.binding.Binding.find.Goals as goal

pub returns : goal.returns
returns c = λ M there.
    let r : Row = row_by (option_copied c.args.row) in
    found_where M r c.args.self.now c.find_in.result (c.find_in.ensures ∙ ap (λ (xs : List Bound). bound_to r (all_seen (reverse xs))) c.as_slice.ensures.value ∙ ap (λ (bs : List (Row × Reached)). bound_to r bs) c.self.view_is) there
