use Rattle.std.proofs.Common.{ℕ, List, Err, string_bytes, subst}
use Rattle.fac_lang.specs.Printed.{printed}
use Rattle.fac_base.specs.declared.limits.TheConstants.{MOST_PRINTED_LEVELS}
use Rattle.fac_code.specs.ImageNames.{image_names}
use Rattle.fac_store.specs.MachineValues.{machine_values}
use Rattle.fac_store.specs.ValueTrees.{trees_of, value_in}
use Rattle.fac_show.specs.inner.Adding.{Adds}
use Rattle.fac_show.specs.inner.StoredForms.{stored_form}
use Rattle.fac_show.proofs.AddingLemmas.{shown_of, not_shown}
use Rattle.fac_show.proofs.FormLemmas.{form_is}
use Rattle.fac_show.proofs.shown.show.Goals as goal

pub returns-in-Err : goal.returns-in-Err
returns-in-Err c = λ w e.
    let N = image_names c.args.image.now in
    let s = c.args.store.now in
    let form = stored_form s N MOST_PRINTED_LEVELS c.args.value in
    not_shown c.args.limit form (printed machine_values N w (value_in (trees_of s) c.args.value)) (string_bytes c.add_value.new.line) c.in-Err.fault
    (subst (λ (old : List ℕ). Adds c.args.limit old form (string_bytes c.add_value.new.line) (Err c.in-Err.fault)) c.new-line.ensures.bytes c.in-Err.ensures)
    (form_is s N w MOST_PRINTED_LEVELS c.args.value e)

pub returns-in-Ok : goal.returns-in-Ok
returns-in-Ok c = λ w e.
    let N = image_names c.args.image.now in
    let s = c.args.store.now in
    rw c.from_string.ensures
    (shown_of c.args.limit (stored_form s N MOST_PRINTED_LEVELS c.args.value) (printed machine_values N w (value_in (trees_of s) c.args.value)) (string_bytes c.add_value.new.line) c.in-Ok.field-0 (rw c.new-line.ensures.bytes at c.in-Ok.ensures)
    (form_is s N w MOST_PRINTED_LEVELS c.args.value e))
