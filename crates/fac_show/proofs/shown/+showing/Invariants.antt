use Rattle.std.proofs.Common.{◌≡◌, ◌≤◌, ◌+◌, ◌*◌, ◌++◌, length, map, drop, string_bytes}
use Rattle.fac_code.specs.ImageNames.{image_names}
use Rattle.fac_lang.specs.Printed.{spaced}
use Rattle.fac_show.specs.inner.StoredForms.{stored_form}
use Rattle.fac_show.proofs.shown.+showing.Given as goal

-- levels fall from an object to its values, and on the way each function has a smaller rank
abbrev pub decreases-add_value : goal.decreases-add_value
decreases-add_value l = 5 * l.levels + 2

abbrev pub decreases-add_object : goal.decreases-add_object
decreases-add_object l = 5 * l.levels + 1

abbrev pub decreases-add_members : goal.decreases-add_members
decreases-add_members l = 5 * l.levels + 5

abbrev pub decreases-add_each : goal.decreases-add_each
decreases-add_each l = 5 * l.levels + 4

abbrev pub decreases-add_spaced : goal.decreases-add_spaced
decreases-add_spaced l = 5 * l.levels + 3

-- what was added and what is left, and that the line stays within the limit
abbrev pub invariant-add_each-loop-value : goal.invariant-add_each-loop-value
invariant-add_each-loop-value l = (string_bytes l.line ++ spaced (map (stored_form l.printing.store.now (image_names l.printing.image.now) l.levels) (drop l.value-index l.values)) ≡ string_bytes l.initial.line ++ spaced (map (stored_form l.printing.store.now (image_names l.printing.image.now) l.levels) l.values)) × (length (string_bytes l.initial.line) ≤ l.printing.limit → length (string_bytes l.line) ≤ l.printing.limit)
