use Rattle.std.proofs.Common.{◌≡◌, fold, length}
use Rattle.std.specs.Vec.Iter.{into_iter_items, into_iter_len}
use Rattle.fac_parse.specs.Trees.{AreForms}
use Rattle.fac_names.specs.TakenForms.{take_flat}
use Rattle.fac_names.specs.inner.State.{reading_of}
use Rattle.fac_names.proofs.files.take_forms.Given as goal

abbrev pub invariant-loop-form : goal.invariant-loop-form
invariant-loop-form l = AreForms (into_iter_items l.form-iterator)
    × (fold take_flat (reading_of l.initial.so_far) (into_iter_items l.initial.form-iterator) ≡ fold take_flat (reading_of l.so_far) (into_iter_items l.form-iterator))
    × (into_iter_len l.form-iterator ≡ length (into_iter_items l.form-iterator))
