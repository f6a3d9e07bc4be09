use Rattle.std.proofs.Common.{◌≡◌, ◌∷◌, length, ◌∙◌, ap, arith}
use Rattle.std.specs.Vec.Iter.{into_iter_items}
use Rattle.fac_names.specs.inner.State.{reading_of}
use Rattle.fac_names.proofs.FileLemmas.{form_taken, next_form}
use Rattle.fac_names.proofs.files.take_forms.Goals as goal

pub take_form-requires : goal.take_form-requires
take_form-requires c = (next_form _ _ c.in-Some.form c.loop-form.invariant.0 c.in-Some.ensures.steps.0).0

pub loop-form-preserved : goal.loop-form-preserved
loop-form-preserved c =
    let at = c.loop-form in
    let f = c.in-Some.form in
    let next : into_iter_items at.form-iterator ≡ f ∷ into_iter_items c.next.new.self = c.in-Some.ensures.steps.0 in
    let was = at.invariant.2 in
    let gone = c.in-Some.ensures.steps.1 in
    let short = ap length next in (
      (next_form _ _ f at.invariant.0 next).1,
      at.invariant.1 ∙ form_taken (reading_of at.so_far) (reading_of c.take_form.new.so_far) (into_iter_items at.form-iterator) (into_iter_items c.next.new.self) f next c.in_ok-take_form.ensures,
      omega (arith, was, gone, short),
    )
