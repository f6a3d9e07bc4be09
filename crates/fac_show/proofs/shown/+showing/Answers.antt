use Rattle.fac_code.specs.ImageNames.{image_names}
use Rattle.fac_show.proofs.FormLemmas.{object_below}
use Rattle.fac_show.proofs.shown.+showing.Goals as goal

pub add_object-returns : goal.add_object-returns
add_object-returns d c = rw (object_below c.args.printing.store.now (image_names c.args.printing.image.now) c.args.levels c.args.number c.if-levels-eq0.false) c.add_members.ensures
