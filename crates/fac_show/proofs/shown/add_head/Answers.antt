use Rattle.std.specs.Prelude.{slice_get}
use Rattle.fac_code.specs.ImageNames.{image_names}
use Rattle.fac_show.proofs.FormLemmas.{head_of_tuple, head_of_array, head_of_none}
use Rattle.fac_show.proofs.shown.add_head.Goals as goal

pub returns-in-Some : goal.returns-in-Some
returns-in-Some c = rw (head_of_tuple (image_names c.args.printing.image.now) (slice_get c.args.printing.store.now.objects c.args.number) c.in-Some.kind c.in-Some.ensures) c.add_class.ensures

pub returns-in-Some-elements : goal.returns-in-Some-elements
returns-in-Some-elements c = rw (head_of_array (image_names c.args.printing.image.now) (slice_get c.args.printing.store.now.objects c.args.number) c.in-Some-elements.field-0.now c.in-Some-elements.ensures.values) c.add.ensures

pub returns-in-None-elements : goal.returns-in-None-elements
returns-in-None-elements c = rw (head_of_none (image_names c.args.printing.image.now) (slice_get c.args.printing.store.now.objects c.args.number) c.in-None.ensures c.in-None-elements.ensures.values) c.add-in-None-elements.ensures
