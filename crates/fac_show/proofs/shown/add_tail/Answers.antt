use Rattle.std.specs.Prelude.{slice_get}
use Rattle.fac_show.proofs.FormLemmas.{tail_of_tuple, tail_of_array, tail_of_none}
use Rattle.fac_show.proofs.shown.add_tail.Goals as goal

pub returns-in-Some : goal.returns-in-Some
returns-in-Some c = rw (tail_of_tuple (slice_get c.args.printing.store.now.objects c.args.number) c.in-Some.field-0 c.in-Some.ensures) c.add.ensures

pub returns-in-Some-elements : goal.returns-in-Some-elements
returns-in-Some-elements c = rw (tail_of_array (slice_get c.args.printing.store.now.objects c.args.number) c.in-Some-elements.field-0.now c.in-Some-elements.ensures.values) c.add-in-Some-elements.ensures

pub returns-in-None-elements : goal.returns-in-None-elements
returns-in-None-elements c = rw (tail_of_none (slice_get c.args.printing.store.now.objects c.args.number) c.in-None.ensures c.in-None-elements.ensures.values) c.add-in-None-elements.ensures
